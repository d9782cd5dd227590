-- "Proved cases, one table": K1 to K12 of document 01, each through the definition that a public function's promise cites. Assumes nothing.
use Rattle.std.specs.Prelude.{◌≡◌, Bool, true, false, List, [], ◌∷◌, map, ℕ, ℤ, pos, negsuc, replicate, take, Float}
use Rattle.std.specs.Float.{binary32}
use Rattle.std.specs.Float.Ieee.{of_int}
use Rattle.laws.specs.Checks.{first}
use Rattle.laws.specs.Lists.{at, tab}
use Rattle.laws.specs.Sum.{zero_f}
use Rattle.power_table.specs.Power.{power}
use Rattle.side_info.specs.declared.BlockType.{BlockType}
use Rattle.side_info.specs.declared.BlockType.TheVariants.{Long, Short, Mixed}
use Rattle.side_info.specs.declared.Edition.TheVariants.{First}
use Rattle.side_info.specs.declared.SideInfo.{SideInfo}
use Rattle.requantize.specs.Requantize.{requantized, requantize_checks}
use Rattle.reorder.specs.Reorder.{reordered, reorder_checks}
use Rattle.inversion.specs.Inversion.{inverted}
use Rattle.synthesis.specs.Synthesis.{synthesis_checks}
use Rattle.history.specs.History.{fresh_history}
use Rattle.granule.specs.declared.Part.{Part}
use Rattle.granule.specs.declared.Granule.{Granule}
use Rattle.backend.specs.Calls.{lent, answer}

-- ---- what a case says: "got" is what the definitions give, "told" what the paper says

pub data Value : Type 0 where
  number : ℕ → Value
  sample : Float → Value

pub record Case : Type 0 where
  pub k : ℕ
  pub got : List Value
  pub told : List Value

pub data AllHold : List Case → Type 0 where
  done : AllHold []
  holds : (c : Case) (cs : List Case) → c.got ≡ c.told → AllHold cs → AllHold (c ∷ cs)

-- ---- the inputs

abbrev pub whole : ℕ → Float
whole n = of_int binary32 (pos n)

abbrev pub wholes : List ℕ → List Value
wholes = map (λ n. sample (whole n))

-- a channel with one gain for its subblocks and one factor for all its bands
abbrev pub channel : BlockType → (gain : ℕ) → (scale pre : Bool) → (subblock factor count : ℕ) → SideInfo
channel kind gain scale pre subblock factor count = record {
  block_type = kind;
  global_gain = gain;
  scalefac_scale = scale;
  preflag = pre;
  subblock_gain = replicate 3 subblock;
  scalefac_l = replicate 22 factor;
  scalefac_s = replicate 39 factor;
  count1 = count;
}

-- "Gain 210 and factors 0 unless said"
abbrev pub block : BlockType → ℕ → SideInfo
block kind count = channel kind 210 false false 0 0 count

-- "all 8"
abbrev pub eights : List ℤ
eights = replicate 576 (pos 8)

-- place i of a channel's requantized numbers, by table 0
abbrev pub requantized_to : SideInfo → List ℤ → ℕ → Value
requantized_to s xs i = sample (at (requantized 0 s xs) i)

-- a granule of one channel at edition 1, and what `render` answers for it with a fresh history and room for n
abbrev pub mono : ℕ → SideInfo → Granule
mono table side =
    let part : Part = record { side = side; spectrum = eights } in record { edition = 1; table = table; channels = 1; mid_side = false; intensity = false; left = part; right = part }

abbrev pub rendered : ℕ → SideInfo → ℕ → Value
rendered table side n = number (answer (lent (mono table side) (replicate n zero_f)) fresh_history).reply.number

-- ---- the table

unfoldable pub cases : List Case
cases =
    -- K1 "powers of 0, 1, 8, 27, 1000, 8000: 0, 1, 16, 81, 10000, 160000"
    record { k = 1; got = map (λ n. sample (power n)) (0 ∷ 1 ∷ 8 ∷ 27 ∷ 1000 ∷ 8000 ∷ []); told = wholes (0 ∷ 1 ∷ 16 ∷ 81 ∷ 10000 ∷ 160000 ∷ []) }
    -- K2 "long 8 and -8: 16.0, -16.0; gain 214: 32.0"
    ∷ record {
      k = 2;
      got = requantized_to (block Long 576) eights 0 ∷ requantized_to (block Long 576) (replicate 576 (negsuc 7)) 0 ∷ requantized_to (channel Long 214 false false 0 0 576) eights 0 ∷ [];
      told = sample (whole 16) ∷ sample (of_int binary32 (negsuc 15)) ∷ sample (whole 32) ∷ [];
    }
    -- K3 "gain 206, factor 2, no scale: 8 gives 4.0"
    ∷ record { k = 3; got = requantized_to (channel Long 206 false false 0 2 576) eights 0 ∷ []; told = wholes (4 ∷ []) }
    -- K4 "preflag, scale, band 11: 8 gives 8.0"; band 11 of table 0 is 62 to 73
    ∷ record { k = 4; got = map (requantized_to (channel Long 210 true true 0 0 576) eights) (61 ∷ 62 ∷ 73 ∷ []); told = wholes (16 ∷ 8 ∷ 8 ∷ []) }
    -- K5 "short, subblock gain 1: 8 gives 4.0"
    ∷ record { k = 5; got = requantized_to (channel Short 210 false false 1 0 576) eights 0 ∷ []; told = wholes (4 ∷ []) }
    -- K6 "all 8, long, `count1` 3: place 2 is 16.0, place 3 is 8.0"
    ∷ record { k = 6; got = map (requantized_to (block Long 3) eights) (2 ∷ 3 ∷ []); told = wholes (16 ∷ 8 ∷ []) }
    -- K7 "all 8, short, `count1` 1, table 0: place 11 is 16.0, 12 is 8.0"
    ∷ record { k = 7; got = map (requantized_to (block Short 1) eights) (11 ∷ 12 ∷ []); told = wholes (16 ∷ 8 ∷ []) }
    -- K8 "mixed, `count1` 0: 35 is 16.0, 36 is 8.0"
    ∷ record { k = 8; got = map (requantized_to (block Mixed 0) eights) (35 ∷ 36 ∷ []); told = wholes (16 ∷ 8 ∷ []) }
    -- K9 "reorder 0 to 11, short, table 0, `count1` 0: 0 4 8 1 5 9 2 6 10 3 7 11"
    ∷ record {
      k = 9;
      got = map sample (take 12 (reordered First 0 Short 0 (tab 576 whole)));
      told = wholes (0 ∷ 4 ∷ 8 ∷ 1 ∷ 5 ∷ 9 ∷ 2 ∷ 6 ∷ 10 ∷ 3 ∷ 7 ∷ 11 ∷ []);
    }
    -- K10 "inversion changes 19, not 18 or 20"
    ∷ record {
      k = 10;
      got = map (λ i. sample (at (inverted (tab 576 whole)) i)) (18 ∷ 19 ∷ 20 ∷ []);
      told = sample (whole 18) ∷ sample (of_int binary32 (negsuc 18)) ∷ sample (whole 20) ∷ [];
    }
    -- K11 "`count1` 576 accepted, 577 refused 4; with table 3 too, 3": by requantize, by reorder and by the whole granule
    ∷ record {
      k = 11;
      got =
          number (first (requantize_checks 0 (block Long 576) eights))
          ∷ number (first (requantize_checks 0 (block Long 577) eights))
          ∷ number (first (requantize_checks 3 (block Long 577) eights))
          ∷ number (first (reorder_checks 1 0 576 (replicate 576 zero_f)))
          ∷ number (first (reorder_checks 1 0 577 (replicate 576 zero_f)))
          ∷ number (first (reorder_checks 1 3 577 (replicate 576 zero_f)))
          ∷ rendered 0 (block Long 576) 576
          ∷ rendered 0 (block Long 577) 576
          ∷ rendered 3 (block Long 577) 576
          ∷ [];
      told = map number (0 ∷ 4 ∷ 3 ∷ 0 ∷ 4 ∷ 3 ∷ 0 ∷ 4 ∷ 3 ∷ []);
    }
    -- K12 "room 575, one channel: 11": by synthesis and by the whole granule
    ∷ record {
      k = 12;
      got = number (first (synthesis_checks (replicate 576 zero_f) (replicate 1024 zero_f) (replicate 575 zero_f))) ∷ rendered 0 (block Long 576) 575 ∷ [];
      told = map number (11 ∷ 11 ∷ []);
    }
    ∷ []
