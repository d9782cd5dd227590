-- A granule: a silent part, and the refusals: its tests, in the order that document 01 fixes, and before them document 02's 18. Assumes nothing.
use Rattle.std.specs.Prelude.{Bool, false, not, cond, ◌&&◌, ◌||◌, List, [], ◌∷◌, ◌++◌, ℕ, ltb, eqb, pos, replicate}
use Rattle.laws.specs.Checks.{Check, check}
use Rattle.side_info.specs.declared.BlockType.TheVariants.{Long}
use Rattle.side_info.specs.Editions.{wrong_edition, edition_of}
use Rattle.side_info.specs.Side.{count_too_high, factor_too_high, subblock_gain_too_high, number_too_large}
use Rattle.bands.specs.Bands.{table_too_high}
use Rattle.intensity.specs.Intensity.{position_refused}
use Rattle.history.specs.declared.History.{History}
use Rattle.history.specs.History.{history_not_finite}
use Rattle.granule.specs.declared.Part.{Part}
use Rattle.granule.specs.declared.Granule.{Granule}

-- a part of zeros: a long block of silence
unfoldable pub silent_part : Part
silent_part = record {
  side = record {
    block_type = Long;
    global_gain = 0;
    scalefac_scale = false;
    preflag = false;
    subblock_gain = replicate 3 0;
    scalefac_l = replicate 22 0;
    scalefac_s = replicate 39 0;
    count1 = 0;
  };
  spectrum = replicate 576 (pos 0);
}

-- whether channel 1 is used
abbrev pub two : Granule → Bool
two g = eqb g.channels 2

-- 576 outputs per channel
abbrev pub output_count : Granule → ℕ
output_count g = cond (two g) 1152 576

-- ---- refusals: "The whole granule tests 1 to 8, 10 and 11 at entry and nothing between stages"; document 02, request 5: "18 edition not 1 or 2, tested before 1"

-- a test over the used channels
abbrev pub any_part : Granule → (Part → Bool) → Bool
any_part g bad = bad g.left || (two g && bad g.right)

-- 1: "channel count is not 1 or 2"
abbrev pub wrong_channels : ℕ → Bool
wrong_channels n = not (eqb n 1 || eqb n 2)

-- 2: "mid-side or intensity asked for with one channel"
abbrev pub stereo_of_one : Granule → Bool
stereo_of_one g = (g.mid_side || g.intensity) && eqb g.channels 1

-- 18, then 1 to 8, "tested in this order", which ask nothing of the history and the room; 4 to 7 each look at all used channels before the next is made
abbrev pub input_checks : Granule → List Check
input_checks g =
    check 18 (wrong_edition g.edition)
    ∷ check 1 (wrong_channels g.channels)
    ∷ check 2 (stereo_of_one g)
    ∷ check 3 (table_too_high g.table)
    ∷ check 4 (any_part g (λ p. count_too_high p.side.count1))
    ∷ check 5 (any_part g (λ p. factor_too_high p.side))
    ∷ check 6 (any_part g (λ p. subblock_gain_too_high p.side))
    ∷ check 7 (any_part g (λ p. number_too_large p.spectrum))
    ∷ check 8 (position_refused (edition_of g.edition) g.intensity g.table g.left.side g.right.side)
    ∷ []

-- 10 and 11: of the history, and of the room, which has n places
abbrev pub state_checks : Granule → History → ℕ → List Check
state_checks g h n = check 10 (history_not_finite (two g) h) ∷ check 11 (ltb n (output_count g)) ∷ []

abbrev pub granule_checks : Granule → History → ℕ → List Check
granule_checks g h n = input_checks g ++ state_checks g h n
