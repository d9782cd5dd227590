-- Document 02, request 5: for each point the smallest granule that tells the two editions apart, and what each edition makes of it. Assumes nothing.
use Rattle.std.specs.Prelude.{◌≡◌, Bool, true, false, List, [], ◌∷◌, map, ℕ, ℤ, pos, replicate, set}
use Rattle.std.specs.Float.{binary32}
use Rattle.std.specs.Float.Ieee.{of_bits}
use Rattle.laws.specs.Lists.{at}
use Rattle.laws.specs.Sum.{zero_f}
use Rattle.side_info.specs.declared.BlockType.{BlockType}
use Rattle.side_info.specs.declared.BlockType.TheVariants.{Long, Short}
use Rattle.side_info.specs.declared.SideInfo.{SideInfo}
use Rattle.history.specs.History.{fresh_channel, fresh_history}
use Rattle.granule.specs.declared.Granule.{Granule}
use Rattle.backend.specs.Whole.{edition_in, left_kind, left_samples, right_samples, subbands}
use Rattle.backend.specs.Calls.{lent, answer}
use Rattle.paper_cases.specs.Cases.{Value, number, sample, wholes}

-- what a granule gives at edition 1 and at edition 2, and what it should by the documents
pub record Point : Type 0 where
  pub one : List Value
  pub two : List Value
  pub told_one : List Value
  pub told_two : List Value

-- that both are as told, and not the same
pub record Apart (p : Point) : Type 0 where
  pub one_is : p.one ≡ p.told_one
  pub two_is : p.two ≡ p.told_two
  pub unlike : p.told_one ≡ p.told_two → ⊥

pub data AllApart : List Point → Type 0 where
  done : AllApart []
  apart : (p : Point) (ps : List Point) → Apart p → AllApart ps → AllApart (p ∷ ps)

-- ---- the granules: table 0, gain 210; what is not named is 0

-- a channel with such a factor in long band 0, and such short factors
abbrev pub factored : BlockType → (long : ℕ) → (short : List ℕ) → (count : ℕ) → SideInfo
factored kind long short count = record {
  block_type = kind;
  global_gain = 210;
  scalefac_scale = false;
  preflag = false;
  subblock_gain = replicate 3 0;
  scalefac_l = set (replicate 22 0) 0 long;
  scalefac_s = short;
  count1 = count;
}

abbrev pub none : List ℕ
none = replicate 39 0

-- an 8 at a place
abbrev pub eight : ℕ → List ℤ
eight i = set (replicate 576 (pos 0)) i (pos 8)

-- one channel, and two with their flags, at edition n; channel 1's numbers are 0
abbrev pub alone : SideInfo → List ℤ → ℕ → Granule
alone side xs n =
    record { edition = n; table = 0; channels = 1; mid_side = false; intensity = false; left = record { side = side; spectrum = xs }; right = record { side = side; spectrum = xs } }

abbrev pub pair : (ms on : Bool) → SideInfo → SideInfo → List ℤ → ℕ → Granule
pair ms on a b xs n =
    record { edition = n; table = 0; channels = 2; mid_side = ms; intensity = on; left = record { side = a; spectrum = xs }; right = record { side = b; spectrum = replicate 576 (pos 0) } }

-- a short block whose first number alone is not 0
abbrev pub single : ℕ → Granule
single = alone (factored Short 0 none 1) (eight 0)

-- position 6 in channel 0, which is left alone, and 0 in channel 1, which is right alone; the number is 2
abbrev pub crossed : ℕ → Granule
crossed = pair false true (factored Long 6 none 1) (factored Long 0 none 0) (eight 0)

-- position p in channel 0 and q in channel 1
abbrev pub positioned : (p q : ℕ) → ℕ → Granule
positioned p q = pair false true (factored Long p none 0) (factored Long q none 0) (eight 0)

-- ---- what is looked at: a place of the samples after stereo, and of what synthesis takes; the number that a call answers, and a place of its outputs. The history is fresh

abbrev pub left_at : ℕ → Granule → Value
left_at i g = sample (at (left_samples g) i)

abbrev pub right_at : ℕ → Granule → Value
right_at i g = sample (at (right_samples g) i)

abbrev pub taken_at : ℕ → Granule → Value
taken_at i g = sample (at (subbands (edition_in g) (left_kind g) (left_samples g) fresh_channel) i)

abbrev pub answers : Granule → Value
answers g = number (answer (lent g (replicate 1152 zero_f)) fresh_history).reply.number

abbrev pub heard_at : ℕ → Granule → Value
heard_at i g = sample (at (answer (lent g (replicate 1152 zero_f)) fresh_history).reply.room i)

-- a point: the same granule at both editions
abbrev pub point : (ℕ → Granule) → List (Granule → Value) → List Value → List Value → Point
point g seen told_one told_two = record { one = map (λ f. f (g 1)) seen; two = map (λ f. f (g 2)) seen; told_one = told_one; told_two = told_two }

abbrev pub bits : ℕ → Value
bits b = sample (of_bits binary32 b)

-- ---- the points

-- "the three short windows' overlapping halves are added": place 12 has window 0's second half, 16 · cos(19π/24) · sin(13π/24), and nothing of window 1
unfoldable pub halves_added : Point
halves_added = point single (taken_at 12 ∷ []) (wholes (0 ∷ [])) (bits 0xc149_5c65 ∷ [])

-- "reorder also does band 12": place 409 is number 1 of its window 0, which goes to 411
unfoldable pub last_band : Point
last_band = point (alone (factored Short 0 none 409) (eight 409)) (left_at 409 ∷ left_at 411 ∷ []) (wholes (16 ∷ 0 ∷ [])) (wholes (0 ∷ 16 ∷ []))

-- "intensity positions come from channel 1": 2 is on the left, or on the right
unfoldable pub from_channel_one : Point
from_channel_one = point crossed (left_at 0 ∷ right_at 0 ∷ []) (wholes (2 ∷ 0 ∷ [])) (wholes (0 ∷ 2 ∷ []))

-- "a short window's numbers are those at 3 × start + 3j + win": place 1 is the first one of window 1, whose position is 0; window 0's is 6
unfoldable pub windows_in_turn : Point
windows_in_turn = point (pair false true (factored Short 0 (set none 0 6) 1) (factored Short 0 (set none 0 6) 0) (eight 4)) (left_at 1 ∷ right_at 1 ∷ []) (wholes (16 ∷ 0 ∷ [])) (wholes (0 ∷ 16 ∷ []))

-- "also in a band that reorder skipped": band 1 begins at place 12 and is not reached; place 13 is window 1's in turn, whose position is 0; window 0's is 6. The number is raw
unfoldable pub also_skipped : Point
also_skipped = point (pair false true (factored Short 0 (set none 3 6) 1) (factored Short 0 (set none 3 6) 0) (eight 13)) (left_at 13 ∷ right_at 13 ∷ []) (wholes (8 ∷ 0 ∷ [])) (wholes (0 ∷ 8 ∷ []))

-- "mid-side skips each number that intensity is applied to": 2 times the root of one half where it does not
unfoldable pub mid_side_skips : Point
mid_side_skips = point (pair true true (factored Long 6 none 1) (factored Long 6 none 0) (eight 0)) (left_at 0 ∷ right_at 0 ∷ []) (bits 0x3fb5_04f3 ∷ sample zero_f ∷ []) (wholes (2 ∷ 0 ∷ []))

-- "a band with position 7 keeps mid-side": 16 times the root of one half in both channels, where edition 1 goes by channel 0's position, 0
unfoldable pub seven_keeps : Point
seven_keeps = point (pair true true (factored Long 0 none 1) (factored Long 7 none 0) (eight 0)) (left_at 0 ∷ right_at 0 ∷ []) (sample zero_f ∷ bits 0x4135_04f3 ∷ []) (bits 0x4135_04f3 ∷ bits 0x4135_04f3 ∷ [])

-- "8 looks at channel 1 in edition 2": channel 0 alone has a position that is refused, and channel 1 alone
unfoldable pub eight_left : Point
eight_left = point (positioned 8 0) (answers ∷ []) (number 8 ∷ []) (number 0 ∷ [])

unfoldable pub eight_right : Point
eight_right = point (positioned 0 8) (answers ∷ []) (number 0 ∷ []) (number 8 ∷ [])

-- "The caller names the edition with each granule", and hears it: on the left, or on the right, 2 · cos(19π/72) · sin(π/72) · cos(17π/64) times the window's entry 1
unfoldable pub heard_elsewhere : Point
heard_elsewhere = point crossed (heard_at 1 ∷ heard_at 577 ∷ answers ∷ []) (bits 0xb522_1f55 ∷ sample zero_f ∷ number 0 ∷ []) (sample zero_f ∷ bits 0xb522_1f55 ∷ number 0 ∷ [])

abbrev pub points : List Point
points = halves_added ∷ last_band ∷ from_channel_one ∷ windows_in_turn ∷ also_skipped ∷ mid_side_skips ∷ seven_keeps ∷ eight_left ∷ eight_right ∷ heard_elsewhere ∷ []
