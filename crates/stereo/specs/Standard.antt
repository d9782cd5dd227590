-- Intensity by ISO/IEC 11172-3, where edition 2 follows it: "the position is the right channel's scale factor of the band", in short blocks for each window by itself. Each pair of places has its position here. Where intensity begins is not the standard's: docs/DIFFERENCES.md. Assumes nothing.
-- t is the table's number; a is channel 0's side information and b channel 1's.
use Rattle.std.specs.Prelude.{◌≡◌, true, cond, List, ℕ, ◌+◌, ◌*◌, ◌<◌, ◌≤◌, leb, get_or, Float}
use Rattle.std.specs.Float.{binary32}
use Rattle.std.specs.Float.Ieee.{mul}
use Rattle.laws.specs.Lists.{at}
use Rattle.side_info.specs.declared.Edition.TheVariants.{Second}
use Rattle.side_info.specs.declared.SideInfo.{SideInfo}
use Rattle.bands.specs.Bands.{long_starts, short_starts, start, width, short_begin, InBand}
use Rattle.reorder.specs.Reorder.{target}
use Rattle.intensity.specs.Intensity.{left_ratio, right_ratio}
use Rattle.stereo.specs.Stereo.{mid_side_left, mid_side_right, position}

-- what a band or window is scaled by that begins at `begin` and has this scale factor in the right channel: the factor where intensity reaches it, and else 7, "not intensity-coded"
abbrev pub by_factor : SideInfo → (begin factor : ℕ) → ℕ
by_factor b begin factor = cond (leb b.count1 begin) factor 7

-- the long bands below `to`
pub record LongPairs (t to : ℕ) (a b : SideInfo) : Type 0 where
  pub each : (k i : ℕ) → k < to → InBand (long_starts t) k i → position Second true t a b i ≡ by_factor b (start (long_starts t) k) (get_or b.scalefac_l k 0)

-- the windows of the short bands from `from` on and below 12: number j of window win of band k, at the place where reorder puts it; in a band that reorder skipped the same place is taken for
-- the window's, "also in a band that reorder skipped"
pub record ShortPairs (t from : ℕ) (a b : SideInfo) : Type 0 where
  pub each : (k win j : ℕ) → from ≤ k → k < 12 → win < 3 → j < width (short_starts t) k
      → position Second true t a b (target (short_starts t) (short_begin (short_starts t) k + (win * width (short_starts t) k + j)))
      ≡ by_factor b (short_begin (short_starts t) k) (get_or b.scalefac_s (3 * k + win) 0)

-- and no other pair: long band 21 and short band 12 have no position of their own, and are left
pub record LongLeft (t : ℕ) (a b : SideInfo) : Type 0 where
  pub each : (i : ℕ) → start (long_starts t) 21 ≤ i → i < 576 → position Second true t a b i ≡ 7

pub record ShortLeft (t : ℕ) (a b : SideInfo) : Type 0 where
  pub each : (i : ℕ) → short_begin (short_starts t) 12 ≤ i → i < 576 → position Second true t a b i ≡ 7

-- "L' = L · t/(1 + t), R' = L · 1/(1 + t)": the pair of places i of the channels ls and rs, which become ls' and rs', is scaled by position p. "Where intensity applies, mid-side does not"
pub record Pair (p i : ℕ) (ls ls' rs' : List Float) : Type 0 where
  pub left : at ls' i ≡ mul binary32 (left_ratio p) (at ls i)
  pub right : at rs' i ≡ mul binary32 (right_ratio p) (at ls i)

-- "position 7: the band is not intensity-coded, and is mid-side where that is on": the pair of places i is what mid-side, where it is on below n, made of it
pub record MidSidePair (n i : ℕ) (ls rs ls' rs' : List Float) : Type 0 where
  pub left : at ls' i ≡ mid_side_left n ls rs i
  pub right : at rs' i ≡ mid_side_right n ls rs i
