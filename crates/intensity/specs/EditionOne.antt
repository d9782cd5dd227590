-- Intensity as it was before there were editions. From document 01, "Stereo". Assumes nothing.
-- t is the table's number; a is channel 0's side information and b channel 1's.
use Rattle.std.specs.Prelude.{Bool, true, false, not, cond, ◌&&◌, ◌||◌, List, ℕ, ◌+◌, ◌*◌, ◌/◌, ltb, leb, eqb, get_or, Float}
use Rattle.std.specs.Float.{binary32}
use Rattle.std.specs.Float.Ieee.{mul}
use Rattle.laws.specs.Checks.{all_to}
use Rattle.side_info.specs.declared.SideInfo.{SideInfo}
use Rattle.bands.specs.Bands.{table_too_high, long_starts, short_starts, start, band_at, short_band, short_begin, short_window}
use Rattle.intensity.specs.Intensity.{left_ratio, right_ratio, choice_of, choice_number, within, long_to, short_from, is_long}

-- "Both results come from the old left number": l and r are a place's numbers before
abbrev pub scaled_left : ℕ → Float → Float
scaled_left p l = cond (eqb p 7) l (mul binary32 (left_ratio p) l)

abbrev pub scaled_right : ℕ → Float → Float → Float
scaled_right p l r = cond (eqb p 7) r (mul binary32 (right_ratio p) l)

-- ---- runs: the places that one position scales are a long band's, or those of one window of a short band

-- Short or long runs over a table's starts, with channel 0's factors for them and channel 1's `count1`. Short run g is window g % 3 of band g / 3.
pub record Runs : Type 0 where
  pub short : Bool
  pub starts : List ℕ
  pub factors : List ℕ
  pub count1 : ℕ

abbrev pub runs : Bool → List ℕ → List ℕ → ℕ → Runs
runs short starts factors count1 = record { short = short; starts = starts; factors = factors; count1 = count1 }

abbrev pub long_runs : ℕ → SideInfo → SideInfo → Runs
long_runs t a b = runs false (long_starts t) a.scalefac_l b.count1

abbrev pub short_runs : ℕ → SideInfo → SideInfo → Runs
short_runs t a b = runs true (short_starts t) a.scalefac_s b.count1

-- the run that place i lies in
abbrev pub run_of : Runs → ℕ → ℕ
run_of r i = cond r.short (3 * short_band r.starts i + short_window r.starts i) (band_at r.starts i)

-- the first position of run g's band
abbrev pub first_of : Runs → ℕ → ℕ
first_of r g = cond r.short (short_begin r.starts (g / 3)) (start r.starts g)

-- "each if its first position is at or above channel 1's `count1`"
abbrev pub applies : Runs → ℕ → Bool
applies r g = leb r.count1 (first_of r g)

-- "Position p comes from channel 0's scale factors"
abbrev pub position_of : Runs → ℕ → ℕ
position_of r g = get_or r.factors g 0

-- the position that run g is scaled by: 7 where intensity does not apply to it, which leaves it as it is
abbrev pub scaled_by : Runs → ℕ → ℕ
scaled_by r g = cond (applies r g) (position_of r g) 7

-- the position that place i is scaled by
abbrev pub position_in : Runs → (from to i : ℕ) → ℕ
position_in r from to i = let g = run_of r i in cond (within from to g) (scaled_by r g) 7

-- whether each of them to which intensity applies has a position that its choice does not refuse
abbrev pub fit : Runs → (from to : ℕ) → Bool
fit r from to = all_to to (λ g. ltb g from || (not (applies r g) || eqb (choice_number (choice_of (position_of r g))) 0))

abbrev pub position_at : ℕ → SideInfo → SideInfo → ℕ → ℕ
position_at t a b i =
    let kind = a.block_type in
    cond (is_long kind i) (position_in (long_runs t a b) 0 (long_to kind) i) (position_in (short_runs t a b) (short_from kind) 36 i)

-- "a band (or window) it would apply to has position above 7"
abbrev pub position_too_high : ℕ → SideInfo → SideInfo → Bool
position_too_high t a b =
    let kind = a.block_type in
    not (fit (long_runs t a b) 0 (long_to kind) && fit (short_runs t a b) (short_from kind) 36)

-- 8: "intensity is on and a band (or window) it would apply to has position above 7". A table that is not known has no bands
unfoldable pub position_refused : Bool → ℕ → SideInfo → SideInfo → Bool
position_refused on t a b = on && (not (table_too_high t) && position_too_high t a b)
