-- Intensity: which places one position scales, what a position makes of a place, and refusal 8. From document 01, "Stereo", and document 02, request 5. Assumes nothing.
-- e is the edition, t the table's number; a is channel 0's side information and b channel 1's.
use Rattle.std.specs.Prelude.{◌≡◌, Bool, true, false, not, cond, ◌&&◌, ◌||◌, List, ℕ, ◌+◌, ◌-◌, ◌*◌, ◌/◌, ◌%◌, ◌<◌, ltb, leb, eqb, length, get_or, Option, Some, None, Result, Ok, Err, Float}
use Rattle.std.specs.Float.{binary32}
use Rattle.std.specs.Float.Ieee.{of_bits, mul}
use Rattle.laws.specs.Checks.{all_to}
use Rattle.laws.specs.Lists.{at, row}
use Rattle.laws.specs.Sum.{zero_f}
use Rattle.tables.specs.Stereo.{intensity_ratios}
use Rattle.side_info.specs.declared.BlockType.{BlockType}
use Rattle.side_info.specs.declared.Edition.{Edition}
use Rattle.side_info.specs.declared.SideInfo.{SideInfo}
use Rattle.side_info.specs.Editions.{by_edition}
use Rattle.side_info.specs.Kinds.{by_kind}
use Rattle.bands.specs.Bands.{table_too_high, long_starts, short_starts, start, width, band_at, short_band, short_begin, short_offset, short_window, window_begin, Bands}
use Rattle.refusals.specs.declared.Refusal.{Refusal}
use Rattle.refusals.specs.declared.Refusal.TheVariants.{PositionTooHigh}
use Rattle.refusals.specs.Refusals.{told}
use Rattle.intensity.specs.declared.Ratios.{Ratios}

-- ---- what a position chooses

-- 1.0
abbrev pub one_f : Float
one_f = of_bits binary32 0x3f80_0000

-- "p below 6 has t/(1+t) and 1/(1+t), t the tangent of p × 15 degrees, from the crate's table"; "p = 6 has ratios 1.0 and 0.0"
abbrev pub left_ratio : ℕ → Float
left_ratio p = cond (ltb p 6) (at (row intensity_ratios p) 0) one_f

abbrev pub right_ratio : ℕ → Float
right_ratio p = cond (ltb p 6) (at (row intensity_ratios p) 1) zero_f

-- the two ratios for 0 to 6, the band as it is for 7 ("p = 7 leaves the band"), and a refusal for the rest
abbrev pub choice_of : ℕ → Result (Option Ratios) Refusal
choice_of p = cond (ltb p 7) (Ok (Some (record { left = left_ratio p; right = right_ratio p }))) (cond (eqb p 7) (Ok None) (Err PositionTooHigh))

-- the number of each: 0 where it is a choice, and 8 where "the rest for refusal" stands
abbrev pub choice_number : Result (Option Ratios) Refusal → ℕ
choice_number c = told c

-- "Both results come from the old left number", which is l; x is a place's number before, in the channel of that ratio. "p = 7 leaves the band"
abbrev pub scaled : (ℕ → Float) → ℕ → Float → Float → Float
scaled ratio p l x = cond (eqb p 7) x (mul binary32 (ratio p) l)

-- ---- runs: the places that one position scales are a long band's, or those of one window of a short band

-- Short or long runs over a table's starts, with their factors and channel 1's `count1`. Short run g is window g % 3 of band g / 3; where its numbers stand goes by the edition.
pub record Runs : Type 0 where
  pub edition : Edition
  pub short : Bool
  pub starts : List ℕ
  pub factors : List ℕ
  pub count1 : ℕ

abbrev pub runs : Edition → Bool → List ℕ → List ℕ → ℕ → Runs
runs e short starts factors count1 = record { edition = e; short = short; starts = starts; factors = factors; count1 = count1 }

-- "Position p comes from channel 0's scale factors"; in edition 2 "intensity positions come from channel 1"
abbrev pub positions_of : Edition → SideInfo → SideInfo → SideInfo
positions_of e a b = by_edition e a b

abbrev pub long_runs : Edition → ℕ → SideInfo → SideInfo → Runs
long_runs e t a b = runs e false (long_starts t) (positions_of e a b).scalefac_l b.count1

abbrev pub short_runs : Edition → ℕ → SideInfo → SideInfo → Runs
short_runs e t a b = runs e true (short_starts t) (positions_of e a b).scalefac_s b.count1

-- 22 long runs, 39 short ones
abbrev pub run_count : Bool → ℕ
run_count short = cond short 39 22

-- that the runs stand on a table's bands
abbrev pub OnBands : Runs → Type 0
OnBands r = Bands (cond r.short 13 22) (cond r.short 192 576) r.starts

-- that they stand on them, and that each has a factor
pub record Laid (r : Runs) : Type 0 where
  pub bands : OnBands r
  pub each : length r.factors ≡ run_count r.short

-- the window that place i of a short block is taken for: in edition 1 the windows stand one after the other, in edition 2 in turn
abbrev pub window_of : Edition → List ℕ → ℕ → ℕ
window_of e starts i = by_edition e (short_window starts i) (short_offset starts i % 3)

-- the run that place i lies in
abbrev pub run_of : Runs → ℕ → ℕ
run_of r i = cond r.short (3 * short_band r.starts i + window_of r.edition r.starts i) (band_at r.starts i)

-- the first position of run g's band
abbrev pub first_of : Runs → ℕ → ℕ
first_of r g = cond r.short (short_begin r.starts (g / 3)) (start r.starts g)

-- where run g starts, how far its places stand apart, and how many it has: "A short window's positions are the run of w numbers at 3 × start + w × win"; in edition 2 "a short window's numbers
-- are those at 3 × start + 3j + win, also in a band that reorder skipped"
abbrev pub run_start : Runs → ℕ → ℕ
run_start r g = cond r.short (by_edition r.edition (window_begin r.starts g) (short_begin r.starts (g / 3) + g % 3)) (start r.starts g)

abbrev pub run_step : Runs → ℕ → ℕ
run_step r g = cond r.short (by_edition r.edition 1 3) 1

abbrev pub run_width : Runs → ℕ → ℕ
run_width r g = width r.starts (cond r.short (g / 3) g)

-- "each if its first position is at or above channel 1's `count1`"
abbrev pub applies : Runs → ℕ → Bool
applies r g = leb r.count1 (first_of r g)

-- its position
abbrev pub position_of : Runs → ℕ → ℕ
position_of r g = get_or r.factors g 0

-- the position that run g is scaled by: 7 where intensity does not apply to it, which leaves it as it is
abbrev pub scaled_by : Runs → ℕ → ℕ
scaled_by r g = cond (applies r g) (position_of r g) 7

-- run g is the `count` places start, start + step, start + 2 step and so on, and is scaled by `position`
pub record IsRun (r : Runs) (g start step count position : ℕ) : Type 0 where
  pub starts_at : start ≡ run_start r g
  pub steps_by : step ≡ run_step r g
  pub has : count ≡ run_width r g
  pub by : position ≡ scaled_by r g

-- whether place i is one of those
abbrev pub in_run : (start step count i : ℕ) → Bool
in_run start step count i = leb start i && (eqb ((i - start) % step) 0 && ltb ((i - start) / step) count)

-- the same as a statement: place i is the one numbered `index` of those that a run of `count` places has
pub record Among (start step count i : ℕ) : Type 0 where
  pub index : ℕ
  pub below : index < count
  pub is : i ≡ start + step * index

-- ---- the runs that intensity looks at are those from `from` on and below `to`

abbrev pub within : (from to i : ℕ) → Bool
within from to i = leb from i && ltb i to

-- the position that place i is scaled by
abbrev pub position_in : Runs → (from to i : ℕ) → ℕ
position_in r from to i = let g = run_of r i in cond (within from to g) (scaled_by r g) 7

-- whether each of them to which intensity applies has a position that its choice does not refuse
abbrev pub fit : Runs → (from to : ℕ) → Bool
fit r from to = all_to to (λ g. ltb g from || (not (applies r g) || eqb (choice_number (choice_of (position_of r g))) 0))

-- "block type from channel 0: Long kinds bands 0 to 20, Short 0 to 11, Mixed long 0 to 7 and short 3 to 11": the long runs below `long_to`, and the short runs from `short_from` on and below 36
abbrev pub long_to : BlockType → ℕ
long_to kind = by_kind kind 21 0 8

abbrev pub short_from : BlockType → ℕ
short_from kind = by_kind kind 36 0 9

-- whether place i is a long run's: a mixed block changes over at place 36
abbrev pub is_long : BlockType → ℕ → Bool
is_long kind i = by_kind kind true false (ltb i 36)

abbrev pub position_at : Edition → ℕ → SideInfo → SideInfo → ℕ → ℕ
position_at e t a b i =
    let kind = a.block_type in
    cond (is_long kind i) (position_in (long_runs e t a b) 0 (long_to kind) i) (position_in (short_runs e t a b) (short_from kind) 36 i)

-- "a band (or window) it would apply to has position above 7"
abbrev pub position_too_high : Edition → ℕ → SideInfo → SideInfo → Bool
position_too_high e t a b =
    let kind = a.block_type in
    not (fit (long_runs e t a b) 0 (long_to kind) && fit (short_runs e t a b) (short_from kind) 36)

-- 8: "intensity is on and a band (or window) it would apply to has position above 7"; "8 looks at channel 1 in edition 2". A table that is not known has no bands
unfoldable pub position_refused : Edition → Bool → ℕ → SideInfo → SideInfo → Bool
position_refused e on t a b = on && (not (table_too_high t) && position_too_high e t a b)
