-- Refusal 8 looks at exactly the bands and windows to which intensity applies: it is given exactly when some place's position is above 7,
-- and a position above 7 that no place is scaled by refuses nothing. Assumes nothing.
use mathlib.Core.Path.{◌≡◌, refl, sym, ◌∙◌}
use mathlib.Core.Bool.{Bool, true, false, cond, ◌||◌}
use Prim.Native.Nat.{ℕ, ◌+◌, ◌*◌, ◌<◌, ◌≤◌}
use native.Mathlib.Decide.{dec_lt}
use native.Mathlib.Omega.{arith}
use borrow.Author.Tests.{le-leb, lt-ltb, le-ltb, eqb-true}
use lib.Dec.{ltb}
use Rattle.laws.proofs.Checks.{all_if}
use Rattle.side_info.specs.declared.Edition.{Edition}
use Rattle.side_info.specs.declared.SideInfo.{SideInfo}
use Rattle.bands.specs.Bands.{KnownTable}
use Rattle.bands.proofs.Tables.{long-bands, short-bands}
use Rattle.intensity.specs.Intensity.{Runs, OnBands, long_runs, short_runs, run_count, run_of, run_start, run_step, run_width, scaled_by, within, position_in}
use Rattle.intensity.specs.Intensity.{fit, long_to, short_from, position_at, position_too_high}
use Rattle.intensity.proofs.ByKind.{by_kind, both_fit, long-most}
use Rattle.intensity.proofs.Fit.{fits, fits-most, fit-most}
use Rattle.intensity.proofs.Places.{Joined, by_first, by_second}
use Rattle.intensity.proofs.Runs.{run_held, run_is}
use Rattle.intensity.proofs.Steps.{inside, is-inside, in-run}

-- the runs that are looked at: from their test to each place, and back
module _ (r : Runs) (from to : ℕ) where
  position-most : fit r from to ≡ true → (i : ℕ) → position_in r from to i ≤ 7
  position-most e i = go (within from to (run_of r i)) refl
    where
      go : (here : Bool) → within from to (run_of r i) ≡ here → cond here (scaled_by r (run_of r i)) 7 ≤ 7
      go true q = let w = inside from to (run_of r i) q in fit-most r from to e (run_of r i) w.0 w.1
      go false q = omega arith

  fit_if : OnBands r → to ≤ run_count r.short → ((i : ℕ) → i < 576 → position_in r from to i ≤ 7) → fit r from to ≡ true
  fit_if b h f = all_if to (λ g. ltb g from || fits r g) (λ g l. go g l (dec_lt g from))
    where
      -- a run is scaled by its own position at its first place
      own : (g : ℕ) → from ≤ g → g < to → scaled_by r g ≤ 7
      own g k l =
          let w = run_held r b g (omega arith) in
          let i = run_start r g + run_step r g * 0 in
          let small = w.each 0 w.some in
          let first = in-run (run_start r g) (run_step r g) (run_width r g) i w.steps (record { index = 0; below = w.some; is = refl }) in
          let e : run_of r i ≡ g = eqb-true (run_of r i) g (sym (run_is r b g i (omega arith) small) ∙ first) in
          rw (e, is-inside from to g k l) at (f i small)

      go : (g : ℕ) → g < to → Dec (g < from) → (ltb g from || fits r g) ≡ true
      go g l (yes k) = rw (lt-ltb g from k)
      go g l (no k) = rw (le-ltb g from (omega arith)) (fits-most r g ∙ le-leb (scaled_by r g) 7 (own g (omega arith) l))

-- of two positions that join, both are at most 7 exactly where the whole is
joined_most : {p q m : ℕ} → Joined p q m → p ≤ 7 → q ≤ 7 → m ≤ 7
joined_most (by_first e f) h k = rw f h
joined_most (by_second e f) h k = rw f k

most_joined : {p q m : ℕ} → Joined p q m → m ≤ 7 → (p ≤ 7) × (q ≤ 7)
most_joined (by_first e f) h = (rw f at h, omega (arith, e))
most_joined (by_second e f) h = (omega (arith, e), rw f at h)

module _ (e : Edition) (t : ℕ) (h : KnownTable t) (a b : SideInfo) where
  -- the test passes exactly when every place's position is at most 7
  pub refused_nowhere : position_too_high e t a b ≡ false → (i : ℕ) → i < 576 → position_at e t a b i ≤ 7
  refused_nowhere q i l =
      let w = both_fit e t a b q in
      joined_most (by_kind e t h a b i l) (position-most (long_runs e t a b) 0 (long_to a.block_type) w.0 i) (position-most (short_runs e t a b) (short_from a.block_type) 36 w.1 i)

  pub nowhere_refused : ((i : ℕ) → i < 576 → position_at e t a b i ≤ 7) → position_too_high e t a b ≡ false
  nowhere_refused f =
      let kind = a.block_type in
      let long = fit_if (long_runs e t a b) 0 (long_to kind) (long-bands t h) (long-most kind) (λ i l. (most_joined (by_kind e t h a b i l) (f i l)).0) in
      let short = fit_if (short_runs e t a b) (short_from kind) 36 (short-bands t h) (omega arith) (λ i l. (most_joined (by_kind e t h a b i l) (f i l)).1) in
      rw (long, short)
