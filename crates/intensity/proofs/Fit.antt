-- A run fits where intensity does not apply to it, or its choice is no refusal: exactly where what it is scaled by is at most 7. Assumes nothing.
use mathlib.Core.Path.{◌≡◌, refl, sym, ap, ◌∙◌}
use mathlib.Core.Bool.{Bool, true, false, true≢false, cond, not, ◌||◌}
use Prim.Native.Nat.{ℕ, ◌<◌, ◌≤◌}
use native.Mathlib.Decide.{dec_lt, ℕ_discrete}
use native.Mathlib.Omega.{arith}
use borrow.Author.Tests.{leb-true, le-leb, lt-leb, lt-ltb, le-ltb, ne_eqb}
use lib.Dec.{leb, ltb, eqb}
use Rattle.std.specs.Result.{is_ok}
use Rattle.laws.proofs.Checks.{all-each}
use Rattle.intensity.specs.Intensity.{choice_of, choice_number, Runs, applies, position_of, scaled_by, fit}

-- the choice's number: 8 exactly for the positions above 7, and else 0
pub chosen_number : (p : ℕ) → choice_number (choice_of p) ≡ cond (leb p 7) 0 8
chosen_number p = go (dec_lt p 7) (ℕ_discrete p 7)
  where
    go : Dec (p < 7) → Dec (p ≡ 7) → choice_number (choice_of p) ≡ cond (leb p 7) 0 8
    go (yes l) e = rw (lt-ltb p 7 l, le-leb p 7 (omega arith))
    go (no l) (yes e) = rw e
    go (no l) (no n) = rw (le-ltb p 7 (omega arith), ne_eqb p 7 n, lt-leb p 7 (omega arith))

pub chosen_most : (p : ℕ) → eqb (choice_number (choice_of p)) 0 ≡ leb p 7
chosen_most p = ap (λ (n : ℕ). eqb n 0) (chosen_number p) ∙ go (leb p 7)
  where
    go : (most : Bool) → eqb (cond most 0 8) 0 ≡ most
    go true = refl
    go false = refl

-- and it is no refusal exactly where it has the number 0
pub chosen_ok : (p : ℕ) → is_ok (choice_of p) ≡ leb p 7
chosen_ok p = go (dec_lt p 7) (ℕ_discrete p 7)
  where
    go : Dec (p < 7) → Dec (p ≡ 7) → is_ok (choice_of p) ≡ leb p 7
    go (yes l) e = rw (lt-ltb p 7 l, le-leb p 7 (omega arith))
    go (no l) (yes e) = rw e
    go (no l) (no n) = rw (le-ltb p 7 (omega arith), ne_eqb p 7 n, lt-leb p 7 (omega arith))

abbrev pub fits : Runs → ℕ → Bool
fits r g = not (applies r g) || eqb (choice_number (choice_of (position_of r g))) 0

module _ (r : Runs) (g : ℕ) where
  -- what the run is scaled by tells: where intensity does not apply that is 7, which is no refusal
  pub fits_chosen : fits r g ≡ eqb (choice_number (choice_of (scaled_by r g))) 0
  fits_chosen = go (applies r g)
    where
      go : (t : Bool) → (not t || eqb (choice_number (choice_of (position_of r g))) 0) ≡ eqb (choice_number (choice_of (cond t (position_of r g) 7))) 0
      go true = refl
      go false = refl

  pub fits-most : fits r g ≡ leb (scaled_by r g) 7
  fits-most = fits_chosen ∙ chosen_most (scaled_by r g)

  fits-ok : fits r g ≡ is_ok (choice_of (scaled_by r g))
  fits-ok = fits-most ∙ sym (chosen_ok (scaled_by r g))

-- a turn of the loop over them: what the choice is tells of the run
module _ (r : Runs) (from g : ℕ) (h : from ≤ g) {p : ℕ} (by : p ≡ scaled_by r g) where
  pub turn_fits : is_ok (choice_of p) ≡ true → (ltb g from || fits r g) ≡ true
  turn_fits e = rw (le-ltb g from h) (fits-ok r g ∙ (rw by at e))

  pub turn-fails : (to : ℕ) → g < to → is_ok (choice_of p) ≡ false → fit r from to ≡ false
  turn-fails to l e = go (fit r from to) refl
    where
      go : (b : Bool) → fit r from to ≡ b → b ≡ false
      go true q =
          let here = rw (le-ltb g from h) at (all-each to (λ k. ltb k from || fits r k) q g l) in
          absurd (true≢false (sym here ∙ fits-ok r g ∙ (rw by at e)))
      go false q = refl

-- so each run that is looked at is scaled by at most 7 where they fit
pub fit-most : (r : Runs) (from to : ℕ) → fit r from to ≡ true → (g : ℕ) → from ≤ g → g < to → scaled_by r g ≤ 7
fit-most r from to e g h l =
    let fits-here = rw (le-ltb g from h) at (all-each to (λ k. ltb k from || fits r k) e g l) in
    leb-true (scaled_by r g) 7 (sym (fits-most r g) ∙ fits-here)
