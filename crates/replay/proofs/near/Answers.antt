-- The tests are made in the order of the definition; a finite float is no NaN, as the cast asks. Assumes nothing.
use mathlib.Core.Path.{◌≡◌, refl, sym, ◌∙◌}
use mathlib.Core.Bool.{Bool, true, false, true≢false, not, ◌&&◌, and-eq-true_iff}
use lib.Dec.{T, eqb}
use lib.Ieee.{Float, binary32, binary64, fits, is_nan}
use lib.Ieee.Fits.{and_i, fits_widens}
use Rattle.laws.specs.Finite.{finite}
use Rattle.laws.proofs.Finite.{no_nan}
use Rattle.replay.specs.Near.{sign_of, near}
use Rattle.replay.proofs.near.Goals as goal
use Rattle.replay.proofs.near.Goals.{Then-of_one_sign}

cast : (x : Float) → T (fits binary32 x) → finite x ≡ true → T (fits binary64 x && not (is_nan x))
cast x f e = and_i (fits binary64 x) (not (is_nan x)) (fits_widens x f) (no_nan x e)

-- what was tested
tested : (c : Then-of_one_sign) → let a = c.args in (finite a.ours ≡ true) × (finite a.theirs ≡ true) × (eqb (sign_of a.ours) (sign_of a.theirs) ≡ true)
tested c =
    let both = (and-eq-true_iff _ _).0 (sym c.of_one_sign.ensures ∙ c.if-of_one_sign.true) in
    let rest = (and-eq-true_iff _ _).0 both.1 in
    (both.0, rest.0, rest.1)

-- where a test fails, the last one does not matter
fails : (f g e l : Bool) → (f && (g && e)) ≡ false → false ≡ (f && (g && (e && l)))
fails true true true l h = absurd (true≢false h)
fails true true false l h = refl
fails true false e l h = refl
fails false g e l h = refl

pub float_to_float-ours : goal.float_to_float-ours
float_to_float-ours c = cast _ c.type_inv.ours (tested (goal.at.float_to_float-ours c).Then-of_one_sign).0

pub float_to_float-theirs : goal.float_to_float-theirs
float_to_float-theirs c = cast _ c.type_inv.theirs (tested (goal.at.float_to_float-theirs c).Then-of_one_sign).1

pub float_to_float-theirs-then-of_one_sign : goal.float_to_float-theirs-then-of_one_sign
float_to_float-theirs-then-of_one_sign c = cast _ c.type_inv.theirs (tested (goal.at.float_to_float-theirs-then-of_one_sign c).Then-of_one_sign).1

pub returns-then-of_one_sign : goal.returns-then-of_one_sign
unfolding near
returns-then-of_one_sign c =
    let t = tested (goal.at.returns-then-of_one_sign c).Then-of_one_sign in
    rw (t.0, t.1, t.2, c.size.ensures, c.size-then-of_one_sign.ensures)

pub returns-else-of_one_sign : goal.returns-else-of_one_sign
unfolding near
returns-else-of_one_sign c = c.if-of_one_sign.false ∙ fails (finite c.args.ours) (finite c.args.theirs) _ _ (sym c.of_one_sign.ensures ∙ c.if-of_one_sign.false)
