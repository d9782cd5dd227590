-- The sign of a signed number, by the test x < 0 as the machine makes it, at any width. Assumes nothing.
use mathlib.Core.Path.{◌≡◌, refl, sym, ap, ◌∙◌}
use mathlib.Core.Bool.{Bool, true, false, true≢false}
use Prim.Native.Nat.{ℕ, ◌<◌}
use native.Mathlib.Omega.{arith}
use lib.IntN.{ℤ, pos, negsuc}
use lib.Signed.{lt_z}
use lib.Ieee.{Float, neg}
use mir.Syntax.{Width}
use mir.Val.{SFits, to_z, of_z}
use mir.ValLaws.{to_z-of_z}
use borrow.Author.Tests.{ltb-true}
use Rattle.powers.specs.Powers.{signed}

-- the test is that of the number
pub tested : (w : Width) (x : ℤ) (t : Bool) → SFits w x → lt_z (to_z w (of_z w x)) (pos 0) ≡ t → lt_z x (pos 0) ≡ t
tested w x t h e = ap (λ (z : ℤ). lt_z z (pos 0)) (sym (to_z-of_z w x h)) ∙ e

not-below : (n : ℕ) → n < 0 → ⊥
not-below n h = omega arith

pub sign_below : (x : ℤ) (v : Float) → lt_z x (pos 0) ≡ true → neg v ≡ signed x v
sign_below (pos n) v e = absurd (not-below n (ltb-true n 0 e))
sign_below (negsuc n) v e = refl

pub sign_above : (x : ℤ) (v : Float) → lt_z x (pos 0) ≡ false → v ≡ signed x v
sign_above (pos n) v e = refl
sign_above (negsuc n) v e = absurd (true≢false e)
