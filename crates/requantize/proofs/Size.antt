-- The size of an i16 number below 8,207 as the machine finds it, a test of it, and how far it is above 4,103. Assumes nothing.
use mathlib.Core.Path.{◌≡◌, refl, sym, ap, subst, ◌∙◌}
use mathlib.Core.Bool.{Bool, true, false, cond}
use Prim.Native.Nat.{ℕ, ◌-◌, ◌<◌}
use native.Mathlib.Omega.{arith}
use lib.Dec.{ltb}
use lib.IntN.{ℤ, pos, nat_abs, ◌-ℤ◌}
use lib.Signed.{lt_z}
use mir.Syntax.{w16}
use mir.Val.{SFits, to_z, of_z}
use mir.ValLaws.{to_z-of_z}
use borrow.Author.Tests.{ltb-true, ltb-false}
use Rattle.std.specs.Int.{int_max}
use Rattle.powers.proofs.Floor.{sub_ge}

-- what comes out as such a size fits and is read back
module _ {z : ℤ} {n : ℕ} (e : z ≡ pos n) (h : n < 8207) where
  pub size_fits : SFits w16 z
  size_fits = subst (SFits w16) (sym e) (record { sfits = omega arith })

  pub size-read : to_z w16 (of_z w16 z) ≡ pos n
  size-read = to_z-of_z w16 z size_fits ∙ e

-- a test of it is one of whole numbers
pub size_tested : {z : ℤ} {n : ℕ} (m : ℕ) (t : Bool) → z ≡ pos n → lt_z z (pos m) ≡ t → ltb n m ≡ t
size_tested m t e h = ap (λ (y : ℤ). lt_z y (pos m)) (sym e) ∙ h

-- the size of a number in the machine's range and in the caller's
pub size_is : (x : ℤ) {r : ℤ} → SFits w16 x → nat_abs x < 8207 → r ≡ pos (nat_abs (to_z w16 (of_z w16 x))) → to_z w16 (of_z w16 r) ≡ pos (nat_abs x)
size_is x f h e = size-read (e ∙ ap (λ (z : ℤ). pos (nat_abs z)) (to_z-of_z w16 x f)) h

-- how far it is above 4,103
pub above : (n : ℕ) → int_max (pos n) (pos 4103) -ℤ pos 4103 ≡ pos (n - 4103)
above n = go (ltb 4103 n) refl
  where
    go : (b : Bool) → ltb 4103 n ≡ b → cond b (pos n) (pos 4103) -ℤ pos 4103 ≡ pos (n - 4103)
    go true e = let more = ltb-true 4103 n e in sub_ge n 4103 (omega arith)
    go false e = let less = ltb-false 4103 n e in ap pos (omega arith)
