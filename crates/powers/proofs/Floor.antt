-- The laws of a split into quarters, at a signed width of 32 bits too. Assumes nothing.
use mathlib.Core.Path.{◌≡◌, refl, sym, ap, ◌∙◌, subst}
use mathlib.Core.Bool.{Bool, cond}
use Prim.Native.Nat.{ℕ, zero, suc, ◌+◌, ◌-◌, ◌*◌, ◌/◌, ◌%◌, ◌<◌, ◌≤◌}
use native.Mathlib.Nat.{mod-lt}
use native.Mathlib.Omega.{arith}
use lib.IntN.{ℤ, pos, negsuc, neg_ℤ, sub_ℕ, ◌+ℤ◌, ◌-ℤ◌, ◌*ℤ◌, -ℤ-+ℤ_cancel, +ℤ_comm}
use lib.Dec.{lit<}
use lib.Signed.{shr_z, mag_shr}
use mir.Syntax.{w32}
use mir.Val.{SFits}
use mir.ValLaws.{sfits_le}
use borrow.Author.Tests.{le-ltb}
use Rattle.powers.specs.Quarters.{quarter, rest}

pub rest-small : (q : ℤ) → rest q < 4
rest-small (pos n) = mod-lt n (lit< tt)
rest-small (negsuc n) = omega arith

pub fits-quarter : (q : ℤ) → SFits w32 q → SFits w32 (shr_z q 4)
fits-quarter q h = sfits_le (mag_shr q 4) h

-- a difference of naturals that is not negative
pub sub_ge : (a b : ℕ) → b ≤ a → sub_ℕ a b ≡ pos (a - b)
sub_ge a b h = ap (λ (t : Bool). cond t (negsuc (b - suc a)) (pos (a - b))) (le-ltb a b h)

neg_four : (m : ℕ) → neg_ℤ (pos (4 * suc m)) ≡ negsuc (4 * m + 3)
neg_four m = ap (λ (n : ℕ). neg_ℤ (pos n)) (e m)
  where
    e : (m : ℕ) → 4 * suc m ≡ suc (4 * m + 3)
    e m = omega arith

pub fits_four : (q : ℤ) → SFits w32 q → SFits w32 (pos 4 *ℤ shr_z q 4)
fits_four (pos n) h = record { sfits = small n h.sfits }
  where
    small : (n : ℕ) → n < 2147483648 → 4 * (n / 4) < 2147483648
    small n h = omega arith
fits_four (negsuc n) h = subst (SFits w32) (sym (neg_four (n / 4))) (record { sfits = small n h.sfits })
  where
    small : (n : ℕ) → n < 2147483648 → 4 * (n / 4) + 3 < 2147483648
    small n h = omega arith

minus_ge : (a b : ℕ) → b ≤ a → pos a -ℤ pos b ≡ pos (a - b)
minus_ge a zero h = ap pos (e a)
  where
    e : (a : ℕ) → a + 0 ≡ a - 0
    e a = omega arith
minus_ge a (suc b) h = sub_ge a (suc b) h

pub left_over : (q : ℤ) → q -ℤ pos 4 *ℤ shr_z q 4 ≡ pos (rest q)
left_over (pos n) = minus_ge n (4 * (n / 4)) (le n) ∙ ap pos (e n)
  where
    le : (n : ℕ) → 4 * (n / 4) ≤ n
    le n = omega arith

    e : (n : ℕ) → n - 4 * (n / 4) ≡ n % 4
    e n = omega arith
left_over (negsuc n) =
    ap (λ (z : ℤ). negsuc n -ℤ z) (neg_four (n / 4))
    ∙ sub_ge (suc (4 * (n / 4) + 3)) (suc n) (le n)
    ∙ ap pos (e n)
  where
    le : (n : ℕ) → suc n ≤ suc (4 * (n / 4) + 3)
    le n = omega arith

    e : (n : ℕ) → suc (4 * (n / 4) + 3) - suc n ≡ 3 - n % 4
    e n = omega arith

pub same-quarter : (q : ℤ) → shr_z q 4 ≡ quarter q
same-quarter (pos n) = refl
same-quarter (negsuc n) = refl

pub rest-fits : (q : ℤ) → SFits w32 (pos (rest q))
rest-fits q = record { sfits = small (rest q) (rest-small q) }
  where
    small : (n : ℕ) → n < 4 → n < 2147483648
    small n h = omega arith

-- the split is exact, below zero too
pub floored : (q : ℤ) → q ≡ pos 4 *ℤ quarter q +ℤ pos (rest q)
floored q =
    sym (-ℤ-+ℤ_cancel q (pos 4 *ℤ shr_z q 4))
    ∙ ap (λ (z : ℤ). z +ℤ pos 4 *ℤ shr_z q 4) (left_over q)
    ∙ +ℤ_comm (pos (rest q)) (pos 4 *ℤ shr_z q 4)
    ∙ ap (λ (z : ℤ). pos 4 *ℤ z +ℤ pos (rest q)) (same-quarter q)
