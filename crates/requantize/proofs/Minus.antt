-- A difference of two numbers that are not negative, and when it is the quarters of a gain. Assumes nothing.
use mathlib.Core.Path.{◌≡◌, refl, sym, ap, ◌∙◌, subst}
use mathlib.Core.Bool.{Bool, true, false, cond}
use Prim.Native.Nat.{ℕ, zero, suc, ◌+◌, ◌-◌, ◌<◌, ◌≤◌}
use native.Mathlib.Omega.{arith}
use lib.Dec.{ltb, le→leb}
use lib.IntN.{ℤ, pos, negsuc, sub_ℕ, ◌-ℤ◌}
use lib.Signed.{le_z_yes}
use borrow.Author.Tests.{le-ltb, ltb-true, ltb-false}
use Rattle.powers.specs.Quarters.{InGain}

sub_is : (a b : ℕ) (t : Bool) → ltb a b ≡ t → sub_ℕ a b ≡ cond t (negsuc (b - suc a)) (pos (a - b))
sub_is a b t e = ap (λ (u : Bool). cond u (negsuc (b - suc a)) (pos (a - b))) e

minus_is : (a b : ℕ) → pos a -ℤ pos b ≡ sub_ℕ a b
minus_is a zero = ap pos (e a) ∙ sym (sub_is a zero false (le-ltb a 0 (z a)))
  where
    e : (a : ℕ) → a + 0 ≡ a - 0
    e a = omega arith

    z : (a : ℕ) → 0 ≤ a
    z a = omega arith
minus_is a (suc b) = refl

-- by the two ways that the difference can come out
by_sign : (a b : ℕ) (P : ℤ → Type 0) → (b ≤ a → P (pos (a - b))) → (a < b → P (negsuc (b - suc a))) → P (pos a -ℤ pos b)
by_sign a b P f g = subst P (sym (minus_is a b)) (go (ltb a b) refl)
  where
    go : (t : Bool) → ltb a b ≡ t → P (sub_ℕ a b)
    go true e = subst P (sym (sub_is a b true e)) (g (ltb-true a b e))
    go false e = subst P (sym (sub_is a b false e)) (f (ltb-false a b e))

module _ (a b : ℕ) (h : a ≤ 255) (k : b ≤ 326) where
  -- "q lies in -326 to 45"
  pub in_gain : 210 ≤ b → InGain (pos a -ℤ pos b)
  in_gain l =
      by_sign a b InGain
      (λ g. record { least = le_z_yes tt; most = le_z_yes (le→leb (a - b) 45 (omega arith)) })
      (λ g. record { least = le_z_yes (le→leb (b - suc a) 325 (omega arith)); most = le_z_yes tt })
