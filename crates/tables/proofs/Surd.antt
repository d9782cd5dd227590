-- Laws of the order: that it is the order of the numbers, that it goes one way only, and that fractions keep it. Assumes nothing.
use mathlib.Core.Path.{◌≡◌}
use Prim.Native.Nat.{ℕ, ◌+◌, ◌-◌, ◌*◌, ◌^◌, ◌≤◌, ◌<◌}
use native.Mathlib.Nat.{sub-zero, zero-sub, zero-add, add-zero, lt_irrefl, lt_trans, lt_of_le_of_lt, lt_of_lt_of_le, add-le-add, mul-le-mul_left, mul-le-mul_right, le_refl, pow-le-pow_left}
use native.Mathlib.Omega.{arith}
use Rattle.tables.specs.Surd.{Surd, surd, plus, scaled, excess, Less, Fraction, Below, Above}

-- ---- the order is that of the numbers. What both sides have cancels, by `cancel`. Then one side is whole and the other a root, or one side
-- is 0: the four cases before it, in which the order is one of whole numbers' squares.

module _ (a b : ℕ) where
  whole-excess : excess (surd a 0) (surd 0 b) ≡ a ^ 2
  whole-excess = rw (zero-sub b, sub-zero a, add-zero)

  root-excess : excess (surd 0 b) (surd a 0) ≡ 3 * b ^ 2
  root-excess = rw (zero-sub a, sub-zero b, zero-add)

  no_excess : excess (surd 0 0) (surd a b) ≡ 0
  no_excess = rw (zero-sub a, zero-sub b)

  whole_and_root : excess (surd a b) (surd 0 0) ≡ a ^ 2 + 3 * b ^ 2
  whole_and_root = rw (sub-zero a, sub-zero b)

  pub whole-root : Less (surd a 0) (surd 0 b) ≡ (a ^ 2 < 3 * b ^ 2)
  whole-root = rw (whole-excess, root-excess)

  pub root-whole : Less (surd 0 b) (surd a 0) ≡ (3 * b ^ 2 < a ^ 2)
  root-whole = rw (whole-excess, root-excess)

  pub nothing_less : Less (surd 0 0) (surd a b) ≡ (0 < a ^ 2 + 3 * b ^ 2)
  nothing_less = rw (no_excess, whole_and_root)

  pub less_nothing : Less (surd a b) (surd 0 0) ≡ (a ^ 2 + 3 * b ^ 2 < 0)
  less_nothing = rw (no_excess, whole_and_root)

excess-plus : (x y z : Surd) → excess (plus x z) (plus y z) ≡ excess x y
excess-plus x y z = rw (both x.whole y.whole z.whole, both x.root y.root z.root)
  where
    both : (a b c : ℕ) → (a + c) - (b + c) ≡ a - b
    both a b c = omega arith

pub cancel : (x y z : Surd) → Less (plus x z) (plus y z) ≡ Less x y
cancel x y z = rw (excess-plus x y z, excess-plus y x z)

-- ---- what the search for the nearest needs

pub one_way : (x y : Surd) → Less x y → Less y x → ⊥
one_way x y h g = lt_irrefl (excess x y) (lt_trans h g)

excess-mono : (a b c d : Surd) → a.whole ≤ b.whole → a.root ≤ b.root → c.whole ≤ d.whole → c.root ≤ d.root → excess a d ≤ excess b c
excess-mono a b c d h g k l =
    add-le-add (pow-le-pow_left (part a.whole b.whole c.whole d.whole h k) 2)
    (mul-le-mul_left _ (pow-le-pow_left (part a.root b.root c.root d.root g l) 2))
  where
    part : (a b c d : ℕ) → a ≤ b → c ≤ d → a - d ≤ b - c
    part a b c d h g = omega arith

module _ (l m : ℕ) (h : l ≤ m) (x s : Surd) where
  left-mono : excess (scaled l x) s ≤ excess (scaled m x) s
  left-mono = excess-mono (scaled l x) (scaled m x) s s (mul-le-mul_right x.whole h) (mul-le-mul_right x.root h) (le_refl s.whole) (le_refl s.root)

  right-mono : excess s (scaled m x) ≤ excess s (scaled l x)
  right-mono = excess-mono s s (scaled l x) (scaled m x) (le_refl s.whole) (le_refl s.root) (mul-le-mul_right x.whole h) (mul-le-mul_right x.root h)

-- a fraction below one that lies below x does so too, and one above one that lies above x
module _ (l m n : ℕ) (x : Fraction) (h : l ≤ m) where
  pub below-mono : Below m n x → Below l n x
  below-mono g = lt_of_le_of_lt (left-mono l m h x.under (scaled n x.over)) (lt_of_lt_of_le g (right-mono l m h x.under (scaled n x.over)))

  pub above-mono : Above l n x → Above m n x
  above-mono g = lt_of_le_of_lt (right-mono l m h x.under (scaled n x.over)) (lt_of_lt_of_le g (left-mono l m h x.under (scaled n x.over)))
