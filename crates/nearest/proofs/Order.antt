-- `units` grows with the pattern. Assumes nothing.
use mathlib.Core.Path.{◌≡◌, subst, sym}
use mathlib.Core.Logic.{⊎_elim}
use Prim.Native.Nat.{ℕ, zero, suc, ◌+◌, ◌-◌, ◌*◌, ◌/◌, ◌%◌, ◌^◌, ◌<◌, ◌≤◌}
use native.Mathlib.Nat.{lt_trans, lt_irrefl, le_refl, le_of_lt, mul-lt-mul_of_pos_right, add-mul, add-zero, add-suc, pow-suc, mod-lt, eq-or-lt_of_le, le_antisymm, lt_of_not-le, not-le_of_lt, le_of_suc-le-suc}
use native.Mathlib.Omega.{arith}
use lib.Dec.{lit<}
use lib.Pow.{pow_pos}
use Rattle.nearest.specs.Nearest.{value, units}

-- the next digit, and the next field
in_field : (x t : ℕ) → value x t < value x (suc t)
in_field zero t = le_refl (suc t)
in_field (suc x) t = mul-lt-mul_of_pos_right (step t) (pow_pos x)
  where
    step : (t : ℕ) → 8388608 + t < 8388608 + suc t
    step t = omega arith

next_field : (x t : ℕ) → t < 8388608 → value x t < value (suc x) 0
next_field zero t h = omega arith
next_field (suc x) t h = rw (pow-suc 2 x) (twice (2 ^ x) t (mul-lt-mul_of_pos_right h (pow_pos x)))
  where
    twice : (p t : ℕ) → t * p < 8388608 * p → (8388608 + t) * p < (8388608 + 0) * (p * 2)
    twice p t g = omega (arith, add-mul 8388608 t p)

units-step : (b : ℕ) → units b < units (suc b)
unfolding units
units-step b =
    ⊎_elim
    (λ (e : suc (b % 8388608) ≡ 8388608).
    subst (λ (z : ℕ). value (b / 8388608) (b % 8388608) < value z (suc b % 8388608)) (sym (up b e))
    (subst (λ (z : ℕ). value (b / 8388608) (b % 8388608) < value (suc (b / 8388608)) z) (sym (zero-digits b e))
    (next_field (b / 8388608) (b % 8388608) (mod-lt b (lit< tt)))))
    (λ (l : suc (b % 8388608) < 8388608).
    subst (λ (z : ℕ). value (b / 8388608) (b % 8388608) < value z (suc b % 8388608)) (sym (stays b l))
    (subst (λ (z : ℕ). value (b / 8388608) (b % 8388608) < value (b / 8388608) z) (sym (one_more b l))
    (in_field (b / 8388608) (b % 8388608))))
    (eq-or-lt_of_le (mod-lt b (lit< tt)))
  where
    up : (b : ℕ) → suc (b % 8388608) ≡ 8388608 → suc b / 8388608 ≡ suc (b / 8388608)
    up b e = omega arith

    zero-digits : (b : ℕ) → suc (b % 8388608) ≡ 8388608 → suc b % 8388608 ≡ 0
    zero-digits b e = omega arith

    stays : (b : ℕ) → suc (b % 8388608) < 8388608 → suc b / 8388608 ≡ b / 8388608
    stays b l = omega arith

    one_more : (b : ℕ) → suc (b % 8388608) < 8388608 → suc b % 8388608 ≡ suc (b % 8388608)
    one_more b l = omega arith

units_grow : (d b : ℕ) → units b < units (suc (b + d))
units_grow zero b = subst (λ (z : ℕ). units b < units (suc z)) (sym (add-zero b)) (units-step b)
units_grow (suc d) b = subst (λ (z : ℕ). units b < units (suc z)) (sym (add-suc b d)) (lt_trans (units_grow d b) (units-step (suc (b + d))))

pub units_rise : (a b : ℕ) → a < b → units a < units b
units_rise a b h = subst (λ (z : ℕ). units a < units z) (back a b h) (units_grow (b - suc a) a)
  where
    back : (a b : ℕ) → a < b → suc (a + (b - suc a)) ≡ b
    back a b h = omega arith

pub units_mono : (a b : ℕ) → a ≤ b → units a ≤ units b
units_mono a b h = ⊎_elim (λ (e : a ≡ b). subst (λ (z : ℕ). units a ≤ units z) e (le_refl (units a))) (λ (l : a < b). le_of_lt (units_rise a b l)) (eq-or-lt_of_le h)

-- and so the order of the sizes is that of the patterns
pub in_order : (a b : ℕ) → units a < units b → a < b
in_order a b h = lt_of_not-le (λ (g : b ≤ a). not-le_of_lt h (units_mono b a g))

pub same_pattern : (a b : ℕ) → units a ≡ units b → a ≡ b
same_pattern a b e = le_antisymm (go a b e) (go b a (sym e))
  where
    go : (a b : ℕ) → units a ≡ units b → a ≤ b
    go a b e = le_of_suc-le-suc (lt_of_not-le (λ (g : b < a). lt_irrefl (units a) (subst (λ (z : ℕ). z < units a) (sym e) (units_rise b a g))))
