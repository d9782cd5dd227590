-- What `units` says of a pattern is what the logic's account of IEEE 754 says of its f32: `units b` times 2 ^ -149, not negative. Assumes nothing.
use mathlib.Core.Path.{◌≡◌, refl, sym, ◌∙◌, subst}
use mathlib.Core.Bool.{Bool, true, false, cond, true≢false}
use Prim.Native.Nat.{ℕ, zero, suc, ◌+◌, ◌*◌, ◌/◌, ◌%◌, ◌^◌, ◌<◌, ◌≤◌}
use native.Mathlib.Nat.{mod-eq_of_lt, mul-one, lt_of_not-le, eq_of_mul-eq-mul_right}
use native.Mathlib.Omega.{arith}
use lib.Dec.{leb, eqb}
use lib.Ieee.{Float, inf, nan, fin, down, binary32, odd, of_fields, of_bits}
use lib.Ieee.Exact.{HasValue, odd_sign}
use lib.Ieee.Positive.{den_pos}
use borrow.Author.Tests.{lt-leb, leb-false, ne_eqb}
use Rattle.nearest.specs.Nearest.{value, units}

fields : (x t : ℕ) → x < 255 → HasValue (of_fields binary32 false x t) false (value x t) (2 ^ 149)
unfolding of_fields
fields zero t h = subst (λ (n : ℕ). HasValue (odd 24 false t 0 149) false n (2 ^ 149)) (mul-one t) (odd_sign 24 false t 0 149)
fields (suc x) t h =
    subst (λ (b : Bool). HasValue (cond b (cond (eqb t 0) (inf false) nan) (odd 24 false (8388608 + t) x 149)) false ((8388608 + t) * 2 ^ x) (2 ^ 149))
    (sym (ne_eqb (suc x) 255 (λ e. no x h e))) (odd_sign 24 false (8388608 + t) x 149)
  where
    no : (x : ℕ) → suc x < 255 → suc x ≡ 255 → ⊥
    no x h e = omega arith

pub units-value : (b : ℕ) → b < 0x7f80_0000 → HasValue (of_bits binary32 b) false (units b) (2 ^ 149)
unfolding of_bits units
units-value b h =
    subst (λ (s : Bool). HasValue (of_fields binary32 s (b % 0x8000_0000 / 8388608) (b % 8388608)) false (value (b / 8388608) (b % 8388608)) (2 ^ 149)) (sym (lt-leb 0x8000_0000 b (up b h)))
    (subst (λ (n : ℕ). HasValue (of_fields binary32 false (n / 8388608) (b % 8388608)) false (value (b / 8388608) (b % 8388608)) (2 ^ 149)) (sym (mod-eq_of_lt (up b h)))
    (fields (b / 8388608) (b % 8388608) (small b h)))
  where
    up : (b : ℕ) → b < 0x7f80_0000 → b < 0x8000_0000
    up b h = omega arith

    small : (b : ℕ) → b < 0x7f80_0000 → b / 8388608 < 255
    small b h = omega arith

-- ---- a finite f32 that is not negative has such a pattern

-- a value with the sign set is no value that is not negative
no_sign : (d q k l c n : ℕ) → HasValue (odd d true q k l) false c n → ⊥
unfolding odd
no_sign d zero k l c n v = true≢false v.0
no_sign d (suc q) k l c n v = true≢false v.0

no_sign_cond : (b e : Bool) (d q k l c n : ℕ) → HasValue (cond b (cond e (inf true) nan) (odd d true q k l)) false c n → ⊥
no_sign_cond true true d q k l c n v = v
no_sign_cond true false d q k l c n v = v
no_sign_cond false e d q k l c n v = no_sign d q k l c n v

not_negative : (x t c n : ℕ) → HasValue (of_fields binary32 true x t) false c n → ⊥
unfolding of_fields
not_negative zero t c n v = no_sign 24 t 0 149 c n v
not_negative (suc x) t c n v = no_sign_cond (eqb (suc x) 255) (eqb t 0) 24 (8388608 + t) x 149 c n v

not_infinite : (b c n : ℕ) → HasValue (cond (eqb b 0) (inf false) nan) false c n → ⊥
not_infinite b c n v = go (eqb b 0) v
  where
    go : (t : Bool) → HasValue (cond t (inf false) nan) false c n → ⊥
    go true v = v
    go false v = v

pub finite_pattern : (b c n : ℕ) → b < 0x1_0000_0000 → HasValue (of_bits binary32 b) false c n → b < 0x7f80_0000
unfolding of_bits of_fields
finite_pattern b c n h v = go (leb 0x8000_0000 b) refl
  where
    field : (b : ℕ) → 0x7f80_0000 ≤ b → b < 0x8000_0000 → b % 0x8000_0000 / 8388608 ≡ 255
    field b h g = omega arith

    go : (s : Bool) → leb 0x8000_0000 b ≡ s → b < 0x7f80_0000
    go true e = absurd (not_negative (b % 0x8000_0000 / 8388608) (b % 8388608) c n (subst (λ (s : Bool). HasValue (of_fields binary32 s (b % 0x8000_0000 / 8388608) (b % 8388608)) false c n) e v))
    go false e = lt_of_not-le (λ (g : 0x7f80_0000 ≤ b). not_infinite (b % 8388608) c n
        (subst (λ (x : ℕ). HasValue (of_fields binary32 false x (b % 8388608)) false c n) (field b g (leb-false 0x8000_0000 b e))
        (subst (λ (s : Bool). HasValue (of_fields binary32 s (b % 0x8000_0000 / 8388608) (b % 8388608)) false c n) e v)))

-- the size that a value has is one
pub same_size : (x : Float) (a c n : ℕ) → HasValue x false a n → HasValue x false c n → a ≡ c
same_size nan a c n v w = absurd v
same_size (inf s) a c n v w = absurd v
same_size (fin s m e) a c n v w = eq_of_mul-eq-mul_right (down e) (den_pos (fin s m e)) a c (sym v.1 ∙ w.1)
