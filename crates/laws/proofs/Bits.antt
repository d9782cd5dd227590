-- The sign of a bit pattern is its highest bit: two patterns of one size stand for equal numbers or for opposite ones. Assumes nothing.
use mathlib.Core.Path.{◌≡◌, refl, sym, ap, ◌∙◌}
use mathlib.Core.Bool.{Bool, true, false, not, cond}
use Prim.Native.Nat.{ℕ, zero, suc, ◌+◌, ◌*◌, ◌/◌, ◌%◌, ◌≤◌, ◌<◌}
use native.Mathlib.Omega.{arith}
use lib.Dec.{T, leb, eqb, eqb_refl, leb→le, nleb→lt}
use lib.Bits.{bit_xor, xor_mod, xor_shr, xor_zero_r}
use lib.Ieee.{Float, nan, inf, fin, binary32, is_nan, odd, eq, up, down, neg, of_fields, of_bits}
use lib.Ieee.Bits.{is_true}
use Rattle.laws.specs.Patterns.{size, sign}
use Rattle.laws.proofs.Negation.{cond-neg, odd_neg}

neg-end : (b s : Bool) → neg (cond b (inf s) nan) ≡ cond b (inf (not s)) nan
unfolding neg
neg-end true s = refl
neg-end false s = refl

-- the sign's field alone is turned over
pub neg_fields : (s : Bool) (x t : ℕ) → neg (of_fields binary32 s x t) ≡ of_fields binary32 (not s) x t
unfolding of_fields
neg_fields s zero t = sym (odd_neg 24 s t 0 149)
neg_fields s (suc x) t = sym (cond-neg (eqb (suc x) 255) (cond (eqb t 0) (inf s) nan) (odd 24 s (8388608 + t) x 149) (sym (neg-end (eqb t 0) s)) (odd_neg 24 s (8388608 + t) x 149))

of-fields : (b : ℕ) → of_bits binary32 b ≡ of_fields binary32 (leb 2147483648 b) (size b / 8388608) (b % 8388608)
unfolding of_bits
of-fields b = refl

differ : (p q : Bool) → (T p → T q → ⊥) → (T (not p) → T (not q) → ⊥) → p ≡ not q
differ true true f g = absurd (f tt tt)
differ true false f g = refl
differ false true f g = refl
differ false false f g = absurd (g tt tt)

digits : (a b : ℕ) → size a ≡ size b → a % 8388608 ≡ b % 8388608
digits a b e = omega arith

both_negative : (a b : ℕ) → sign a + sign b ≡ 1 → 2147483648 ≤ a → 2147483648 ≤ b → ⊥
both_negative a b e h k = omega arith

both_positive : (a b : ℕ) → sign a + sign b ≡ 1 → a < 2147483648 → b < 2147483648 → ⊥
both_positive a b e h k = omega arith

signs : (a b : ℕ) → sign a + sign b ≡ 1 → leb 2147483648 a ≡ not (leb 2147483648 b)
signs a b e =
    differ (leb 2147483648 a) (leb 2147483648 b) (λ p q. both_negative a b e (leb→le 2147483648 a p) (leb→le 2147483648 b q))
    (λ p q. both_positive a b e (nleb→lt 2147483648 a p) (nleb→lt 2147483648 b q))

-- equal size, and one of the two negative
pub opposite : (a b : ℕ) → size a ≡ size b → sign a + sign b ≡ 1 → of_bits binary32 a ≡ neg (of_bits binary32 b)
opposite a b e s =
    of-fields a
    ∙ ap (λ (p : Bool). of_fields binary32 p (size a / 8388608) (a % 8388608)) (signs a b s)
    ∙ ap (λ (x : ℕ). of_fields binary32 (not (leb 2147483648 b)) (x / 8388608) (a % 8388608)) e
    ∙ ap (λ (t : ℕ). of_fields binary32 (not (leb 2147483648 b)) (size b / 8388608) t) (digits a b e)
    ∙ sym (ap neg (of-fields b) ∙ neg_fields (leb 2147483648 b) (size b / 8388608) (b % 8388608))

-- a positive pattern with the sign's bit added stands for the number negated
pub neg_bits : (b : ℕ) → b < 2147483648 → neg (of_bits binary32 b) ≡ of_bits binary32 (b + 2147483648)
neg_bits b h = sym (opposite (b + 2147483648) b (omega arith) (omega arith))

-- a pattern whose highest bit is turned over stands for the number negated
pub neg_turned : (b : ℕ) → b < 4294967296 → of_bits binary32 (bit_xor b 2147483648) ≡ neg (of_bits binary32 b)
neg_turned b h =
    opposite (bit_xor b 2147483648) b (xor_mod b 2147483648 31 ∙ xor_zero_r (size b)) (ap (λ (s : ℕ). s + sign b) (xor_shr b 2147483648 31) ∙ one (sign b) (omega arith))
  where
    one : (s : ℕ) → s < 2 → bit_xor s 1 + s ≡ 1
    one zero _ = refl
    one (suc zero) _ = refl
    one (suc (suc s)) h = absurd (omega arith)

-- a NaN alone does not equal itself
pub equal_to_itself : (x : Float) → eq x x ≡ not (is_nan x)
unfolding eq is_nan
equal_to_itself nan = refl
equal_to_itself (inf true) = refl
equal_to_itself (inf false) = refl
equal_to_itself (fin true m e) = rw (is_true (eqb (m * up e * down e) (m * up e * down e)) (eqb_refl (m * up e * down e)))
equal_to_itself (fin false m e) = rw (is_true (eqb (m * up e * down e) (m * up e * down e)) (eqb_refl (m * up e * down e)))
