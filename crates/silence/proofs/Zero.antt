-- The test for a zero as the machine makes it, a comparison with +0.0; and a zero times a finite number. Assumes nothing.
use mathlib.Core.Path.{◌≡◌, refl, sym, ap, ◌∙◌}
use mathlib.Core.Bool.{Bool, true, false, true≢false, ◌&&◌, ◌||◌, or-true, beq}
use Prim.Native.Nat.{ℕ, zero, suc, ◌*◌, ◌<◌}
use native.Mathlib.Nat.{zero-mul, mul-pos, zero-lt-suc, lt_irrefl}
use native.Mathlib.Omega.{arith}
use lib.Dec.{lit<, eqb}
use lib.Ieee.{Float, nan, inf, fin, binary32, of_bits, up, down, eq, mul, level, unlike}
use lib.Ieee.Fits.{up_pos, down_pos}
use borrow.Author.Tests.{ne_eqb, eqb-true}
use Rattle.laws.specs.Finite.{finite}
use Rattle.laws.specs.Sum.{zero_f}
use Rattle.laws.proofs.Zeros.{Zero, zero-fraction}
use Rattle.silence.specs.Silence.{is_zero}

none : (s : Bool) (a b : ℕ) → a ≡ 0 → b ≡ 0 → level s a false b ≡ true
none s a b p q = rw (p, q) (or-true (beq s false))

some : (s : Bool) (a b : ℕ) → 0 < a → b ≡ 0 → level s a false b ≡ false
some s a b h q = rw q (ap (λ (x : Bool). x && (beq s false || eqb a 0)) (ne_eqb a 0 (λ e. lt_irrefl 0 (omega arith))))

pub zero_test : (x : Float) → eq x zero_f ≡ is_zero x
unfolding eq is_zero of_bits
zero_test nan = refl
zero_test (inf s) = refl
zero_test (fin s zero e) = none s (0 * up e * 1) (0 * down e) (ap (λ (y : ℕ). y * 1) (zero-mul (up e)) ∙ zero-mul 1) (zero-mul (down e))
zero_test (fin s (suc m) e) =
    some s (suc m * up e * 1) (0 * down e) (mul-pos (mul-pos (zero-lt-suc m) (up_pos e)) (lit< tt)) (zero-mul (down e))
    ∙ sym (ne_eqb (suc m) 0 (λ e. lt_irrefl 0 (omega arith)))

-- a zero times a finite number is a zero
pub zero-times-finite : (x y : Float) → is_zero x ≡ true → finite y ≡ true → Zero (mul binary32 x y)
unfolding is_zero finite mul
zero-times-finite nan y z h = absurd (true≢false (sym z))
zero-times-finite (inf s) y z h = absurd (true≢false (sym z))
zero-times-finite (fin s m e) nan z h = absurd (true≢false (sym h))
zero-times-finite (fin s m e) (inf t) z h = absurd (true≢false (sym h))
zero-times-finite (fin s m e) (fin t n d) z h =
    zero-fraction (unlike s t) (m * up e * (n * up d)) (down e * down d)
    (ap (λ (k : ℕ). k * up e * (n * up d)) (eqb-true m 0 z) ∙ ap (λ (k : ℕ). k * (n * up d)) (zero-mul (up e)) ∙ zero-mul (n * up d))
    (mul-pos (down_pos e) (down_pos d))
