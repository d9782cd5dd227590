-- The reader's theorems on powers and on the product: nearest, and exact where they can be. (Those on gains are `gain_nearest` of Gains and `floored` of Floor.) Assumes nothing.
use mathlib.Core.Path.{◌≡◌, refl, sym, ap, subst, ◌∙◌}
use mathlib.Core.Bool.{Bool, true, false, ◌&&◌, cond, beq}
use Prim.Native.Nat.{ℕ, ◌*◌, ◌^◌, ◌<◌}
use lib.Dec.{T, eqb, eqb→eq}
use lib.IntN.{ℤ, pos}
use lib.Ieee.{Float, nan, inf, fin, binary32, of_bits, to_bits, of_int, mul, up, down}
use lib.Ieee.Bits.{of_bits-to_bits}
use lib.Ieee.Exact.{HasValue}
use lib.Ieee.Fits.{and_r, mul-fits, of_int-fits}
use borrow.Author.Tests.{eq-eqb}
use Rattle.laws.specs.Checks.{all_to}
use Rattle.laws.specs.Sum.{zero_f}
use Rattle.laws.proofs.Checks.{all_pass}
use Rattle.nearest.specs.Nearest.{units, pattern_from, nearest_root, NearestF32}
use Rattle.nearest.proofs.FourThirds.{four_thirds}
use Rattle.powers.specs.Quarters.{quarter, rest, InGain}
use Rattle.power_table.specs.Power.{power}
use Rattle.powers.specs.Powers.{gain, product}
use Rattle.powers.proofs.Gains.{each, root_times_power, computed}

-- each power is the f32 nearest to n to the 4/3
pub power_nearest : (n : ℕ) → n < 8207 → NearestF32 3 (n ^ 4) 1 (power n)
unfolding power
power_nearest = four_thirds

-- ---- exact products: a cube's power at a whole number of quarters is rounded nowhere

-- `HasValue`, as a test
has_value : Float → ℕ → ℕ → Bool
has_value nan a c = false
has_value (inf s) a c = false
has_value (fin s m e) a c = beq s false && eqb (m * up e * c) (a * down e)

has : (x : Float) (a c : ℕ) → T (has_value x a c) → HasValue x false a c
unfolding has_value
has nan a c t = t
has (inf s) a c t = t
has (fin true m e) a c t = absurd t
has (fin false m e) a c t = (refl, eqb→eq (m * up e * c) (a * down e) (and_r true (eqb (m * up e * c) (a * down e)) t))

-- m cubed to the 4/3 is m to the fourth
cube_test : ℕ → Bool
cube_test m = eqb (pattern_from 3 ((m ^ 3) ^ 4) 1 31 0) (to_bits binary32 (of_int binary32 (pos (m ^ 4))))

cube_tests : T (all_to 21 cube_test)
unfolding cube_test all_to pattern_from units to_bits of_int
cube_tests = tt

pub cube_power : (m : ℕ) → m < 21 → power (m ^ 3) ≡ of_int binary32 (pos (m ^ 4))
unfolding cube_test power nearest_root
cube_power m h =
    ap (of_bits binary32) (eqb→eq (pattern_from 3 ((m ^ 3) ^ 4) 1 31 0) (to_bits binary32 (of_int binary32 (pos (m ^ 4)))) (all_pass 21 cube_test cube_tests m h))
    ∙ of_bits-to_bits binary32 (of_int binary32 (pos (m ^ 4))) (of_int-fits binary32 (pos (m ^ 4)))

abbrev exact_at : ℤ → ℕ → Bool
exact_at q m = has_value (mul binary32 (of_int binary32 (pos (m ^ 4))) (root_times_power (quarter q) (rest q))) (m ^ 4 * up (quarter q)) (down (quarter q))

exact_test : ℤ → Bool
exact_test q = cond (eqb (rest q) 0) (all_to 21 (exact_at q)) true

exact_tests : (q : ℤ) → InGain q → T (exact_test q)
unfolding exact_test has_value all_to of_bits of_int mul
exact_tests = each exact_test tt tt

pub exact : (m : ℕ) → m < 21 → (q : ℤ) → InGain q → rest q ≡ 0 → HasValue (product (pos (m ^ 3)) (gain q)) false (m ^ 4 * up (quarter q)) (down (quarter q))
unfolding exact_test
exact m h q g e =
    let t = subst (λ (b : Bool). T (cond b (all_to 21 (exact_at q)) true)) (eq-eqb (rest q) 0 e) (exact_tests q g) in
    rw (cube_power m h, ← computed q g) (has _ (m ^ 4 * up (quarter q)) (down (quarter q)) (all_pass 21 (exact_at q) t m h))

-- 0 gives +0.0 at every gain
zero_test : ℤ → Bool
zero_test q = eqb (to_bits binary32 (mul binary32 zero_f (root_times_power (quarter q) (rest q)))) 0

zero-tests : (q : ℤ) → InGain q → T (zero_test q)
unfolding zero_test all_to of_bits mul to_bits
zero-tests = each zero_test tt tt

power_0 : power 0 ≡ zero_f
unfolding power nearest_root pattern_from units
power_0 = refl

pub zero-product : (q : ℤ) → InGain q → product (pos 0) (gain q) ≡ zero_f
unfolding zero_test
zero-product q g =
    let root = root_times_power (quarter q) (rest q) in
    let x = mul binary32 zero_f root in
    rw (power_0, ← computed q g) (sym (of_bits-to_bits binary32 x (mul-fits binary32 zero_f root)) ∙ ap (of_bits binary32) (eqb→eq (to_bits binary32 x) 0 (zero-tests q g)))
