-- What the code of `gain_of` computes of q is tested at each q that a gain can have, -326 to 45, by antt: it is the f32 nearest to 2 to the q/4. Assumes nothing.
use mathlib.Core.Path.{◌≡◌, sym, subst, ◌∙◌}
use mathlib.Core.Bool.{Bool, not, ◌&&◌}
use mathlib.Core.List.{[], ◌∷◌}
use Prim.Native.Nat.{ℕ, ◌*◌, ◌<◌, ◌≤◌}
use native.Mathlib.Omega.{arith}
use lib.Dec.{T, ltb, ltb→lt, leb→le}
use lib.ListN.{get_or}
use lib.IntN.{ℤ, pos, negsuc, nat_abs, ◌+ℤ◌}
use lib.Signed.{mag, non_neg}
use lib.Ieee.{Float, binary32, of_bits, to_bits, nan_bits, mul, up, down}
use lib.Ieee.Bits.{of_bits-to_bits}
use lib.Ieee.Fits.{mul-fits, and_l, and_r}
use mir.Syntax.{w32}
use mir.Val.{to_z, of_z}
use Rattle.laws.specs.Checks.{all_to}
use Rattle.laws.proofs.Checks.{all_pass}
use Rattle.nearest.specs.Nearest.{units, NearestF32}
use Rattle.nearest.proofs.Test.{near, found}
use Rattle.nearest.proofs.Nearest.{nearest}
use Rattle.powers.specs.Quarters.{quarter, rest, InGain}
use Rattle.powers.specs.Powers.{gain}
use Rattle.powers.proofs.Floor.{rest-small}

-- a test that passes at each of them
pub each : (f : ℤ → Bool) → T (all_to 46 (λ n. f (pos n))) → T (all_to 326 (λ n. f (negsuc n))) → (q : ℤ) → InGain q → T (f q)
each f t u (pos n) g = all_pass 46 (λ n. f (pos n)) t n (small n (leb→le n 45 g.most.le))
  where
    small : (n : ℕ) → n ≤ 45 → n < 46
    small n h = omega arith
each f t u (negsuc n) g = all_pass 326 (λ n. f (negsuc n)) u n (small n (leb→le n 325 g.least.le))
  where
    small : (n : ℕ) → n ≤ 325 → n < 326
    small n h = omega arith

-- the sum, what the machine reads back of it, the two patterns and their product, as the code has them
abbrev pub sum : ℤ → ℤ
sum k = to_z w32 (of_z w32 k) +ℤ pos 127

abbrev pub field : ℤ → ℤ
field k = to_z w32 (of_z w32 (sum k))

abbrev pub root : ℕ → ℕ
root r = get_or (1065353216 ∷ 1066940400 ∷ 1068827891 ∷ 1071072509 ∷ []) r 0

abbrev pub power_of_two : ℤ → ℕ
power_of_two k = nat_abs (field k) * 8388608

abbrev pub root_times_power : ℤ → ℕ → Float
root_times_power k r = mul binary32 (of_bits binary32 (root r)) (of_bits binary32 (power_of_two k))

pub record Right (q k : ℤ) (r : ℕ) : Type 0 where
  pub fits : mag (sum k) < 2147483648
  pub plus : T (non_neg (field k))
  pub small : nat_abs (field k) < 255
  pub low : r < 4
  pub root_number : T (not (nan_bits binary32 (root r)))
  pub is : root_times_power k r ≡ gain q

-- the fields of `Right` that are tests, and that the product is nearest
near_it : ℤ → Bool
near_it q = near 4 (up q) (down q) (to_bits binary32 (root_times_power (quarter q) (rest q)))

in_range : ℤ → Bool
in_range q = ltb (mag (sum (quarter q))) 2147483648 && (non_neg (field (quarter q)) && (ltb (nat_abs (field (quarter q))) 255 && not (nan_bits binary32 (root (rest q)))))

nears : (q : ℤ) → InGain q → T (near_it q)
unfolding near_it units of_bits to_bits mul all_to
nears = each near_it tt tt

ranges : (q : ℤ) → InGain q → T (in_range q)
unfolding in_range nan_bits all_to
ranges = each in_range tt tt

module _ (q : ℤ) (g : InGain q) where
  pub gain_nearest : NearestF32 4 (up q) (down q) (gain q)
  unfolding near_it gain
  gain_nearest = nearest 4 (up q) (down q) (to_bits binary32 (root_times_power (quarter q) (rest q))) (nears q g)

  pub computed : root_times_power (quarter q) (rest q) ≡ gain q
  unfolding near_it gain
  computed =
      sym (of_bits-to_bits binary32 (root_times_power (quarter q) (rest q)) (mul-fits binary32 (of_bits binary32 (root (rest q))) (of_bits binary32 (power_of_two (quarter q)))))
      ∙ found 4 (up q) (down q) (to_bits binary32 (root_times_power (quarter q) (rest q))) (nears q g)

  right : Right q (quarter q) (rest q)
  unfolding in_range
  right =
      let k = quarter q in
      let a = ltb (mag (sum k)) 2147483648 in
      let b = non_neg (field k) in
      let d = ltb (nat_abs (field k)) 255 in
      let n = not (nan_bits binary32 (root (rest q))) in
      let t = ranges q g in
      let u = and_r a (b && (d && n)) t in
      let v = and_r b (d && n) u in
      record {
        fits = ltb→lt (mag (sum k)) 2147483648 (and_l a (b && (d && n)) t);
        plus = and_l b (d && n) u;
        small = ltb→lt (nat_abs (field k)) 255 (and_l d n v);
        low = rest-small q;
        root_number = and_r d n v;
        is = computed;
      }

  -- at the two numbers that `split` returns
  pub right-at : (k : ℤ) (r : ℕ) → k ≡ quarter q → r ≡ rest q → Right q k r
  right-at k r ek er = subst (λ (z : ℤ). Right q z r) (sym ek) (subst (λ (n : ℕ). Right q (quarter q) n) (sym er) right)
