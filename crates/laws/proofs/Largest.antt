-- The largest of numbers by a rule is at least each of them and one of them, and only one number is. Over any length and any rule. Assumes nothing.
use mathlib.Core.Path.{◌≡◌, refl, ◌∙◌}
use Prim.Native.Nat.{ℕ, zero, suc, ◌+◌, ◌<◌, ◌≤◌, max}
use native.Mathlib.Decide.{dec_lt}
use native.Mathlib.Numerals.{add-one}
use native.Mathlib.Omega.{arith}
use Rattle.laws.specs.Largest.{largest, Largest}

-- ---- a loop that keeps it: m of the first i, then r with one more; and the end

module _ (f : ℕ → ℕ) where
  pub largest-none : 0 ≡ largest 0 f
  unfolding largest
  largest-none = refl

  pub largest_turn : (i : ℕ) {m r x : ℕ} → m ≡ largest i f → x ≡ f i → r ≡ max m x → r ≡ largest (i + 1) f
  unfolding largest
  largest_turn i h e d = d ∙ rw (add-one, h, e)

  pub largest-end : (n i : ℕ) {m : ℕ} → m ≡ largest i f → i ≤ n → n ≤ i → m ≡ largest n f
  largest-end n i h a b = let e : i ≡ n = omega arith in h ∙ rw e

-- ---- laws

-- equal numbers have one largest
pub largest-same : (n : ℕ) (f g : ℕ → ℕ) → ((k : ℕ) → k < n → f k ≡ g k) → largest n f ≡ largest n g
unfolding largest
largest-same zero f g h = refl
largest-same (suc n) f g h = rw (largest-same n f g (λ k q. h k (omega arith)), h n (omega arith))

-- one more number: where it is the new largest it stands at its place, else the largest stands where it stood
module _ (n : ℕ) (f : ℕ → ℕ) where
  one_more : (m : ℕ) → Largest n f m → Largest (suc n) f (max m (f n))
  one_more m l = split (dec_lt m (f n))
    where
      each : (i : ℕ) → i < suc n → f i ≤ max m (f n)
      each i h = by (dec_lt i n)
        where
          by : Dec (i < n) → f i ≤ max m (f n)
          by (yes q) = let below = l.at_least_each i q in omega arith
          by (no q) = let e : i ≡ n = omega arith in rw e (omega arith)

      split : Dec (m < f n) → Largest (suc n) f (max m (f n))
      split (yes q) = record { at_least_each = each; place = n; among_them = omega arith; one_of_them = omega arith }
      split (no q) =
          let at = l.among_them in
          let is = l.one_of_them in
          record { at_least_each = each; place = l.place; among_them = omega arith; one_of_them = omega arith }

-- the definition gives it
pub largest-is : (n : ℕ) (f : ℕ → ℕ) → Largest (suc n) f (largest (suc n) f)
unfolding largest
largest-is zero f = record { at_least_each = λ i h. let e : i ≡ 0 = omega arith in rw e (omega arith); place = 0; among_them = omega arith; one_of_them = omega arith }
largest-is (suc n) f = one_more (suc n) f (largest (suc n) f) (largest-is n f)

-- and no other number is
pub largest_determined : {n : ℕ} {f : ℕ → ℕ} {a b : ℕ} → Largest n f a → Largest n f b → a ≡ b
largest_determined {n} {f} {a} {b} p q =
    let over = p.at_least_each q.place q.among_them in
    let under = q.at_least_each p.place p.among_them in
    let left = p.one_of_them in
    let right = q.one_of_them in
    omega arith
