-- Laws of sums from +0.0, over any length and any term. Assumes nothing.
use mathlib.Core.Path.{◌≡◌, refl}
use Prim.Native.Nat.{ℕ, zero, suc, ◌+◌, ◌<◌}
use native.Mathlib.Numerals.{add-one}
use native.Mathlib.Omega.{arith}
use lib.Ieee.{Float, binary32, add}
use Rattle.laws.specs.Sum.{zero_f, sum_to}

pub sum-none : (f : ℕ → Float) → sum_to 0 f ≡ zero_f
unfolding sum_to
sum-none f = refl

pub sum_more : (n : ℕ) (f : ℕ → Float) → sum_to (n + 1) f ≡ add binary32 (sum_to n f) (f n)
unfolding sum_to
sum_more n f = rw add-one

-- a loop's turn: one more term
pub sum_step : (n : ℕ) (f : ℕ → Float) {s : Float} → s ≡ sum_to n f → add binary32 s (f n) ≡ sum_to (n + 1) f
sum_step n f e = rw (sum_more, e)

-- equal terms make equal sums
pub sum_same : (n : ℕ) (f g : ℕ → Float) → ((k : ℕ) → k < n → f k ≡ g k) → sum_to n f ≡ sum_to n g
unfolding sum_to
sum_same zero f g h = refl
sum_same (suc n) f g h = rw (sum_same n f g (λ k q. h k (omega arith)), h n (omega arith))
