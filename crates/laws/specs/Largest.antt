-- The largest of numbers by a rule. Assumes nothing.
use Rattle.std.specs.Prelude.{◌≡◌, ℕ, zero, suc, ◌<◌, ◌≤◌, max}

-- of f 0, f 1, .., f (n - 1); of none it is 0
unfoldable pub largest : ℕ → (ℕ → ℕ) → ℕ
largest zero f = 0
largest (suc n) f = max (largest n f) (f n)

-- what "the largest" says of m: it is at least each of them, and it is one of them
pub record Largest (n : ℕ) (f : ℕ → ℕ) (m : ℕ) : Type 0 where
  pub at_least_each : (i : ℕ) → i < n → f i ≤ m
  pub place : ℕ
  pub among_them : place < n
  pub one_of_them : f place ≡ m
