-- How many of the first places a test does not hold at. Assumes nothing.
use Rattle.std.specs.Prelude.{Bool, cond, ℕ, zero, suc, ◌+◌}

unfoldable pub misses : (ℕ → Bool) → ℕ → ℕ
misses test zero = 0
misses test (suc n) = misses test n + cond (test n) 0 1
