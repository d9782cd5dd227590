-- The cube root of n to the fourth has a nearest f32 at each n that a spectrum can hold, 0 to 8206: no tie, and nothing that only looks nearest. Assumes nothing.
use mathlib.Core.Bool.{Bool, cond}
use Prim.Native.Nat.{ℕ, zero, suc, ◌+◌, ◌*◌, ◌/◌, ◌^◌, ◌<◌}
use lib.Dec.{T, ltb}
use Rattle.laws.specs.Checks.{all_to}
use Rattle.laws.proofs.Checks.{all_pass}
use Rattle.nearest.specs.Nearest.{units, nearest_root, NearestF32}
use Rattle.nearest.proofs.Test.{near}
use Rattle.nearest.proofs.Nearest.{nearest}

-- ---- a guess at the pattern. Nothing is proved of it: each guess has to pass the test, and is quicker to compute than a search by bits.

-- Newton's steps to the cube root of a, from a number above it
newton : ℕ → ℕ → ℕ → ℕ
newton zero a x = x
newton (suc i) a x = newton i a ((2 * x + a / (x * x)) / 3)

-- the pattern of x * 2 ^ (e - 40), rounded, where x is at least 2 ^ 40: halved, at most i times, until it is below 2 ^ 41
rounded : ℕ → ℕ → ℕ → ℕ
rounded zero e x = 0
rounded (suc i) e x = cond (ltb x (2 ^ 41)) ((e + 126) * 8388608 + (x / 65536 + 1) / 2) (rounded i (e + 1) (x / 2))

-- n to the 4/3 lies between n and 21 times n
guess : ℕ → ℕ
guess zero = 0
guess (suc m) = rounded 18 0 (newton 11 (suc m ^ 4 * 2 ^ 120) (21 * suc m * 2 ^ 40))

-- one test, which antt computes over all of them: cubes of sums of two patterns' sizes compared with fourth powers
test : ℕ → Bool
test n = near 3 (n ^ 4) 1 (guess n)

passes : T (all_to 8207 test)
unfolding test guess newton rounded units all_to
passes = tt

pub four_thirds : (n : ℕ) → n < 8207 → NearestF32 3 (n ^ 4) 1 (nearest_root 3 (n ^ 4) 1)
unfolding test
four_thirds n h = nearest 3 (n ^ 4) 1 (guess n) (all_pass 8207 test passes n h)
