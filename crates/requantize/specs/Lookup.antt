-- A table in which the powers of a channel's numbers stand with their signs, as patterns: that of x at place x + zero. Assumes nothing.
use Rattle.std.specs.Prelude.{◌≡◌, not, List, ℕ, ◌<◌, ◌≤◌, T, ℤ, pos, nat_abs, ◌+ℤ◌, get_or, length}
use Rattle.std.specs.Float.{binary32}
use Rattle.std.specs.Float.Ieee.{of_bits, nan_bits}
use Rattle.power_table.specs.Power.{power}
use Rattle.powers.specs.Powers.{signed}
use Rattle.requantize.specs.Requantize.{number_at}

-- the table has a place for x
pub record Held (t : List ℕ) (zero x : ℤ) : Type 0 where
  pub place : ℕ
  pub stands : x +ℤ zero ≡ pos place
  pub inside : place < length t
  pub number : T (not (nan_bits binary32 (get_or t place 0)))
  pub value : of_bits binary32 (get_or t place 0) ≡ signed x (power (nat_abs x))

-- and for each of the numbers. It is no longer than the whole table
pub record Holds (t : List ℕ) (zero : ℤ) (xs : List ℤ) : Type 0 where
  pub short : length t ≤ 8207
  pub each : (i : ℕ) → i < length xs → Held t zero (number_at xs i)
