-- The symmetries of synthesis's tables. Assumes nothing.
use Rattle.std.specs.Prelude.{◌≡◌, ◌↔◌, List, ℕ, ◌+◌, ◌-◌, ◌%◌, ◌<◌, Float}
use Rattle.std.specs.Float.Ieee.{neg}
use Rattle.laws.specs.Lists.{at}
use Rattle.laws.specs.Patterns.{place, size, sign}
use Rattle.laws.specs.Sum.{zero_f}
use Rattle.synthesis_tables.specs.Window.{window_bits, window}

-- the window: "entries i and 512-i (i from 1 to 255) have equal size, with equal sign exactly where 64 divides i"
pub record WindowPair (i : ℕ) : Type 0 where
  pub equal : i % 64 ≡ 0 → at window (512 - i) ≡ at window i
  pub opposed : (i % 64 ≡ 0 → ⊥) → at window (512 - i) ≡ neg (at window i)
  pub sizes : size (place window_bits (512 - i)) ≡ size (place window_bits i)
  pub signs : (sign (place window_bits (512 - i)) ≡ sign (place window_bits i)) ↔ (i % 64 ≡ 0)

-- matrixing: each row is odd about place 16, and even about place 48
pub record MatrixingRow (r : List Float) : Type 0 where
  pub opposed : (i : ℕ) → i < 16 → at r (32 - i) ≡ neg (at r i)
  pub mirrored : (i : ℕ) → i < 16 → at r (48 + i) ≡ at r (48 - i)
  pub middle : at r 16 ≡ zero_f
