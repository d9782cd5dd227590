-- A signed number of quarters, split by a division that rounds down: q = 4 k + r, with r from 0 to 3, below zero too. From document 01, "Powers". Assumes nothing.
use Rattle.std.specs.Prelude.{ℕ, ◌-◌, ◌/◌, ◌%◌, ℤ, pos, negsuc, ◌≤ℤ◌}

-- k
abbrev pub quarter : ℤ → ℤ
quarter (pos n) = pos (n / 4)
quarter (negsuc n) = negsuc (n / 4)

-- r
abbrev pub rest : ℤ → ℕ
rest (pos n) = n % 4
rest (negsuc n) = 3 - n % 4

-- "q lies in -326 to 45"
pub record InGain (q : ℤ) : Type 0 where
  pub least : negsuc 325 ≤ℤ q
  pub most : q ≤ℤ pos 45
