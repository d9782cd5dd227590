-- The symmetries of the transform's tables. Assumes nothing.
use Rattle.std.specs.Prelude.{◌≡◌, List, ℕ, ◌-◌, ◌*◌, ◌≤◌, ◌<◌, Float}
use Rattle.std.specs.Float.Ieee.{neg}
use Rattle.laws.specs.Lists.{at, row}
use Rattle.tables.specs.Cosines.{imdct_win}

-- the cosines of a transform of 4q places: each row is odd in its first half, and even in its second
pub record CosineRow (q : ℕ) (r : List Float) : Type 0 where
  pub opposed : (p : ℕ) → p < q → at r (2 * q - 1 - p) ≡ neg (at r p)
  pub mirrored : (p : ℕ) → 2 * q ≤ p → p < 3 * q → at r (6 * q - 1 - p) ≡ at r p

-- the four windows: long and short read the same from both ends, and end is start read from its end
pub record WindowKinds : Type 0 where
  pub long : (p : ℕ) → p < 36 → at (row imdct_win 0) (35 - p) ≡ at (row imdct_win 0) p
  pub ends : (p : ℕ) → p < 36 → at (row imdct_win 3) (35 - p) ≡ at (row imdct_win 1) p
  pub short : (p : ℕ) → p < 12 → at (row imdct_win 2) (11 - p) ≡ at (row imdct_win 2) p
