-- Reorder by ISO/IEC 11172-3: "in each short band the numbers come window by window (all of window 0, then 1, then 2), and leave line by line (windows 0, 1, 2 of the first line, then of the
-- second)". Assumes nothing.
use Rattle.std.specs.Prelude.{◌≡◌, List, ℕ, ◌+◌, ◌*◌, ◌<◌, Float}
use Rattle.laws.specs.Lists.{at}
use Rattle.bands.specs.Bands.{width, short_begin}

-- xs come in and ys leave; band k is of the bands that start so. "position win · width + j goes to 3j + win"
pub record StandardOrder (starts : List ℕ) (k : ℕ) (xs ys : List Float) : Type 0 where
  pub goes : (win j : ℕ) → win < 3 → j < width starts k → at ys (short_begin starts k + (3 * j + win)) ≡ at xs (short_begin starts k + (win * width starts k + j))

-- a band that is not reordered
pub record AsTheyCame (starts : List ℕ) (k : ℕ) (xs ys : List Float) : Type 0 where
  pub stays : (o : ℕ) → o < 3 * width starts k → at ys (short_begin starts k + o) ≡ at xs (short_begin starts k + o)

-- the places below n leave as they came
pub record Unmoved (n : ℕ) (xs ys : List Float) : Type 0 where
  pub stays : (i : ℕ) → i < n → at ys i ≡ at xs i
