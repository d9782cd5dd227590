-- A slot's samples and their matrixing. From document 01, "Synthesis". Assumes nothing.
-- xs are the 576 samples, s the 32 of a slot.
use Rattle.std.specs.Prelude.{List, ℕ, ◌+◌, ◌*◌, Float}
use Rattle.std.specs.Float.{binary32}
use Rattle.std.specs.Float.Ieee.{mul}
use Rattle.laws.specs.Lists.{at, row, tab}
use Rattle.laws.specs.Sum.{sum_to}
use Rattle.synthesis_tables.specs.Matrixing.{matrixing}

-- the 32 samples of slot n: one of each subband
unfoldable pub slot_samples : List Float → ℕ → List Float
slot_samples xs n = tab 32 (λ j. at xs (j * 18 + n))

-- "the front 64 are the matrixing of the slot's 32 samples (sum from +0.0, j ascending)"
abbrev pub matrixed_at : List Float → ℕ → Float
matrixed_at s i = sum_to 32 (λ j. mul binary32 (at s j) (at (row matrixing j) i))

unfoldable pub matrixed : List Float → List Float
matrixed s = tab 64 (matrixed_at s)
