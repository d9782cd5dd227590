-- How long the rows of matrixing are. Assumes nothing.
use mathlib.Core.Path.{◌≡◌}
use Prim.Native.Nat.{ℕ, ◌<◌}
use lib.ListN.{length}
use Rattle.laws.specs.Lists.{row}
use Rattle.laws.proofs.Table.{row-length}
use Rattle.synthesis_tables.specs.Matrixing.{matrixing_bits, matrixing}

pub matrixing-length : (j : ℕ) → j < 32 → length (row matrixing j) ≡ 64
unfolding matrixing matrixing_bits
matrixing-length j h = row-length matrixing 64 tt j h
