-- The source's numbers are those of `matrixing`, by computation. Assumes nothing.
use mathlib.Core.Path.{refl}
use Rattle.synthesis_tables.specs.Matrixing.{matrixing, matrixing_bits}
use Rattle.synthesis_tables.proofs.matrixing_table.Goals as goal

pub returns : goal.returns
unfolding matrixing matrixing_bits
returns c = refl
