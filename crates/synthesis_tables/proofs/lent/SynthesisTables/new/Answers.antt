-- The source's numbers are those of the definitions, by computation. Assumes nothing.
use mathlib.Core.Path.{refl}
use Rattle.synthesis_tables.specs.Matrixing.{matrixing, matrixing_bits}
use Rattle.synthesis_tables.specs.Window.{window, window_bits}
use Rattle.synthesis_tables.proofs.lent.SynthesisTables.new.Goals as goal

pub invariant_of-result : goal.invariant_of-result
unfolding matrixing matrixing_bits window window_bits
invariant_of-result c = record { cosines = refl; printed = refl }
