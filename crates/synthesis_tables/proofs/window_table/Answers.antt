-- The source's numbers are those of `window`, by computation. Assumes nothing.
use mathlib.Core.Path.{refl}
use Rattle.synthesis_tables.specs.Window.{window, window_bits}
use Rattle.synthesis_tables.proofs.window_table.Goals as goal

pub returns : goal.returns
unfolding window window_bits
returns c = refl
