-- The source's numbers are those of `ca`, by computation. Assumes nothing.
use mathlib.Core.Path.{refl}
use Rattle.tables.specs.Antialias.{ca, ca_bits}
use Rattle.tables.proofs.ca_table.Goals as goal

pub returns : goal.returns
unfolding ca ca_bits
returns c = refl
