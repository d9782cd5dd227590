-- The source's numbers are those of `cs`, by computation. Assumes nothing.
use mathlib.Core.Path.{refl}
use Rattle.tables.specs.Antialias.{cs, cs_bits}
use Rattle.tables.proofs.cs_table.Goals as goal

pub returns : goal.returns
unfolding cs cs_bits
returns c = refl
