-- The source's numbers are those of `cos_n36`, by computation. Assumes nothing.
use mathlib.Core.Path.{refl}
use Rattle.tables.specs.Cosines.{cos_n36, cos_n36_bits}
use Rattle.tables.proofs.cos_n36_table.Goals as goal

pub returns : goal.returns
unfolding cos_n36 cos_n36_bits
returns c = refl
