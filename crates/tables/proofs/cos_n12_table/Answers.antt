-- The source's numbers are those of `cos_n12`, by computation. Assumes nothing.
use mathlib.Core.Path.{refl}
use Rattle.tables.specs.Cosines.{cos_n12, cos_n12_bits}
use Rattle.tables.proofs.cos_n12_table.Goals as goal

pub returns : goal.returns
unfolding cos_n12 cos_n12_bits
returns c = refl
