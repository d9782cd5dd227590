-- Assumes nothing.
use native.Mathlib.Omega.{arith}
use Rattle.laws.proofs.Parts.{part_length}
use Rattle.power_table.proofs.First.{first}
use Rattle.power_table.proofs.low_powers.Goals as goal

pub slice_bounds-copy_from_slice-end-2 : goal.slice_bounds-copy_from_slice-end-2
slice_bounds-copy_from_slice-end-2 c = omega (arith, part_length 0 4104 c.powers-all.result (omega (arith, c.powers-all.ensures.long)))

pub copy_from_slice-requires : goal.copy_from_slice-requires
copy_from_slice-requires c = omega (arith, part_length 0 4104 c.powers-all.result (omega (arith, c.powers-all.ensures.long)))

pub returns : goal.returns
returns c = first _ c.copy_from_slice.ensures.after c.powers-all.ensures
