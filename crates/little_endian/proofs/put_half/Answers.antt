-- Assumes nothing.
use mathlib.Core.Path.{◌∙◌}
use Rattle.little_endian.proofs.Filled.{half_stored}
use Rattle.little_endian.proofs.put_half.Goals as goal

pub returns : goal.returns
returns c = half_stored c.args.half c.args.at c.args.to.now (c.copy_from_slice.ensures.after ∙ c.to_le_bytes.ensures) c.requires
