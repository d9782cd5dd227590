use mathlib.Core.Path.{◌∙◌}
use native.Mathlib.Omega.{arith}
use Rattle.laws.proofs.Parts.{part-tab}
use Rattle.little_endian.specs.Bytes.{bytes_from}
use Rattle.little_endian.proofs.bytes_from.Goals as goal

pub returns : goal.returns
unfolding bytes_from
returns c = c.copy_from_slice.ensures.after ∙ part-tab _ _ c.args.s.now 0 (omega arith)
