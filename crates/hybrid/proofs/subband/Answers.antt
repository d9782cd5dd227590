-- The part is copied. Assumes nothing.
use mathlib.Core.Path.{◌∙◌}
use Prim.Native.Nat.{◌*◌}
use native.Mathlib.Omega.{arith}
use lib.Ieee.{nan}
use Rattle.laws.proofs.Parts.{part-tab}
use Rattle.hybrid.specs.Hybrid.{subband_of}
use Rattle.hybrid.proofs.subband.Goals as goal

pub returns : goal.returns
unfolding subband_of
returns c = c.copy_from_slice.ensures.after ∙ part-tab (18 * c.args.sb) 18 c.args.samples.now nan (omega arith)
