-- The source's numbers are those of `half_root`, by computation. Assumes nothing.
use mathlib.Core.Path.{refl}
use Rattle.tables.specs.Stereo.{half_root}
use Rattle.tables.proofs.half_root.Goals as goal

pub returns : goal.returns
unfolding half_root
returns c = refl
