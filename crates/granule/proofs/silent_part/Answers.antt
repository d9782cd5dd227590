use mathlib.Core.Path.{refl}
use Rattle.granule.specs.Granule.{silent_part}
use Rattle.granule.proofs.silent_part.Goals as goal

pub returns : goal.returns
unfolding silent_part
returns c = refl
