-- The root of one half, as stereo multiplies by it, is the f32 nearest to it. Assumes nothing.
use Rattle.nearest.specs.Nearest.{units}
use Rattle.nearest.proofs.Test.{root-tests}
use Rattle.nearest.proofs.Nearest.{nearest_between}
use Rattle.tables.specs.Stereo.{half_root}
use Rattle.tables.specs.Ratios.{NearestHalfRoot}

pub half-root : NearestHalfRoot
unfolding half_root units
half-root = nearest_between (root-tests 2 1 2) _ tt
