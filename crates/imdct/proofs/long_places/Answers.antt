-- Assumes nothing.
use mathlib.Core.Path.{ap, ◌∙◌}
use lib.Ieee.{Float, mul, binary32}
use Rattle.laws.specs.Lists.{at}
use Rattle.laws.proofs.Lists.{tab-same}
use Rattle.imdct.proofs.Mirrored.{unfolded-sum}
use Rattle.imdct.proofs.long_places.Goals as goal

pub returns : goal.returns
returns c =
    let a = c.args in
    c.windowed.ensures
    ∙ tab-same 36 _ _ (λ p h. ap (λ (v : Float). mul binary32 v (at a.window.now p)) (unfolded-sum a.s.now c.long_sums-sums.ensures c.long_unfold.ensures p h))
