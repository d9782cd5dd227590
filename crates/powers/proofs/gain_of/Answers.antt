-- What the code computes of q is right at each q that it takes. Assumes nothing.
use mathlib.Core.Path.{◌∙◌, ap}
use native.Mathlib.Omega.{arith}
use mir.Syntax.{w32}
use mir.ValLaws.{to_z-of_z}
use Rattle.powers.specs.Quarters.{quarter, rest}
use Rattle.powers.proofs.Gains.{Right, right-at}
use Rattle.nearest.proofs.Test.{no_nan}
use Rattle.powers.proofs.gain_of.Goals as goal
use Rattle.powers.proofs.gain_of.Goals.{After-split-k}

-- a signed argument stands in what a callee ensures as the machine reads it back
at : (c : After-split-k) → Right c.args.q c.split-k.result.k c.split-k.result.r
at c =
    let back = to_z-of_z w32 c.args.q c.ranges.q in
    right-at _ c.requires _ _ (c.split-k.ensures.0 ∙ ap quarter back) (c.split-k.ensures.1 ∙ ap rest back)

pub float_from_bits-result : goal.float_from_bits-result
float_from_bits-result c = (at (goal.at.float_from_bits-result c).After-split-k).root_number

pub float_from_bits-result-2 : goal.float_from_bits-result-2
float_from_bits-result-2 c = no_nan _ (omega (arith, (at (goal.at.float_from_bits-result-2 c).After-split-k).small))

pub returns : goal.returns
returns c = (at (goal.at.returns c).After-split-k).is
