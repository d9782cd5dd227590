use native.Mathlib.Omega.{arith}
use Rattle.laws.proofs.Lists.{filling-none, filling-whole}
use Rattle.laws.proofs.Sums.{plus_more}
use Rattle.synthesis.proofs.add_windowed.Goals as goal

pub loop-k-init : goal.loop-k-init
loop-k-init c = (omega arith, filling-none _ _)

pub loop-k-preserved : goal.loop-k-preserved
loop-k-preserved c = let l = c.loop-k in (omega arith, plus_more _ l.invariant.1 (omega arith))

pub returns : goal.returns
returns c = filling-whole c.loop-k.invariant.1 c.told-sums (omega arith) (omega arith)
