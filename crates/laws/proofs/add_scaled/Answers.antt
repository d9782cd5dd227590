use native.Mathlib.Omega.{arith}
use Rattle.laws.proofs.Lists.{filling-none, filling-all}
use Rattle.laws.proofs.Sums.{plus_more}
use Rattle.laws.proofs.add_scaled.Goals as goal

pub loop-p-init : goal.loop-p-init
loop-p-init c = (omega arith, filling-none _ _)

pub loop-p-preserved : goal.loop-p-preserved
loop-p-preserved c = let l = c.loop-p in (omega arith, plus_more _ l.invariant.1 (omega arith))

pub returns : goal.returns
returns c = filling-all c.loop-p.invariant.1 (omega arith) (omega arith)
