use native.Mathlib.Omega.{arith}
use Rattle.laws.proofs.Lists.{filling-none, filling-whole}
use Rattle.laws.proofs.Sums.{plus_more}
use Rattle.imdct.proofs.add_window.Goals as goal

pub loop-p-init : goal.loop-p-init
loop-p-init c = (omega arith, filling-none _ _)

pub loop-p-preserved : goal.loop-p-preserved
loop-p-preserved c = let l = c.loop-p in (omega arith, plus_more _ l.invariant.1 (omega arith))

pub returns : goal.returns
returns c = filling-whole c.loop-p.invariant.1 (omega arith) (omega arith) (omega arith)
