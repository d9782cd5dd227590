use mathlib.Core.Path.{refl}
use native.Mathlib.Omega.{arith}
use Rattle.laws.proofs.Lists.{fills-none, fills_more, fills-all}
use Rattle.hybrid.proofs.overlapped.Goals as goal

pub loop-i-init : goal.loop-i-init
loop-i-init c = (omega arith, fills-none _ _ _ refl)

pub loop-i-preserved : goal.loop-i-preserved
loop-i-preserved c = let l = c.loop-i in (omega arith, fills_more l.invariant.1 (omega arith) refl)

pub returns : goal.returns
returns c = fills-all c.loop-i.invariant.1 (omega arith) (omega arith)
