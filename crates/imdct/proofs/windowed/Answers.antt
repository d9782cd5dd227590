use mathlib.Core.Path.{refl}
use lib.ListN.{length-replicate}
use native.Mathlib.Omega.{arith}
use Rattle.laws.proofs.Lists.{fills-none, fills_more, fills-all}
use Rattle.imdct.proofs.windowed.Goals as goal

pub loop-p-init : goal.loop-p-init
loop-p-init g c = (omega arith, fills-none _ _ _ (length-replicate _ _))

pub loop-p-preserved : goal.loop-p-preserved
loop-p-preserved g c = let l = c.loop-p in (omega arith, fills_more l.invariant.1 (omega arith) refl)

pub returns : goal.returns
returns g c = fills-all c.loop-p.invariant.1 (omega arith) (omega arith)
