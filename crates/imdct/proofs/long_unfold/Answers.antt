use Prim.Native.Nat.{◌*◌}
use native.Mathlib.Omega.{arith}
use Rattle.imdct.proofs.Unfolding.{unfolds_none, unfolds_more, unfolds_all}
use Rattle.imdct.proofs.long_unfold.Goals as goal

pub loop-p-init : goal.loop-p-init
loop-p-init c = (omega arith, unfolds_none c.args.sums.now)

pub loop-p-preserved : goal.loop-p-preserved
loop-p-preserved c = (omega arith, unfolds_more c.args.sums.now c.loop-p.p (omega arith) c.loop-p.invariant.1)

pub returns : goal.returns
returns c = unfolds_all c.args.sums.now (4 * c.loop-p.p) (omega arith) c.loop-p.invariant.1
