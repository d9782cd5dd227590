use native.Mathlib.Omega.{arith}
use Rattle.antialias.proofs.Boundaries.{pair-done}
use Rattle.antialias.proofs.butterflies.Goals as goal

pub loop-i-preserved : goal.loop-i-preserved
loop-i-preserved c =
    let l = c.loop-i in
    (omega arith, pair-done c.args.samples.now c.args.sb l.i c.requires.2 (omega arith) c.requires.0 c.requires.1 c.told-samples c.requires.3 l.invariant.1)
