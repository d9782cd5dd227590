use native.Mathlib.Omega.{arith}
use Rattle.inversion.proofs.Negated.{run_end}
use Rattle.inversion.proofs.turn_subband.Goals as goal

pub returns : goal.returns
returns c =
    let l = c.loop-i in
    let a = c.args in
    run_end a.samples.now c.told-samples a.sb a.from l.i c.left_over.result (omega arith) (omega arith) (omega arith) (omega arith) c.left_over.ensures l.invariant.1 c.turned-2.ensures
