use mathlib.Core.Path.{◌≡◌, sym, ◌∙◌}
use native.Mathlib.Omega.{arith}
use Rattle.laws.proofs.Sum.{sum-none, sum_step}
use Rattle.matrixing.proofs.Slot.{middle_summed}
use Rattle.matrixing.proofs.middle_sum.Goals as goal

pub loop-j-init : goal.loop-j-init
loop-j-init c = (omega arith, sym (sum-none _))

pub loop-j-preserved : goal.loop-j-preserved
loop-j-preserved c = let l = c.loop-j in (omega arith, sum_step l.j _ l.invariant.1)

pub returns : goal.returns
returns c =
    let l = c.loop-j in
    let a = c.args in
    let e : l.j ≡ 32 = omega arith in
    (rw e at l.invariant.1) ∙ middle_summed a.samples.now a.n
