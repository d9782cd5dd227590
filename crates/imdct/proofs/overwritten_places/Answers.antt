use mathlib.Core.Path.{◌∙◌}
use native.Mathlib.Omega.{arith}
use Rattle.imdct.proofs.Landing.{lands_none, lands_more, lands_all}
use Rattle.imdct.proofs.overwritten_places.Goals as goal

pub loop-i-init : goal.loop-i-init
loop-i-init c = (omega arith, lands_none c.args.window.now c.args.s.now)

pub loop-i-preserved : goal.loop-i-preserved
loop-i-preserved c =
    let l = c.loop-i in
    let a = c.args in
    (omega arith, lands_more a.window.now a.s.now l.i (omega arith) l.invariant.1 (c.copy_from_slice.ensures.after ∙ c.first_half.ensures))

pub returns : goal.returns
returns c =
    let l = c.loop-i in
    let a = c.args in
    lands_all a.window.now a.s.now l.i (omega arith) l.invariant.1 (c.copy_from_slice-2.ensures.after ∙ c.second_half.ensures)
