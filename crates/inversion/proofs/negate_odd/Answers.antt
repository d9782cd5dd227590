use mathlib.Core.Path.{◌≡◌, sym, ap, ◌∙◌}
use Prim.Native.Nat.{◌+◌, ◌*◌}
use native.Mathlib.Omega.{arith}
use lib.Ieee.{nan, neg}
use lib.ListN.{set}
use lib.Seq.{set-get_or}
use Rattle.laws.specs.Lists.{at}
use Rattle.inversion.proofs.SignBit.{nan_negated}
use Rattle.inversion.proofs.Negated.{odd_more, odd_end}
use Rattle.inversion.proofs.negate_odd.Goals as goal
use Rattle.inversion.proofs.negate_odd.Goals.{then-not-is_nan, else-not-is_nan}

pub loop-i-preserved : goal.loop-i-preserved
loop-i-preserved c =
    let l = c.loop-i in
    let n = 18 * c.args.sb + l.i in
    let was = at l.samples n in
    let is : c.if-not-is_nan.samples ≡ set l.samples n (neg was) =
    elim c.if-not-is_nan.branch [
      | then-not-is_nan w ↦ w.samples-is ∙ ap (set l.samples n) w.turned.ensures
      | else-not-is_nan w ↦ w.samples-is ∙ sym (set-get_or l.samples n nan) ∙ ap (set l.samples n) (sym (nan_negated was (sym c.is_nan.ensures.value ∙ w.if-not-is_nan.false)))
    ] in
    (omega arith, omega arith, odd_more c.args.samples.now c.told-samples c.args.sb l.i c.requires c.loop-i-test.true l.invariant.1 l.invariant.2 is)

pub returns : goal.returns
returns c = odd_end c.args.samples.now c.told-samples c.args.sb c.loop-i.i (omega arith) c.loop-i.invariant.2
