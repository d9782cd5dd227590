use lib.ListN.{length}
use mathlib.Core.Path.{◌≡◌, ap, ◌∙◌}
use mathlib.Core.Bool.{true, false}
use native.Mathlib.Omega.{arith}
use lib.Ieee.{nan}
use borrow.Author.Rules.{rules}
use mir.Syntax.{w16}
use mir.Val.{SFits}
use Rattle.laws.specs.Lists.{at}
use Rattle.laws.proofs.Lists.{filling-none, filling_more, filling-whole}
use Rattle.laws.proofs.Parts.{filling-rest}
use Rattle.powers.specs.Powers.{signed}
use Rattle.powers.proofs.Signs.{tested, sign_below, sign_above}
use Rattle.requantize.specs.Requantize.{number_at}
use Rattle.requantize.proofs.runs.signs.Goals as goal
use Rattle.requantize.proofs.runs.signs.Goals.{Joined-numbers-i-lt0, then-numbers-i-lt0, else-numbers-i-lt0}

-- what either arm leaves: the float that stood there, with the number's sign
put : (c : Joined-numbers-i-lt0) → let l = c.loop-i in c.if-numbers-i-lt0.out ≡ signed (number_at c.args.numbers.now l.i) (at l.out l.i)
put c =
    let l = c.loop-i in
    let x = number_at c.args.numbers.now l.i in
    let h : SFits w16 x = search rules in
    elim c.if-numbers-i-lt0.branch [
      | then-numbers-i-lt0 w ↦ w.out-is ∙ sign_below x (at l.out l.i) (tested w16 x true h w.if-numbers-i-lt0.true)
      | else-numbers-i-lt0 w ↦ w.out-is ∙ sign_above x (at l.out l.i) (tested w16 x false h w.if-numbers-i-lt0.false)
    ]

pub loop-i-init : goal.loop-i-init
loop-i-init c = (omega arith, filling-none _ _)

pub loop-i-preserved : goal.loop-i-preserved
loop-i-preserved c =
    let l = c.loop-i in
    (omega arith, filling_more l.invariant.1 (omega arith) (put (goal.at.loop-i-preserved c).Joined-numbers-i-lt0 ∙ ap (signed (number_at c.args.numbers.now l.i)) (filling-rest nan l.invariant.1 l.i (omega arith))))

pub returns : goal.returns
returns c =
    let long : length c.args.out.now ≡ 576 = search rules in
    filling-whole c.loop-i.invariant.1 long (omega arith) (omega arith)
