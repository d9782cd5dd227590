use mathlib.Core.Path.{◌≡◌, sym, ap, ◌∙◌}
use mathlib.Core.Bool.{true, false, not}
use mathlib.Core.Logic.{◌⊎◌, inl, inr}
use native.Mathlib.Omega.{arith}
use borrow.Author.Tests.{not-true, not-false}
use lib.Ieee.{Float, ne, is_nan}
use lib.ListN.{take}
use lib.Seq.{length-take-le}
use Rattle.laws.specs.Lists.{at}
use Rattle.laws.proofs.Bits.{equal_to_itself}
use Rattle.laws.proofs.Flag.{flag-none, flag_turn, flag-end}
use Rattle.synthesis.proofs.Levels.{front-at}
use Rattle.synthesis.proofs.no_nan.Goals as goal
use Rattle.synthesis.proofs.no_nan.Goals.{then-x, else-x}

pub loop-x-init : goal.loop-x-init
loop-x-init c = (omega arith, flag-none _)

pub loop-x-preserved : goal.loop-x-preserved
unfolding ne
loop-x-preserved c =
    let l = c.loop-x in
    let xs = c.args.outputs.now in
    let long = length-take-le 576 xs c.requires in
    let x = at (take 576 xs) l.x-index in
    let same = ap (λ (y : Float). not (is_nan y)) (sym (front-at xs l.x-index (omega (arith, long)))) ∙ sym (equal_to_itself x) in
    let branch : ((ne x x ≡ true) × (c.if-x.bad ≡ 1)) ⊎ ((ne x x ≡ false) × (c.if-x.bad ≡ l.bad)) =
    elim c.if-x.branch [ then-x w ↦ inl (w.if-x.true, w.bad-is) | else-x w ↦ inr (w.if-x.false, w.bad-is) ] in
    (omega (arith, long), flag_turn _ l.x-index l.invariant.1 (λ e. same ∙ not-true _ e) (λ e. same ∙ not-false _ e) branch)

pub returns : goal.returns
returns c =
    let l = c.loop-x in
    let long = length-take-le 576 c.args.outputs.now c.requires in
    flag-end _ 576 l.x-index l.invariant.1 (omega arith) (omega (arith, long))
