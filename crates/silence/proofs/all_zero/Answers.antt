use mathlib.Core.Path.{◌≡◌, sym, ◌∙◌}
use mathlib.Core.Bool.{true, false}
use mathlib.Core.Logic.{◌⊎◌, inl, inr}
use native.Mathlib.Omega.{arith}
use borrow.Author.Tests.{not-true, not-false}
use lib.Ieee.{ne, binary32, of_bits}
use Rattle.laws.specs.Lists.{at}
use Rattle.laws.proofs.Flag.{flag-none, flag_turn, flag-end}
use Rattle.silence.proofs.Zero.{zero_test}
use Rattle.silence.proofs.all_zero.Goals as goal
use Rattle.silence.proofs.all_zero.Goals.{then-x, else-x}

pub loop-x-init : goal.loop-x-init
loop-x-init c = (omega arith, flag-none _)

pub loop-x-preserved : goal.loop-x-preserved
unfolding ne
loop-x-preserved c =
    let l = c.loop-x in
    let x = at c.args.xs.now l.x-index in
    let seen = sym (zero_test x) in
    let branch : ((ne x (of_bits binary32 0) ≡ true) × (c.if-x.bad ≡ 1)) ⊎ ((ne x (of_bits binary32 0) ≡ false) × (c.if-x.bad ≡ l.bad)) =
    elim c.if-x.branch [ then-x w ↦ inl (w.if-x.true, w.bad-is) | else-x w ↦ inr (w.if-x.false, w.bad-is) ] in
    (omega arith, flag_turn _ l.x-index l.invariant.1 (λ e. seen ∙ not-true _ e) (λ e. seen ∙ not-false _ e) branch)

pub returns : goal.returns
returns c = let l = c.loop-x in flag-end _ _ l.x-index l.invariant.1 (omega arith) (omega arith)
