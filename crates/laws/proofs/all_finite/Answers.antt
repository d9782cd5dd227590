use mathlib.Core.Path.{sym, ◌∙◌}
use native.Mathlib.Omega.{arith}
use mathlib.Core.Logic.{inl, inr}
use Rattle.laws.proofs.Flag.{flag-none, flag_turn, flag-end}
use Rattle.laws.proofs.all_finite.Goals as goal
use Rattle.laws.proofs.all_finite.Goals.{then-not-is_finite, else-not-is_finite}
use mathlib.Core.Path.{◌≡◌}
use mathlib.Core.Bool.{true, false}
use Rattle.laws.specs.Finite.{finite}
use Rattle.laws.specs.Lists.{at}

pub loop-x-init : goal.loop-x-init
loop-x-init c = (omega arith, flag-none _)

pub loop-x-preserved : goal.loop-x-preserved
loop-x-preserved c =
    let l = c.loop-x in
    let seen = sym c.is_finite.ensures in
    let turn = flag_turn (λ k. finite (at c.args.xs.now k)) {A = c.is_finite.result ≡ false} {B = c.is_finite.result ≡ true} l.x-index l.invariant.1 (λ h. seen ∙ h) (λ h. seen ∙ h) in
    elim c.if-not-is_finite.branch [
      | then-not-is_finite w ↦ (omega arith, turn (inl (w.if-not-is_finite.true, w.bad-is)))
      | else-not-is_finite w ↦ (omega arith, turn (inr (w.if-not-is_finite.false, w.bad-is)))
    ]

pub returns : goal.returns
returns c = let l = c.loop-x in flag-end _ _ l.x-index l.invariant.1 (omega arith) (omega arith)
