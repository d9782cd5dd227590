use native.Mathlib.Omega.{arith}
use borrow.Author.Tests.{le-leb, lt-leb}
use mathlib.Core.Logic.{inl, inr}
use Rattle.laws.proofs.Flag.{flag-none, flag_turn, flag-end}
use Rattle.laws.proofs.all_at_most.Goals as goal
use Rattle.laws.proofs.all_at_most.Goals.{then-most-x, else-most-x}
use Prim.Native.Nat.{◌<◌, ◌≤◌}
use lib.Dec.{leb}
use lib.ListN.{get_or}

pub loop-x-init : goal.loop-x-init
loop-x-init c = (omega arith, flag-none _)

pub loop-x-preserved : goal.loop-x-preserved
loop-x-preserved c =
    let l = c.loop-x in
    let turn = flag_turn (λ k. leb (get_or c.args.xs.now k 0) c.args.most) {A = c.args.most < get_or c.args.xs.now l.x-index 0} {B = get_or c.args.xs.now l.x-index 0 ≤ c.args.most} l.x-index l.invariant.1 (λ h. lt-leb _ _ h) (λ h. le-leb _ _ h) in
    elim c.if-most-x.branch [
      | then-most-x w ↦ (omega arith, turn (inl (w.if-most-x.true, w.bad-is)))
      | else-most-x w ↦ (omega arith, turn (inr (w.if-most-x.false, w.bad-is)))
    ]

pub returns : goal.returns
returns c = let l = c.loop-x in flag-end _ _ l.x-index l.invariant.1 (omega arith) (omega arith)
