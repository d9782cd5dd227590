-- The loop's invariant: the first p sums have their product, the others are as they were. Assumes nothing.
use Prim.Native.Nat.{◌≤◌}
use lib.Ieee.{binary32, mul}
use lib.ListN.{length}
use Rattle.laws.specs.Lists.{at}
use Rattle.laws.proofs.Lists.{Filling}
use Rattle.laws.proofs.Sums.{plus}
use Rattle.laws.proofs.add_scaled.Given as goal

abbrev pub invariant-loop-p : goal.invariant-loop-p
invariant-loop-p l = (l.p ≤ length l.initial.sums) × Filling l.initial.sums (plus l.initial.sums (λ k. mul binary32 l.x (at l.row k))) l.p l.sums
