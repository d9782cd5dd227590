-- The loop's invariant: the first p places have their value added, the others are as they were. Assumes nothing.
use Prim.Native.Nat.{◌≤◌}
use Rattle.laws.specs.Lists.{at}
use Rattle.laws.proofs.Lists.{Filling}
use Rattle.laws.proofs.Sums.{plus}
use Rattle.imdct.proofs.add_window.Given as goal

abbrev pub invariant-loop-p : goal.invariant-loop-p
invariant-loop-p l = (l.p ≤ 12) × Filling l.initial.out (plus l.initial.out (at l.values)) l.p l.out
