-- The loops' invariants: the places before the loop's next one are in place. Assumes nothing.
use Prim.Native.Nat.{◌≤◌, ◌+◌}
use Rattle.laws.proofs.Lists.{Fills}
use Rattle.matrixing.specs.Halves.{unfolded}
use Rattle.matrixing.proofs.unfold.Given as goal

abbrev pub invariant-loop-i : goal.invariant-loop-i
invariant-loop-i l = (l.i ≤ 16) × Fills 64 (unfolded l.sums l.middle) (17 + l.i) l.block

abbrev pub invariant-loop-i-2 : goal.invariant-loop-i-2
invariant-loop-i-2 l = (l.i ≤ 15) × Fills 64 (unfolded l.sums l.middle) (33 + l.i) l.block
