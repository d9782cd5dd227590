-- The loop fills the array from the front. Assumes nothing.
use Prim.Native.Nat.{◌+◌, ◌*◌, ◌≤◌}
use lib.Ieee.{add, binary32}
use Rattle.laws.specs.Lists.{at}
use Rattle.laws.proofs.Lists.{Fills}
use Rattle.hybrid.proofs.overlapped.Given as goal

abbrev pub invariant-loop-i : goal.invariant-loop-i
invariant-loop-i l = (l.i ≤ 18) × Fills 18 (λ k. add binary32 (at l.places k) (at l.overlap (18 * l.sb + k))) l.i l.sums
