-- The loop's invariant: each of the 32 sums has its first j products; the subbands after the used ones add none. Assumes nothing.
use Prim.Native.Nat.{◌+◌, ◌*◌, ◌≤◌}
use lib.Ieee.{binary32, mul}
use Rattle.laws.specs.Lists.{at, row}
use Rattle.laws.proofs.Sums.{Sums}
use Rattle.matrixing.specs.Halves.{half_place}
use Rattle.matrixing.proofs.half_sums.Given as goal

abbrev pub invariant-loop-j : goal.invariant-loop-j
invariant-loop-j l = (l.j ≤ l.used) × (l.used ≤ 32) × Sums 32 (λ i k. mul binary32 (at l.samples (18 * k + l.n)) (at (row l.matrixing k) (half_place i))) l.j l.sums
