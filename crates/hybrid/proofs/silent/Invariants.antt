-- The loop fills the slice from the front. Assumes nothing.
use Prim.Native.Nat.{◌≤◌}
use lib.Ieee.{add, binary32}
use lib.ListN.{length}
use Rattle.laws.specs.Lists.{at}
use Rattle.laws.specs.Sum.{zero_f}
use Rattle.laws.proofs.Lists.{Filling}
use Rattle.hybrid.proofs.silent.Given as goal

abbrev pub invariant-loop-i : goal.invariant-loop-i
invariant-loop-i l = (l.i ≤ length l.initial.samples) × Filling l.initial.samples (λ k. add binary32 zero_f (at l.overlap k)) l.i l.samples
