-- The loop fills the slice from the front. Assumes nothing.
use Prim.Native.Nat.{◌+◌, ◌≤◌}
use Rattle.laws.specs.Lists.{at}
use Rattle.laws.proofs.Lists.{Filling}
use Rattle.hybrid.proofs.store.Given as goal

abbrev pub invariant-loop-i : goal.invariant-loop-i
invariant-loop-i l = (l.i ≤ 18) × Filling l.initial.out (λ k. at l.values (l.from + k)) l.i l.out
