-- The loop's invariant: the triples before j are laid out. Assumes nothing.
use Prim.Native.Nat.{◌+◌, ◌*◌, ◌/◌, ◌%◌, ◌≤◌}
use Rattle.laws.specs.Lists.{at}
use Rattle.laws.proofs.Lists.{Filling}
use Rattle.reorder.proofs.interleave.Given as goal

abbrev pub invariant-loop-j : goal.invariant-loop-j
invariant-loop-j l = (l.j ≤ l.width) × Filling l.initial.triples (λ o. at l.windows (o % 3 * l.width + o / 3)) (3 * l.j) l.triples
