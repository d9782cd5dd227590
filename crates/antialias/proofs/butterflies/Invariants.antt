-- The loop's invariant: the pairs up to i about the boundary are changed, and no other place. Assumes nothing.
use Prim.Native.Nat.{◌≤◌}
use lib.Ieee.{nan}
use Rattle.antialias.specs.Antialias.{Near}
use Rattle.laws.proofs.Changed.{Changed}
use Rattle.antialias.proofs.Boundaries.{pair_at}
use Rattle.antialias.proofs.butterflies.Given as goal

abbrev pub invariant-loop-i : goal.invariant-loop-i
invariant-loop-i l = (l.i ≤ 8) × Changed nan l.initial.samples (Near l.sb l.i) (pair_at l.initial.samples l.sb) l.samples
