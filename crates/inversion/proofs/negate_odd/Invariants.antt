-- The loop's invariant: the odd places of the subband below place i are negated, and no other. Assumes nothing.
use mathlib.Core.Path.{◌≡◌}
use Prim.Native.Nat.{◌%◌, ◌≤◌}
use Rattle.inversion.proofs.Negated.{Done, OddBelow}
use Rattle.inversion.proofs.negate_odd.Given as goal

abbrev pub invariant-loop-i : goal.invariant-loop-i
invariant-loop-i l = (l.i ≤ 19) × (l.i % 2 ≡ 1) × Done l.initial.samples (OddBelow l.sb l.i) l.samples
