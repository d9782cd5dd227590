-- The loop's invariant: the first j of the eight subbands are done. Assumes nothing.
use Prim.Native.Nat.{◌≤◌}
use Rattle.inversion.proofs.Negated.{Done, Subbands}
use Rattle.inversion.proofs.eight_subbands.Given as goal

abbrev pub invariant-loop-j : goal.invariant-loop-j
invariant-loop-j l = (l.j ≤ 8) × Done l.initial.samples (Subbands l.sb l.j) l.samples
