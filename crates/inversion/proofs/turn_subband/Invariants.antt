-- The loop's invariant: the first i of the sixteen places are done. Assumes nothing.
use Prim.Native.Nat.{◌≤◌}
use Rattle.inversion.proofs.Negated.{Done, Run}
use Rattle.inversion.proofs.turn_subband.Given as goal

abbrev pub invariant-loop-i : goal.invariant-loop-i
invariant-loop-i l = (l.i ≤ 16) × Done l.initial.samples (Run l.sb l.from l.i) l.samples
