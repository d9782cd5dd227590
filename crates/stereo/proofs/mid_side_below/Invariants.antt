-- The loop's invariant: mid-side is done below i, and the rest of both channels is as it was. Assumes nothing.
use Prim.Native.Nat.{◌≤◌}
use Rattle.laws.proofs.Lists.{Filling}
use Rattle.stereo.specs.Stereo.{mid_side_left, mid_side_right}
use Rattle.stereo.proofs.mid_side_below.Given as goal

abbrev pub invariant-loop-i : goal.invariant-loop-i
invariant-loop-i l = (l.i ≤ l.n) × Filling l.initial.left (mid_side_left l.n l.initial.left l.initial.right) l.i l.left × Filling l.initial.right (mid_side_right l.n l.initial.left l.initial.right) l.i l.right
