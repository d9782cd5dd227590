-- The loop's invariant: the first halves of the windows below i are stored. Assumes nothing.
use Prim.Native.Nat.{◌+◌, ◌*◌, ◌≤◌}
use Rattle.imdct.proofs.Landing.{Lands}
use Rattle.imdct.proofs.overwritten_places.Given as goal

abbrev pub invariant-loop-i : goal.invariant-loop-i
invariant-loop-i l = (l.i ≤ 3) × Lands l.window l.s (6 * l.i + 6) l.places
