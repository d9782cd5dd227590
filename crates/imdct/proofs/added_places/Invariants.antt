-- The loop's invariant: the windows below i are added. Assumes nothing.
use Prim.Native.Nat.{◌≤◌}
use Rattle.imdct.proofs.Adding.{Adds}
use Rattle.imdct.proofs.added_places.Given as goal

abbrev pub invariant-loop-i : goal.invariant-loop-i
invariant-loop-i l = (l.i ≤ 3) × Adds l.window l.s l.i l.places
