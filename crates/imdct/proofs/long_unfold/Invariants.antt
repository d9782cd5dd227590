-- The loop's invariant: the places p, 9 + p, 18 + p and 27 + p are stored for each earlier p. Assumes nothing.
use Prim.Native.Nat.{◌*◌, ◌≤◌}
use Rattle.imdct.proofs.Unfolding.{Unfolds}
use Rattle.imdct.proofs.long_unfold.Given as goal

abbrev pub invariant-loop-p : goal.invariant-loop-p
invariant-loop-p l = (l.p ≤ 9) × Unfolds l.sums (4 * l.p) l.all
