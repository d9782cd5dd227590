-- The loop's invariant: n counts the places passed that do not agree. Assumes nothing.
use mathlib.Core.Path.{◌≡◌}
use Prim.Native.Nat.{◌≤◌}
use lib.ListN.{length}
use Rattle.replay.specs.Differing.{differences}
use Rattle.replay.proofs.differing.Given as goal

abbrev pub invariant-loop-i : goal.invariant-loop-i
invariant-loop-i l = (l.i ≤ length l.xs) × (l.n ≤ l.i) × (l.n ≡ differences l.loose l.xs l.s l.from l.i)
