-- The loop's invariant: the first j of the run's places are scaled, and the rest of both channels is as it was. Assumes nothing.
use Prim.Native.Nat.{◌≤◌}
use lib.Ieee.{nan, binary32, mul}
use Rattle.laws.specs.Lists.{at}
use Rattle.laws.proofs.Changed.{Changed}
use Rattle.intensity.specs.Intensity.{Among}
use Rattle.intensity.proofs.band_runs.scale.Given as goal

abbrev pub invariant-loop-j : goal.invariant-loop-j
invariant-loop-j g l =
    (l.j ≤ l.run.count) × Changed nan l.initial.left (Among l.run.start l.run.step l.j) (λ k. mul binary32 l.by.left (at l.from k)) l.left
    × Changed nan l.initial.right (Among l.run.start l.run.step l.j) (λ k. mul binary32 l.by.right (at l.from k)) l.right
