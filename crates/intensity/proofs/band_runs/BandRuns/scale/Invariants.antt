-- The loop's invariant: the runs below g are scaled, and the rest of both channels is as it was. Assumes nothing.
use Prim.Native.Nat.{◌≤◌}
use Rattle.intensity.specs.Intensity.{left_ratio, right_ratio, position_in}
use Rattle.intensity.specs.BandRuns.{runs_of}
use Rattle.intensity.proofs.Places.{Scaled}
use Rattle.intensity.proofs.band_runs.BandRuns.scale.Given as goal

abbrev pub invariant-loop-g : goal.invariant-loop-g
invariant-loop-g l =
    let by = position_in (runs_of l.self) l.first l.g in
    (l.first ≤ l.g) × (l.g ≤ l.to) × Scaled left_ratio l.from 576 by l.initial.left l.left × Scaled right_ratio l.from 576 by l.initial.right l.right
