-- The loop's invariant: each run passed fits. Assumes nothing.
use mathlib.Core.Path.{◌≡◌}
use mathlib.Core.Bool.{true, ◌||◌}
use Prim.Native.Nat.{ℕ, ◌<◌, ◌≤◌}
use lib.Dec.{ltb}
use Rattle.intensity.specs.BandRuns.{runs_of}
use Rattle.intensity.proofs.Fit.{fits}
use Rattle.intensity.proofs.band_runs.BandRuns.fit.Given as goal

abbrev pub invariant-loop-g : goal.invariant-loop-g
invariant-loop-g l = (l.from ≤ l.g) × ((k : ℕ) → k < l.g → (ltb k l.from || fits (runs_of l.self) k) ≡ true)
