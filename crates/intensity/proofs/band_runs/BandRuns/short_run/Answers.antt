-- The window lies within the channel; where its numbers stand goes by the edition. Assumes nothing.
use mathlib.Core.Path.{◌≡◌, refl}
use mathlib.Core.Bool.{true}
use Prim.Native.Nat.{ℕ, ◌+◌, ◌/◌, ◌<◌, ◌≤◌}
use native.Mathlib.Omega.{arith}
use Rattle.bands.specs.Bands.{Bands, start, width, window_begin}
use Rattle.intensity.specs.declared.band_runs.BandRuns.{BandRuns}
use Rattle.bands.proofs.Cover.{at_most}
use Rattle.bands.proofs.Windows.{run_edges}
use Rattle.intensity.proofs.Runs.{thirds_inside}
use Rattle.intensity.proofs.band_runs.BandRuns.short_run.Goals as goal
use Rattle.intensity.proofs.band_runs.BandRuns.short_run.Goals.{in-First, in-Second}

-- its ends
edges : (r : BandRuns) (g : ℕ) → r.short ≡ true → g < 39
    → (start r.starts.now (g / 3) < start r.starts.now (g / 3 + 1)) × (window_begin r.starts.now g + width r.starts.now (g / 3) ≤ 576)
edges r g e h = let bands : Bands 13 192 r.starts.now = rw e at r.laid.bands in run_edges r.starts.now bands g h

pub overflow_mul-result : goal.overflow_mul-result
overflow_mul-result c = omega (arith, edges c.args.self.now c.args.g c.requires.0 c.requires.1)

pub overflow_add-result : goal.overflow_add-result
overflow_add-result c = omega (arith, edges c.args.self.now c.args.g c.requires.0 c.requires.1)

pub invariant_of-result : goal.invariant_of-result
invariant_of-result c =
    let s = c.args.self.now in
    let bands : Bands 13 192 s.starts.now = rw c.requires.0 at s.laid.bands in
    let thirds = thirds_inside s.starts.now bands c.args.g c.requires.1 in
    let most = at_most 13 192 s.starts.now bands (c.args.g / 3 + 1) (omega arith) in
    elim c.match-self.branch [
      | in-First w ↦ rw w.result-is (record { one_or_three = refl; inside = λ j h. omega (arith, edges s c.args.g c.requires.0 c.requires.1) })
      | in-Second w ↦ rw w.result-is (record { one_or_three = refl; inside = λ j h. omega (arith, thirds j h, most) })
    ]
