-- A long band lies within the channel. Assumes nothing.
use mathlib.Core.Path.{refl}
use Prim.Native.Nat.{◌+◌}
use native.Mathlib.Omega.{arith}
use Rattle.bands.specs.Bands.{Bands}
use Rattle.bands.proofs.Cover.{at_most}
use Rattle.intensity.proofs.band_runs.BandRuns.long_run.Goals as goal

pub invariant_of-result : goal.invariant_of-result
invariant_of-result c =
    let s = c.args.self.now in
    let bands : Bands 22 576 s.starts.now = rw c.requires.0 at s.laid.bands in
    let up = bands.rises c.args.g c.requires.1 in
    let most = at_most 22 576 s.starts.now bands (c.args.g + 1) (omega arith) in
    record { one_or_three = refl; inside = λ j h. omega (arith, up, most) }
