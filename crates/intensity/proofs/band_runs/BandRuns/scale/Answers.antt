use mathlib.Core.Path.{◌≡◌}
use native.Mathlib.Nat.{le_refl}
use native.Mathlib.Omega.{arith}
use Rattle.intensity.specs.BandRuns.{runs_of}
use Rattle.intensity.proofs.Fit.{fit-most}
use Rattle.intensity.proofs.Places.{scaled-none, scaled_run}
use Rattle.intensity.proofs.band_runs.BandRuns.scale.Goals as goal

pub loop-g-init : goal.loop-g-init
loop-g-init c =
    let r = runs_of c.args.self.now in
    (le_refl c.args.first, c.requires.0, scaled-none r c.args.first c.told-left, scaled-none r c.args.first c.told-right)

pub scale_by_position-requires : goal.scale_by_position-requires
scale_by_position-requires c =
    let r = runs_of c.args.self.now in
    let l = c.loop-g in
    rw c.run.ensures.by (fit-most r c.args.first c.args.to c.requires.2 l.g l.invariant.0 (omega arith))

pub loop-g-preserved : goal.loop-g-preserved
loop-g-preserved c =
    let r = runs_of c.args.self.now in
    let bands = c.args.self.now.laid.bands in
    let l = c.loop-g in (
      omega arith,
      omega arith,
      scaled_run r c.args.first bands l.g l.invariant.0 (omega arith) l.invariant.2 c.run.ensures (record { is = c.scale_by_position.ensures.left }),
      scaled_run r c.args.first bands l.g l.invariant.0 (omega arith) l.invariant.3 c.run.ensures (record { is = c.scale_by_position.ensures.right }),
    )

pub returns : goal.returns
returns c =
    let l = c.loop-g in
    let e : l.g ≡ c.args.to = omega arith in
    record { left = rw e at l.invariant.2.is; right = rw e at l.invariant.3.is }
