use mathlib.Core.Path.{◌≡◌, refl, sym, ap}
use mathlib.Core.Bool.{Bool, true, false, cond}
use Prim.Native.Nat.{ℕ, ◌+◌, ◌*◌, ◌<◌}
use native.Mathlib.Omega.{arith}
use lib.Dec.{eqb}
use Rattle.laws.proofs.Changed.{changed_none}
use Rattle.intensity.specs.declared.band_runs.Run.{Run}
use Rattle.intensity.proofs.Steps.{among_none, place_more, places_done}
use Rattle.intensity.proofs.band_runs.scale.Goals as goal

-- a run's step is 1 or 3
some : (step : ℕ) → step ≡ cond (eqb step 1) 1 3 → 0 < step
some step e = go (eqb step 1) e
  where
    go : (one : Bool) → step ≡ cond one 1 3 → 0 < step
    go true e = omega arith
    go false e = omega arith

-- a turn's place, with the step as a number
place : (run : Run) {step : ℕ} → run.step ≡ step → (j : ℕ) → run.start + step * j ≡ run.start + run.step * j
place run e j = ap (λ (s : ℕ). run.start + s * j) (sym e)

pub loop-j-init : goal.loop-j-init
loop-j-init g c = (omega arith, changed_none (λ k w. among_none w), changed_none (λ k w. among_none w))

pub loop-j-preserved : goal.loop-j-preserved
loop-j-preserved g c =
    let l = c.loop-j in
    let run = c.args.run in
    let i = run.start + g.row.STEP * l.j in
    let is : i ≡ run.start + run.step * l.j = place run c.requires l.j in
    let room : i < 576 = omega (arith, run.inside l.j) in (
      omega arith,
      place_more run.start run.step l.j l.invariant.1 i is (omega arith) refl,
      place_more run.start run.step l.j l.invariant.2 i is (omega arith) refl,
    )

pub returns : goal.returns
returns g c =
    let l = c.loop-j in
    let run = c.args.run in
    let e : l.j ≡ run.count = omega arith in
    let step = some run.step run.one_or_three in
    let left = places_done run.start run.step l.j l.invariant.1 576 step c.told-left in
    let right = places_done run.start run.step l.j l.invariant.2 576 step c.told-right in
    record { left = rw e at left; right = rw e at right }
