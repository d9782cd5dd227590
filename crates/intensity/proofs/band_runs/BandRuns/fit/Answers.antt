use mathlib.Core.Path.{◌≡◌, sym}
use mathlib.Core.Bool.{true, false, ◌||◌}
use native.Mathlib.Omega.{arith}
use borrow.Author.Count.{below_more}
use lib.Dec.{ltb}
use Rattle.std.specs.Result.{is_ok}
use Rattle.laws.proofs.Checks.{all_if}
use Rattle.intensity.specs.Intensity.{choice_of}
use Rattle.intensity.specs.BandRuns.{runs_of}
use Rattle.intensity.proofs.Fit.{fits, turn_fits, turn-fails}
use Rattle.intensity.proofs.band_runs.BandRuns.fit.Goals as goal

pub returns-then-is_err : goal.returns-then-is_err
returns-then-is_err c =
    let refused : is_ok (choice_of c.run.result.position) ≡ false = rw (← c.choose.ensures) c.if-is_err.ensures.negation in
    sym (turn-fails (runs_of c.args.self.now) c.args.from c.loop-g.g c.loop-g.invariant.0 c.run.ensures.by c.args.to (omega arith) refused)

pub loop-g-preserved : goal.loop-g-preserved
loop-g-preserved c =
    let r = runs_of c.args.self.now in
    let l = c.loop-g in
    let chosen : is_ok (choice_of c.run.result.position) ≡ true = rw (← c.choose.ensures) c.if-is_err.ensures.negation in
    let here = turn_fits r c.args.from l.g l.invariant.0 c.run.ensures.by chosen in
    (omega arith, below_more (λ k. (ltb k c.args.from || fits r k) ≡ true) l.g l.invariant.1 here)

pub returns : goal.returns
returns c =
    let from = c.args.from in
    let r = runs_of c.args.self.now in
    sym (all_if c.args.to (λ k. ltb k from || fits r k) (λ k h. c.loop-g.invariant.1 k (omega arith)))
