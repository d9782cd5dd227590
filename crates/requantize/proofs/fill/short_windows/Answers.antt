use mathlib.Core.Path.{◌≡◌, refl, ◌∙◌}
use Prim.Native.Nat.{◌+◌, ◌*◌, ◌≤◌}
use native.Mathlib.Omega.{arith}
use Rattle.laws.proofs.Lists.{filling-none}
use Rattle.laws.proofs.Parts.{part_length, filling_run}
use Rattle.requantize.proofs.Walk.{window-end, window-room, window_run}
use Rattle.requantize.proofs.fill.short_windows.Goals as goal

pub loop-win-init : goal.loop-win-init
loop-win-init c =
    let none : 0 * c.args.width ≡ 0 = omega arith in
    (omega arith, rw none (filling-none _ _))

pub loop-win-preserved : goal.loop-win-preserved
loop-win-preserved c =
    let l = c.loop-win in
    let w = c.args.width in
    let begin = l.win * w in
    let room : begin + w ≤ 3 * w = window-room l.win w refl c.loop-win-test.true in
    let numbers = c.args.numbers.now in
    let sizes = c.requires.room in
    let long = part_length begin (begin + w) numbers (omega (arith, room, sizes)) in (
      omega arith,
      rw (← window-end l.win w refl) (filling_run begin (begin + w) l.invariant.1 (omega arith) (omega (arith, room, sizes)) (c.scaled.ensures ∙ rw long)
          (window_run l.win w c.args.side numbers c.args.k begin refl c.short_gain-gain.ensures)),
    )
