use mathlib.Core.Path.{ap}
use native.Mathlib.Omega.{arith}
use lib.IntN.{pos}
use lib.Ieee.{nan, binary32, of_int}
use lib.ListN.{get_or}
use mir.Syntax.{w16}
use mir.ValLaws.{to_z-of_z}
use borrow.Author.Tests.{le-ltb}
use Rattle.laws.proofs.Joined.{fills_joined}
use Rattle.laws.proofs.Lists.{take-tab, fills_more}
use Rattle.requantize.specs.Requantize.{raw_at}
use Rattle.requantize.proofs.runs.raw_from.Goals as goal

pub loop-i-init : goal.loop-i-init
loop-i-init c =
    let out = c.args.out.now in
    (omega arith, c.requires.from_in_bounds, fills_joined (raw_at c.args.numbers.now) (record { long = c.requires.out_len; done = take-tab c.args.from out nan (omega arith) }))

pub loop-i-preserved : goal.loop-i-preserved
loop-i-preserved c =
    let l = c.loop-i in
    let back = to_z-of_z w16 (get_or c.args.numbers.now l.i (pos 0)) (record { sfits = c.out-1.given }) in
    (omega arith, omega arith, fills_more l.invariant.2 (omega arith) (rw (le-ltb l.i c.args.from l.invariant.0) (ap (of_int binary32) back)))
