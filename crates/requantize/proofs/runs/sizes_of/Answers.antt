use lib.ListN.{length}
use lib.IntN.{pos, nat_abs}
use mathlib.Core.Path.{◌≡◌}
use native.Mathlib.Omega.{arith}
use mir.Syntax.{w16}
use mir.Val.{SFits, to_z, of_z}
use borrow.Author.Differences.{ints}
use borrow.Author.Rules.{rules}
use Rattle.std.proofs.lemmas.Int.{clamps}
use Rattle.laws.proofs.Lists.{fills-none, fills_more, fills-all}
use Rattle.requantize.specs.Requantize.{number_at}
use Rattle.requantize.proofs.runs.sizes_of.Goals as goal

pub loop-i-init : goal.loop-i-init
loop-i-init c =
    let long : length c.args.sizes.now ≡ 576 = search rules in
    (omega arith, fills-none _ _ _ long)

-- the size by its value, whatever the form of the code: `clamps` is for the wrong answers with `min` and `max`
pub loop-i-preserved : goal.loop-i-preserved
loop-i-preserved c =
    let x = number_at c.args.numbers.now c.loop-i.i in
    let fits : SFits w16 x = search rules in
    let size : to_z w16 (of_z w16 c.abs.result) ≡ pos (nat_abs x) = omega (arith, ints, clamps, fits) in
    (omega arith, fills_more c.loop-i.invariant.1 (omega arith) size)

pub returns : goal.returns
returns c = fills-all c.loop-i.invariant.1 (omega arith) (omega arith)
