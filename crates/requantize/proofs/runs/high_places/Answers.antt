use lib.ListN.{length}
use mathlib.Core.Path.{◌≡◌, ap, ◌∙◌}
use Prim.Native.Nat.{◌-◌}
use native.Mathlib.Omega.{arith}
use lib.IntN.{ℤ, pos, nat_abs, ◌-ℤ◌}
use borrow.Author.Rules.{rules}
use mir.Syntax.{w16}
use mir.Val.{to_z, of_z}
use mir.ValLaws.{to_z-of_z}
use Rattle.std.specs.Int.{int_max}
use Rattle.laws.proofs.Lists.{fills-none, fills_more, fills-all}
use Rattle.requantize.specs.Requantize.{number_at}
use Rattle.requantize.proofs.Size.{size_is, size-read, above}
use Rattle.requantize.proofs.runs.high_places.Goals as goal
use Rattle.requantize.proofs.runs.high_places.Goals.{After-max}

-- how far the size is above 4,103, as the machine finds it
place : (c : After-max) → to_z w16 (of_z w16 c.max.result) -ℤ pos 4103 ≡ pos (nat_abs (number_at c.args.numbers.now c.loop-i.i) - 4103)
place c =
    let size = size_is (number_at c.args.numbers.now c.loop-i.i) (search rules) (c.requires c.loop-i.i (omega arith)) c.abs.ensures.value in
    let most = to_z-of_z w16 c.max.result (record { sfits = c.max.type_inv }) ∙ c.max.ensures.value ∙ ap (λ (z : ℤ). int_max z (pos 4103)) size in
    ap (λ (z : ℤ). z -ℤ pos 4103) most ∙ above (nat_abs (number_at c.args.numbers.now c.loop-i.i))

pub loop-i-init : goal.loop-i-init
loop-i-init c =
    let long : length c.args.places.now ≡ 576 = search rules in
    (omega arith, fills-none _ _ _ long)

pub loop-i-preserved : goal.loop-i-preserved
loop-i-preserved c =
    let small = c.requires c.loop-i.i (omega arith) in
    (omega arith, fills_more c.loop-i.invariant.1 (omega arith) (size-read (place (goal.at.loop-i-preserved c).After-max) (omega arith)))

pub returns : goal.returns
returns c = fills-all c.loop-i.invariant.1 (omega arith) (omega arith)
