use lib.ListN.{length}
use mathlib.Core.Path.{◌≡◌}
use mathlib.Core.Bool.{true, false}
use native.Mathlib.Omega.{arith}
use lib.IntN.{pos, nat_abs}
use borrow.Author.Rules.{rules}
use mir.Syntax.{w16}
use mir.Val.{to_z, of_z}
use Rattle.laws.proofs.Lists.{fills-none, fills_more, fills-all}
use Rattle.requantize.specs.Requantize.{number_at}
use Rattle.requantize.specs.Parts.{low_size}
use Rattle.requantize.proofs.Size.{size_is, size_tested}
use Rattle.requantize.proofs.runs.low_sizes.Goals as goal
use Rattle.requantize.proofs.runs.low_sizes.Goals.{Joined-n-lt4104, then-n-lt4104, else-n-lt4104}

-- what either arm leaves
low : (c : Joined-n-lt4104) → to_z w16 c.if-n-lt4104.sizes-bits ≡ pos (low_size (number_at c.args.numbers.now c.loop-i.i))
low c =
    let size : to_z w16 (of_z w16 c.abs-n.result) ≡ pos (nat_abs (number_at c.args.numbers.now c.loop-i.i)) =
    size_is (number_at c.args.numbers.now c.loop-i.i) (search rules) (c.requires c.loop-i.i (omega arith)) c.abs-n.ensures.value in
    elim c.if-n-lt4104.branch [
      | then-n-lt4104 w ↦ rw (w.sizes-is, size_tested 4104 true size w.if-n-lt4104.true) size
      | else-n-lt4104 w ↦ rw (w.sizes-is, size_tested 4104 false size w.if-n-lt4104.false)
    ]

pub loop-i-init : goal.loop-i-init
loop-i-init c =
    let long : length c.args.sizes.now ≡ 576 = search rules in
    (omega arith, fills-none _ _ _ long)

pub loop-i-preserved : goal.loop-i-preserved
loop-i-preserved c = (omega arith, fills_more c.loop-i.invariant.1 (omega arith) (low (goal.at.loop-i-preserved c).Joined-n-lt4104))

pub returns : goal.returns
returns c = fills-all c.loop-i.invariant.1 (omega arith) (omega arith)
