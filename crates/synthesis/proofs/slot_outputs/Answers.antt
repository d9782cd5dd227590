use mathlib.Core.Path.{ap, ◌∙◌}
use mathlib.Core.List.{List, ◌++◌}
use native.Mathlib.Omega.{arith}
use lib.Ieee.{Float}
use lib.ListN.{drop, length-take}
use Rattle.laws.proofs.Sums.{sums_none, sums_end}
use Rattle.synthesis.specs.Synthesis.{slot_output}
use Rattle.synthesis.proofs.Gathered.{first_added, second_added}
use Rattle.synthesis.proofs.slot_outputs.Goals as goal

pub loop-i-init : goal.loop-i-init
loop-i-init c = (omega arith, sums_none 32 _)

pub loop-i-preserved : goal.loop-i-preserved
loop-i-preserved c =
    let added = first_added c.args.blocks.now c.args.window.now c.loop-i.i c.requires.0 c.loop-i.invariant.1 c.add_windowed.ensures in
    (omega arith, second_added c.args.blocks.now c.args.window.now c.loop-i.i c.requires.0 added c.add_windowed-in-loop-i.ensures)

pub copy_from_slice-requires : goal.copy_from_slice-requires
copy_from_slice-requires c = simp length-take (omega (arith, c.loop-i.invariant.1.long))

pub returns : goal.returns
unfolding slot_output
returns c =
    let l = c.loop-i in
    ap (λ (ys : List Float). ys ++ drop 32 c.args.out.now) (c.copy_from_slice.ensures.after ∙ sums_end l.invariant.1 16 (omega arith) (omega arith))
