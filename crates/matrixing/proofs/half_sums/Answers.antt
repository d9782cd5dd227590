use mathlib.Core.Path.{◌∙◌}
use native.Mathlib.Omega.{arith}
use lib.ListN.{length-take, length-drop}
use Rattle.laws.specs.Lists.{row}
use Rattle.laws.proofs.Lists.{tab-same}
use Rattle.laws.proofs.Sums.{sums_none, sums_more, sums_end}
use Rattle.synthesis_tables.proofs.Rows.{matrixing-length}
use Rattle.silence.proofs.Silent.{used_most}
use Rattle.matrixing.specs.Halves.{half_place}
use Rattle.matrixing.proofs.Slot.{used_summed}
use Rattle.matrixing.proofs.Added.{front_part, back_part}
use Rattle.matrixing.proofs.half_sums.Goals as goal

pub loop-j-init : goal.loop-j-init
loop-j-init c = (omega arith, omega (arith, used_most c.args.samples.now), sums_none 32 _)

pub add_scaled-requires : goal.add_scaled-requires
add_scaled-requires c = simp length-take (rw (c.requires.0, matrixing-length c.loop-j.j (omega arith)) (omega arith))

pub add_scaled-requires-in-loop-j : goal.add_scaled-requires-in-loop-j
add_scaled-requires-in-loop-j c = simp (length-take, length-drop) (rw (c.requires.0, matrixing-length c.loop-j.j (omega arith)) (omega arith))

pub loop-j-preserved : goal.loop-j-preserved
loop-j-preserved c =
    let sums = c.loop-j.sums in
    let long = c.loop-j.invariant.2.long in
    let r = row c.args.matrixing.now c.loop-j.j in
    let front = front_part sums r _ long c.add_scaled.ensures in
    (omega arith, omega arith, sums_more c.loop-j.invariant.2 (back_part sums r _ long front c.add_scaled-in-loop-j.ensures))

pub returns : goal.returns
returns c =
    let l = c.loop-j in
    sums_end l.invariant.2 c.args.used (omega arith) (omega arith)
    ∙ tab-same 32 _ _ (λ i h. rw c.requires.0 (used_summed c.args.samples.now c.args.n c.args.used c.requires.1 c.requires.2 (half_place i) (omega arith)))
