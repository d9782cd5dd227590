use mathlib.Core.Path.{◌≡◌, refl, sym, ◌∙◌}
use Prim.Native.Nat.{◌+◌, ◌*◌}
use native.Mathlib.Omega.{arith}
use lib.Ieee.{nan}
use lib.ListN.{get_or}
use Rattle.laws.proofs.Lists.{filling-none, filling-whole}
use Rattle.laws.proofs.Parts.{part_length, filling_run, filling_skip}
use Rattle.bands.proofs.Tables.{short-bands}
use Rattle.bands.proofs.ShortTurns.{ShortTurn, short_turn}
use Rattle.reorder.proofs.Triples.{laid_out, left_alone}
use Rattle.reorder.proofs.reorder_bands.Goals as goal
use Rattle.reorder.proofs.reorder_bands.Goals.{In-loop-k, then-reorders, else-reorders}

-- the band that a turn is at
turn : (c : In-loop-k) → let l = c.loop-k in ShortTurn c.args.table.number l.k l.begin (get_or c.short_bands-starts.result (l.k + 1) 0)
turn c =
    let l = c.loop-k in
    short_turn c.args.table.number l.k l.begin (get_or c.short_bands-starts.result (l.k + 1) 0) c.args.table.known c.loop-k-test.true l.invariant.1 (rw c.short_bands-starts.ensures)

pub loop-k-init : goal.loop-k-init
loop-k-init c = (omega arith, omega (arith, (short-bands c.args.table.number c.args.table.known).begins), filling-none _ _)

pub overflow_mul-end : goal.overflow_mul-end
overflow_mul-end c = omega (arith, turn (goal.at.overflow_mul-end c).In-loop-k)

pub reorders-requires : goal.reorders-requires
reorders-requires c = c.loop-k.invariant.1

pub overflow_sub-end : goal.overflow_sub-end
overflow_sub-end c = omega (arith, turn (goal.at.overflow_sub-end c).In-loop-k)

pub offset_bounds-old-begin : goal.offset_bounds-old-begin
offset_bounds-old-begin c = omega (arith, turn (goal.at.offset_bounds-old-begin c).In-loop-k)

pub slice_bounds-interleave-count : goal.slice_bounds-interleave-count
slice_bounds-interleave-count c = omega (arith, turn (goal.at.slice_bounds-interleave-count c).In-loop-k)

pub slice_bounds-interleave-start : goal.slice_bounds-interleave-start
slice_bounds-interleave-start c = omega (arith, turn (goal.at.slice_bounds-interleave-start c).In-loop-k)

pub slice_bounds-interleave-end : goal.slice_bounds-interleave-end
slice_bounds-interleave-end c = omega (arith, turn (goal.at.slice_bounds-interleave-end c).In-loop-k)

pub offset_bounds-samples-begin : goal.offset_bounds-samples-begin
offset_bounds-samples-begin c = omega (arith, turn (goal.at.offset_bounds-samples-begin c).In-loop-k)

pub slice_bounds-interleave-count-then-reorders : goal.slice_bounds-interleave-count-then-reorders
slice_bounds-interleave-count-then-reorders c = omega (arith, turn (goal.at.slice_bounds-interleave-count-then-reorders c).In-loop-k)

pub slice_bounds-interleave-start-then-reorders : goal.slice_bounds-interleave-start-then-reorders
slice_bounds-interleave-start-then-reorders c = omega (arith, turn (goal.at.slice_bounds-interleave-start-then-reorders c).In-loop-k)

pub slice_bounds-interleave-end-then-reorders : goal.slice_bounds-interleave-end-then-reorders
slice_bounds-interleave-end-then-reorders c = omega (arith, turn (goal.at.slice_bounds-interleave-end-then-reorders c).In-loop-k, c.loop-k.invariant.2.long, c.told-samples)

pub interleave-requires : goal.interleave-requires
interleave-requires c =
    let l = c.loop-k in
    let t = turn (goal.at.interleave-requires c).In-loop-k in
    let e = 3 * get_or c.short_bands-starts.result (l.k + 1) 0 in
    (part_length l.begin e c.args.samples.now (omega (arith, t, c.told-samples)) ∙ t.three, part_length l.begin e l.samples (omega (arith, t, c.told-samples, l.invariant.2.long)) ∙ t.three)

pub loop-k-preserved : goal.loop-k-preserved
loop-k-preserved c =
    let l = c.loop-k in
    let t = turn (goal.at.loop-k-preserved c).In-loop-k in
    let e = 3 * get_or c.short_bands-starts.result (l.k + 1) 0 in
    let xs = c.args.samples.now in
    let to = c.args.last in
    let first = c.args.first in
    let count = c.args.count1 in
    let test = sym c.reorders.ensures in
    elim c.if-reorders.branch [
      | then-reorders w ↦ (
        omega (arith, t),
        t.end,
        rw w.samples-is (filling_run l.begin e l.invariant.2 (omega (arith, t)) (omega (arith, t, c.told-samples)) (rw (← t.three) at w.interleave.ensures)
            (laid_out c.args.table.number l.k c.args.table.known t.band l.begin e l.invariant.1 t.end to first count xs (test ∙ w.if-reorders.true) t.wide refl)),
      )
      | else-reorders w ↦ (
        omega (arith, t),
        t.end,
        rw w.samples-is (filling_skip nan l.invariant.2 e (omega (arith, t)) (omega (arith, t, c.told-samples))
            (left_alone c.args.table.number l.k c.args.table.known t.band l.begin e l.invariant.1 t.end to first count xs (test ∙ w.if-reorders.false))),
      )
    ]

pub returns : goal.returns
returns c =
    let l = c.loop-k in
    let t = c.args.table in
    let last : l.k ≡ 13 = omega arith in
    let end : l.begin ≡ 576 = l.invariant.1 ∙ rw (last, (short-bands t.number t.known).ends) in
    filling-whole l.invariant.2 c.told-samples (omega arith) (omega arith)
