use mathlib.Core.Path.{ap}
use mathlib.Core.List.{List}
use native.Mathlib.Omega.{arith}
use lib.Ieee.{Float}
use lib.ListN.{length-take, length-drop}
use Rattle.laws.specs.Lists.{at, row}
use Rattle.laws.proofs.Sums.{sums_none, sums_more, sums_end}
use Rattle.tables.proofs.Rows.{n36_length}
use Rattle.imdct.proofs.Lent.{row-long, halves-added}
use Rattle.imdct.proofs.long_sums.Goals as goal

pub loop-m-init : goal.loop-m-init
loop-m-init c = (omega arith, sums_none 18 _)

-- a row is read by value, so its length is that of the table's row
pub slice_bounds-add_scaled-end : goal.slice_bounds-add_scaled-end
slice_bounds-add_scaled-end c = let n = row-long c.loop-m.m c.args.tables.now.long_cosines (n36_length c.loop-m.m (omega arith)) in omega (arith, n)

pub slice_bounds-add_scaled-end-in-loop-m : goal.slice_bounds-add_scaled-end-in-loop-m
slice_bounds-add_scaled-end-in-loop-m c = let n = row-long c.loop-m.m c.args.tables.now.long_cosines (n36_length c.loop-m.m (omega arith)) in omega (arith, n)

pub add_scaled-requires : goal.add_scaled-requires
add_scaled-requires c =
    let r = row-long c.loop-m.m c.args.tables.now.long_cosines (n36_length c.loop-m.m (omega arith)) in
    simp (length-take, length-drop) (omega (arith, r, c.loop-m.invariant.1.long))

pub loop-m-preserved : goal.loop-m-preserved
loop-m-preserved c =
    let l = c.loop-m in
    let row_is = ap (λ (t : List (List Float)). row t l.m) c.args.tables.now.long_cosines in
    let first = c.add_scaled.ensures in
    (omega arith, sums_more l.invariant.1 (halves-added (at c.args.s.now l.m) _ l.sums _ _ row_is l.invariant.1.long first c.add_scaled-in-loop-m.ensures))

pub returns : goal.returns
returns c = sums_end c.loop-m.invariant.1 18 (omega arith) (omega arith)
