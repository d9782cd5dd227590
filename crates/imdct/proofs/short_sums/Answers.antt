use mathlib.Core.Path.{ap}
use mathlib.Core.List.{List}
use Prim.Native.Nat.{◌+◌, ◌*◌}
use native.Mathlib.Omega.{arith}
use lib.Ieee.{Float}
use lib.ListN.{length-take, length-drop}
use Rattle.laws.specs.Lists.{at, row}
use Rattle.laws.proofs.Sums.{sums_none, sums_more, sums_end}
use Rattle.tables.proofs.Rows.{n12_length}
use Rattle.imdct.proofs.Lent.{row-long, part_added}
use Rattle.imdct.proofs.short_sums.Goals as goal

pub loop-m-init : goal.loop-m-init
loop-m-init c = (omega arith, sums_none 4 _)

pub add_scaled-requires : goal.add_scaled-requires
add_scaled-requires c =
    let n = row-long c.loop-m.m c.args.tables.now.short_cosines (n12_length c.loop-m.m (omega arith)) in
    simp (length-take, length-drop) (omega (arith, n, c.loop-m.invariant.1.long))

pub loop-m-preserved : goal.loop-m-preserved
loop-m-preserved c =
    let l = c.loop-m in
    let n = l.m in
    let f = c.args.from in
    let x = at c.args.s.now (c.args.i + 3 * n) in
    let row_is = ap (λ (t : List (List Float)). row t n) c.args.tables.now.short_cosines in
    (omega arith, sums_more l.invariant.1 (part_added x l.sums _ f (f + 4) 4 row_is l.invariant.1.long (omega arith) c.add_scaled.ensures))

pub returns : goal.returns
returns c = sums_end c.loop-m.invariant.1 6 (omega arith) (omega arith)
