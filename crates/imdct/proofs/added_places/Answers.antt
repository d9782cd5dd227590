use mathlib.Core.Path.{◌≡◌}
use native.Mathlib.Omega.{arith}
use lib.ListN.{length-take, length-drop}
use Rattle.imdct.proofs.Adding.{adds_long, adds_none, adds_more}
use Rattle.imdct.proofs.added_places.Goals as goal

pub loop-i-init : goal.loop-i-init
loop-i-init c = (omega arith, adds_none c.args.window.now c.args.s.now)

pub slice_bounds-places-end : goal.slice_bounds-places-end
slice_bounds-places-end c =
    let l = c.loop-i in
    let n = adds_long _ _ l.i l.invariant.1 in
    omega (arith, n)

pub add_window-requires : goal.add_window-requires
add_window-requires c =
    let l = c.loop-i in
    let n = adds_long _ _ l.i l.invariant.1 in
    simp (length-take, length-drop) (omega (arith, n))

pub loop-i-preserved : goal.loop-i-preserved
loop-i-preserved c =
    let l = c.loop-i in
    let a = c.args in (
      omega arith,
      adds_more a.window.now a.s.now l.i (omega arith) l.invariant.1 c.window_places-values.ensures c.add_window.ensures,
    )

pub returns : goal.returns
returns c =
    let l = c.loop-i in
    let e : l.i ≡ 3 = omega arith in
    rw e at l.invariant.1
