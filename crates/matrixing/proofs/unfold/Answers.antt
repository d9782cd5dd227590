use mathlib.Core.Path.{◌≡◌, ◌∙◌}
use Prim.Native.Nat.{◌+◌}
use native.Mathlib.Omega.{arith}
use lib.Ieee.{nan}
use Rattle.laws.proofs.Lists.{fills-none, fills_more, fills-all}
use Rattle.laws.proofs.Parts.{part-tab, fills_run}
use Rattle.matrixing.proofs.Unfolded.{fills-next, at_front, at-middle, at-opposed, at-mirrored, at_back}
use Rattle.matrixing.proofs.unfold.Goals as goal

pub loop-i-init : goal.loop-i-init
loop-i-init c =
    let a = c.args in
    let front = c.copy_from_slice.ensures.after ∙ part-tab 0 16 a.sums.now nan (omega (arith, c.told-sums)) in
    (omega arith, fills_more (fills_run 0 16 (fills-none _ _ _ c.requires) (omega arith) (omega arith) front (λ i h. at_front a.sums.now a.middle (0 + i) (omega arith))) (omega arith) (at-middle a.sums.now a.middle))

pub loop-i-preserved : goal.loop-i-preserved
loop-i-preserved c =
    let l = c.loop-i in
    let a = c.args in
    (omega arith, fills-next 17 l.i l.invariant.1 (omega arith) (at-opposed a.sums.now a.middle l.i (omega arith)))

pub loop-i-2-init : goal.loop-i-2-init
loop-i-2-init c =
    let l = c.loop-i in
    let e : l.i ≡ 16 = omega arith in
    (omega arith, rw e at l.invariant.1)

pub loop-i-2-preserved : goal.loop-i-2-preserved
loop-i-2-preserved c =
    let l = c.loop-i-2 in
    let a = c.args in
    (omega arith, fills-next 33 l.i l.invariant.1 (omega arith) (at-mirrored a.sums.now a.middle l.i (omega arith)))

pub returns : goal.returns
returns c =
    let l = c.loop-i-2 in
    let a = c.args in
    let e : l.i ≡ 15 = omega arith in
    let back = c.copy_from_slice-2.ensures.after ∙ part-tab 16 16 a.sums.now nan (omega (arith, c.told-sums)) in
    fills-all (fills_run 48 64 (rw e at l.invariant.1) (omega arith) (omega arith) back (λ i h. at_back a.sums.now a.middle i)) (omega arith) (omega arith)
