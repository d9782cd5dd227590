use mathlib.Core.Path.{◌≡◌, ◌∙◌}
use Prim.Native.Nat.{◌-◌, ◌*◌}
use native.Mathlib.Omega.{arith}
use lib.ListN.{length-take, length-drop}
use lib.Ieee.{nan}
use Rattle.laws.proofs.Lists.{tab-place, fills-none}
use Rattle.matrixing.specs.Matrixing.{slot_samples}
use Rattle.matrixing.proofs.Unfolded.{unfolded-all}
use Rattle.matrixing.proofs.Queue.{queue_more, queue_made}
use Rattle.matrixing.proofs.queue_blocks.Goals as goal

pub loop-b-init : goal.loop-b-init
loop-b-init c = (omega arith, fills-none _ _ _ c.told-queue)

pub half_sums-sums-requires : goal.half_sums-sums-requires
half_sums-sums-requires c = (c.requires, c.used_subbands-used.ensures, omega arith)

pub middle-m-requires : goal.middle-m-requires
middle-m-requires c = (tab-place 32 _ 0 nan c.half_sums-sums.ensures (omega arith), omega arith)

pub unfold-requires : goal.unfold-requires
unfold-requires c = simp (length-take, length-drop) (omega arith)

pub loop-b-preserved : goal.loop-b-preserved
loop-b-preserved c =
    let sums = c.half_sums-sums in
    let m = c.middle-m in
    let xs = c.args.samples.now in
    let all = unfolded-all _ _ (slot_samples xs (17 - c.loop-b.b)) sums.ensures m.ensures in
    (omega arith, queue_more xs c.loop-b.b c.loop-b.invariant.1 (omega arith) (c.«unfold».ensures ∙ all))

pub returns : goal.returns
returns c =
    let l = c.loop-b in
    let e : 64 * l.b ≡ 1152 = omega arith in
    queue_made c.args.samples.now c.args.blocks.now (rw e at l.invariant.1) c.copy_from_slice.ensures.after
