use native.Mathlib.Omega.{arith}
use borrow.Author.Tests.{lt-ltb, le-ltb}
use lib.Ieee.{nan}
use Rattle.laws.proofs.Lists.{filling-none, filling_more}
use Rattle.laws.proofs.Parts.{filling-rest, filling-done}
use Rattle.stereo.proofs.mid_side_below.Goals as goal

pub loop-i-init : goal.loop-i-init
loop-i-init c = (omega arith, filling-none _ _, filling-none _ _)

pub loop-i-preserved : goal.loop-i-preserved
loop-i-preserved c =
    let l = c.loop-i in
    let low = lt-ltb l.i c.args.n (omega arith) in
    let left = filling-rest nan l.invariant.1 l.i (omega arith) in
    let right = filling-rest nan l.invariant.2 l.i (omega arith) in
    let root = c.half_root-half_root.ensures in
    (omega arith, filling_more l.invariant.1 (omega arith) (rw (left, right, root, low)), filling_more l.invariant.2 (omega arith) (rw (left, right, root, low)))

pub returns : goal.returns
returns c =
    let l = c.loop-i in
    let n = c.args.n in record {
      left = filling-done nan l.invariant.1 576 c.told-left (omega arith) (λ i p q. rw (le-ltb i n (omega arith)));
      right = filling-done nan l.invariant.2 576 c.told-right (omega arith) (λ i p q. rw (le-ltb i n (omega arith)));
    }
