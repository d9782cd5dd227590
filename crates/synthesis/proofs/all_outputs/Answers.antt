use mathlib.Core.Path.{◌≡◌}
use mathlib.Core.List.{List}
use Prim.Native.Nat.{ℕ, ◌<◌, ◌-◌, ◌+◌, ◌*◌, ◌/◌, ◌%◌}
use native.Mathlib.Omega.{arith}
use lib.ListN.{length, take, drop, length-take, length-drop}
use lib.Seq.{take_all}
use lib.Ieee.{Float}
use Rattle.laws.proofs.Lists.{filling-none, filling-end, filling-part}
use Rattle.synthesis.specs.Synthesis.{slot_output}
use Rattle.synthesis.proofs.all_outputs.Goals as goal

-- a part that goes to the queue's end is all that is left of it
slot_part :
    (queue : List Float) (n i : ℕ) → length queue ≡ 2176 → i < 32
    → slot_output (take (2176 - 64 * (17 - n)) (drop (64 * (17 - n)) queue)) i ≡ slot_output (drop (64 * (17 - (32 * n + i) / 32)) queue) ((32 * n + i) % 32)
slot_part queue n i long h =
    let d : (32 * n + i) / 32 ≡ n = omega arith in
    let m : (32 * n + i) % 32 ≡ i = omega arith in
    rw (d, m, take_all (2176 - 64 * (17 - n)) (drop (64 * (17 - n)) queue) (simp length-drop (omega (arith, long))))

pub loop-n-init : goal.loop-n-init
loop-n-init c = (omega arith, filling-none _ _)

pub slot_outputs-requires : goal.slot_outputs-requires
slot_outputs-requires c = (c.requires.0, simp (length-take, length-drop) (omega arith), simp (length-take, length-drop) (omega arith))

pub loop-n-preserved : goal.loop-n-preserved
loop-n-preserved c =
    let made = c.slot_outputs in
    let l = c.loop-n in
    let e : 32 * (l.n + 1) ≡ 32 * l.n + 32 = omega arith in (
      omega arith,
      rw e (filling-part (32 * l.n) 32 (length l.out - 32 * l.n) l.invariant.1 (omega arith) (omega arith) made.ensures (λ i k. slot_part c.args.queue.now l.n i c.told-queue k)),
    )

pub returns : goal.returns
returns c = filling-end c.loop-n.invariant.1 (omega arith) (omega arith)
