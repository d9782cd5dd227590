use native.Mathlib.Omega.{arith}
use Rattle.laws.proofs.Lists.{filling-none, filling-end}
use Rattle.little_endian.proofs.Filled.{float_more}
use Rattle.little_endian.proofs.floats_to.Goals as goal

pub loop-i-init : goal.loop-i-init
loop-i-init c = (omega arith, filling-none _ _)

pub bounds-from-i : goal.bounds-from-i
bounds-from-i c = omega (arith, c.min-count.ensures)

pub overflow_mul-i : goal.overflow_mul-i
overflow_mul-i c = omega (arith, c.min-count.ensures)

pub put_word-requires : goal.put_word-requires
put_word-requires c = omega (arith, c.min-count.ensures, c.loop-i.invariant.1.long)

pub overflow_step-i : goal.overflow_step-i
overflow_step-i c = omega (arith, c.min-count.ensures)

pub loop-i-preserved : goal.loop-i-preserved
loop-i-preserved c =
    let from = c.args.from.now in
    let bits = c.bits_of.ensures in
    (omega arith, rw c.put_word.ensures (float_more from c.loop-i.i _ c.loop-i.invariant.1 (omega (arith, c.min-count.ensures)) bits))

pub returns : goal.returns
returns c = filling-end c.loop-i.invariant.1 (omega (arith, c.min-count.ensures)) (omega (arith, c.min-count.ensures))
