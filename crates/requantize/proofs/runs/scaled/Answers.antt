use native.Mathlib.Omega.{arith}
use borrow.Author.Rules.{rules}
use Rattle.laws.proofs.Lists.{fills-none, fills_more}
use Rattle.requantize.specs.Requantize.{number_at}
use Rattle.requantize.proofs.Lookup.{value_product}
use Rattle.requantize.proofs.runs.scaled.Goals as goal

pub loop-i-init : goal.loop-i-init
loop-i-init c = (omega arith, fills-none _ _ _ c.requires.out_len)

pub loop-i-preserved : goal.loop-i-preserved
loop-i-preserved c =
    let l = c.loop-i in
    (omega arith, fills_more l.invariant.1 (omega arith) (value_product (number_at c.args.numbers.now l.i) (search rules) c.args.gain c.value.ensures))
