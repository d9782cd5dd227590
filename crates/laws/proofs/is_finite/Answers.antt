-- Assumes nothing.
use borrow.Author.Rules.{rules}
use lib.Ieee.{of_bits, neg, nan_bits}
use Rattle.laws.proofs.Finite.{inside, outside}
use Rattle.laws.proofs.is_finite.Goals as goal

pub float_from_bits-top : goal.float_from_bits-top
unfolding nan_bits of_bits neg
float_from_bits-top c = search rules

pub returns-then-top-x : goal.returns-then-top-x
unfolding nan_bits of_bits neg
returns-then-top-x c = inside c.args.x c.if-top-x.true

pub returns-else-top-x : goal.returns-else-top-x
unfolding nan_bits of_bits neg
returns-else-top-x c = outside c.args.x c.if-top-x.false
