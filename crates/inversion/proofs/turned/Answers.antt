-- Assumes nothing.
use borrow.Author.Rules.{rules}
use Rattle.inversion.proofs.SignBit.{turned_bits, turned_no_nan}
use Rattle.inversion.proofs.turned.Goals as goal

pub float_from_bits-result : goal.float_from_bits-result
float_from_bits-result c = rw c.sign_bit.ensures (turned_no_nan c.args.x c.args.turn (search rules) c.requires)

pub returns : goal.returns
returns c = rw c.sign_bit.ensures (turned_bits c.args.x c.args.turn (search rules))
