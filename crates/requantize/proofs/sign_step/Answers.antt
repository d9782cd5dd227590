-- What is reached gets the numbers' signs, and the rest is written over. Assumes nothing.
use mathlib.Core.Path.{◌≡◌}
use lib.ListN.{length}
use borrow.Author.Rules.{rules}
use Rattle.requantize.proofs.Passed.{Accepted, accepted}
use Rattle.requantize.proofs.Parts.{sized-signed}
use Rattle.requantize.proofs.sign_step.Goals as goal
use Rattle.requantize.proofs.sign_step.Goals.{Start}

ok : (c : Start) → Accepted c.args.table.number c.args.side c.args.spectrum.now
ok c = accepted c.args.table.number c.args.side c.args.spectrum.now c.requires.accepted

pub returns : goal.returns
returns c =
    let xs = c.args.spectrum.now in
    let size : length xs ≡ 576 = search rules in
    sized-signed c.args.table.number c.args.side xs c.reach.result c.args.out.now c.requires.sized c.reach.ensures.1 c.signs.ensures
    (rw size at c.raw_from.ensures)
