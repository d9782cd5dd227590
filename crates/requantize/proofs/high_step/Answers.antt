-- The second part of the table has each number's factor at its place. Assumes nothing.
use lib.ListN.{get_or}
use Rattle.nearest.proofs.Test.{no_nan}
use Rattle.requantize.proofs.Passed.{numbers-small}
use Rattle.requantize.proofs.Parts.{place_in, factors}
use Rattle.requantize.proofs.high_step.Goals as goal

pub high_places-requires : goal.high_places-requires
high_places-requires c = numbers-small c.args.spectrum.now c.requires.numbers_fit

pub times-requires-clause-no_nan : goal.times-requires-clause-no_nan
times-requires-clause-no_nan c = λ k h. no_nan (get_or c.args.powers.now k 0) (c.requires.high_table.number k h)

pub times-requires-clause-places_fit : goal.times-requires-clause-places_fit
times-requires-clause-places_fit c =
    let xs = c.args.spectrum.now in
    place_in c.requires.high_table xs (numbers-small xs c.requires.numbers_fit) c.high_places.ensures

pub returns : goal.returns
returns c =
    let xs = c.args.spectrum.now in
    factors c.requires.high_table xs (numbers-small xs c.requires.numbers_fit) c.high_places.ensures c.args.out.now c.times.ensures
