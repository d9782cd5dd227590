-- The table holds each size; the sizes pass the checks that the numbers pass, and with the signs their floats are those of the numbers. Assumes nothing.
use Rattle.requantize.proofs.Passed.{accepted}
use Rattle.requantize.proofs.Lookup.{large_holds}
use Rattle.requantize.proofs.Sizes.{sizes_pass, sizes-signed}
use Rattle.requantize.proofs.requantize_step.Goals as goal

pub sizes_of-requires : goal.sizes_of-requires
sizes_of-requires c = (accepted c.args.table.number c.args.side c.args.spectrum.now c.requires.accepted).numbers

pub by_table-requires-clause-holds : goal.by_table-requires-clause-holds
by_table-requires-clause-holds c =
    let xs = c.args.spectrum.now in
    large_holds xs c.requires.power_table (accepted c.args.table.number c.args.side xs c.requires.accepted).numbers c.sizes_of.ensures

pub by_table-requires-clause-accepted : goal.by_table-requires-clause-accepted
by_table-requires-clause-accepted c = sizes_pass c.args.table.number c.args.side c.args.spectrum.now c.sizes_of.ensures c.requires.accepted

pub returns : goal.returns
returns c = sizes-signed c.args.table.number c.args.side c.args.spectrum.now c.sizes_of.ensures c.by_table.ensures c.signs.ensures
