-- The first part of the table holds each size, or 1. Assumes nothing.
use Rattle.requantize.proofs.Passed.{accepted}
use Rattle.requantize.proofs.Lookup.{low-holds}
use Rattle.requantize.proofs.Parts.{low_pass}
use Rattle.requantize.proofs.low_step.Goals as goal

pub low_sizes-requires : goal.low_sizes-requires
low_sizes-requires c = (accepted c.args.table.number c.args.side c.args.spectrum.now c.requires.accepted).numbers

pub by_table-requires-clause-holds : goal.by_table-requires-clause-holds
by_table-requires-clause-holds c = low-holds c.args.spectrum.now c.requires.low_table c.low_sizes.ensures

pub by_table-requires-clause-accepted : goal.by_table-requires-clause-accepted
by_table-requires-clause-accepted c = low_pass c.args.table.number c.args.side c.args.spectrum.now c.low_sizes.ensures c.requires.accepted
