-- The small table holds each of the numbers. Assumes nothing.
use borrow.Author.Rules.{rules}
use Rattle.requantize.proofs.Lookup.{small-holds}
use Rattle.requantize.proofs.small_step.Goals as goal

pub by_table-requires-clause-holds : goal.by_table-requires-clause-holds
by_table-requires-clause-holds c = small-holds c.requires.signed_table c.args.spectrum.now (search rules) c.requires.small
