-- The long runs and then the short ones, over the table's starts. Assumes nothing.
use borrow.Author.Rules.{rules}
use Rattle.intensity.proofs.Runs.{long_laid, short_laid}
use Rattle.intensity.proofs.position_too_high.Goals as goal

pub invariant_of-long : goal.invariant_of-long
invariant_of-long c = record { laid = long_laid c.args.table.number c.args.table.known c.long_bands-starts.ensures (search rules) }

pub invariant_of-short : goal.invariant_of-short
invariant_of-short c = record { laid = short_laid c.args.table.number c.args.table.known c.short_bands-starts.ensures (search rules) }
