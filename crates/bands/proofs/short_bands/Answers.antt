-- A row of the table in specs/. Assumes nothing.
use mathlib.Core.Path.{refl}
use borrow.Author.Rules.{rules}
use Rattle.bands.specs.Starts.{short_tables}
use Rattle.bands.specs.Bands.{short_starts}
use Rattle.bands.proofs.short_bands.Goals as goal

pub offset_bounds-table : goal.offset_bounds-table
unfolding short_starts short_tables
offset_bounds-table c = search rules

pub bounds-table-table : goal.bounds-table-table
unfolding short_starts short_tables
bounds-table-table c = search rules

pub returns : goal.returns
unfolding short_starts short_tables
returns c = refl
