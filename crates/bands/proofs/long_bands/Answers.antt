-- A row of the table in specs/. Assumes nothing.
use mathlib.Core.Path.{refl}
use borrow.Author.Rules.{rules}
use Rattle.bands.specs.Starts.{long_tables}
use Rattle.bands.specs.Bands.{long_starts}
use Rattle.bands.proofs.long_bands.Goals as goal

pub offset_bounds-table : goal.offset_bounds-table
unfolding long_starts long_tables
offset_bounds-table c = search rules

pub bounds-table-table : goal.bounds-table-table
unfolding long_starts long_tables
bounds-table-table c = search rules

pub returns : goal.returns
unfolding long_starts long_tables
returns c = refl
