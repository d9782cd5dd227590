-- The source's numbers are those of `imdct_win`, by computation. Assumes nothing.
use mathlib.Core.Path.{refl}
use Rattle.tables.specs.Cosines.{imdct_win, imdct_win_bits}
use Rattle.tables.proofs.imdct_win_table.Goals as goal

pub returns : goal.returns
unfolding imdct_win imdct_win_bits
returns c = refl
