-- Assumes nothing.
use mathlib.Core.Path.{refl}
use Rattle.bands.specs.Starts.{pretab}
use Rattle.bands.proofs.preflag_table.Goals as goal

pub returns : goal.returns
unfolding pretab
returns c = refl
