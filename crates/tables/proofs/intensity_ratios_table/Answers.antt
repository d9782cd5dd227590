-- The source's numbers are those of `intensity_ratios`, by computation. Assumes nothing.
use mathlib.Core.Path.{refl}
use Rattle.tables.specs.Stereo.{intensity_ratios, intensity_ratios_bits}
use Rattle.tables.proofs.intensity_ratios_table.Goals as goal

pub returns : goal.returns
unfolding intensity_ratios intensity_ratios_bits
returns c = refl
