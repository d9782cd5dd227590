-- The source's numbers are those of the definitions, by computation. Assumes nothing.
use mathlib.Core.Path.{refl}
use Rattle.tables.specs.Cosines.{cos_n36, cos_n36_bits, cos_n12, cos_n12_bits, imdct_win, imdct_win_bits}
use Rattle.tables.proofs.Transform.new.Goals as goal

pub invariant_of-result : goal.invariant_of-result
unfolding cos_n36 cos_n36_bits cos_n12 cos_n12_bits imdct_win imdct_win_bits
invariant_of-result c = record { long_cosines = refl; short_cosines = refl; four_windows = refl }
