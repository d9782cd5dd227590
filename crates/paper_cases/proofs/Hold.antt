-- One theorem: all of document 01's cases hold. Each is computed. Assumes nothing.
use mathlib.Core.Path.{refl}
use lib.Ieee.{of_bits, of_int, mul, neg}
use Rattle.laws.specs.Checks.{all_to}
use Rattle.laws.specs.Finite.{finite}
use Rattle.laws.specs.Lists.{tab}
use Rattle.nearest.specs.Nearest.{units, pattern_from, nearest_root}
use Rattle.power_table.specs.Power.{power}
use Rattle.powers.specs.Powers.{gain}
use Rattle.bands.specs.Starts.{long_tables, short_tables, pretab}
use Rattle.bands.specs.Bands.{long_starts, short_starts, band_at}
use Rattle.requantize.specs.Requantize.{requantized}
use Rattle.reorder.specs.Reorder.{reordered}
use Rattle.intensity.specs.Intensity.{position_refused}
use Rattle.inversion.specs.Inversion.{inverted}
use Rattle.paper_cases.specs.Cases.{AllHold, done, holds, cases}

pub all_hold : AllHold cases
unfolding cases tab requantized reordered position_refused inverted long_tables short_tables long_starts short_starts band_at pretab power gain nearest_root pattern_from units all_to finite of_bits of_int mul neg
all_hold =
    holds _ _ refl (holds _ _ refl (holds _ _ refl (holds _ _ refl (holds _ _ refl (holds _ _ refl
    (holds _ _ refl (holds _ _ refl (holds _ _ refl (holds _ _ refl (holds _ _ refl (holds _ _ refl done)))))))))))
