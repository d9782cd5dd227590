-- A float that is neither infinite nor a NaN, and a list of such. Assumes nothing.
use Rattle.std.specs.Prelude.{Bool, true, false, List, length, Float}
use Rattle.std.specs.Float.{nan, inf, fin}
use Rattle.laws.specs.Checks.{all_to}
use Rattle.laws.specs.Lists.{at}

unfoldable pub finite : Float → Bool
finite nan = false
finite (inf s) = false
finite (fin s m e) = true

-- each element is finite
abbrev pub all_finite : List Float → Bool
all_finite l = all_to (length l) (λ i. finite (at l i))
