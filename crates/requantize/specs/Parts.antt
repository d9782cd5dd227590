-- Requantize by the two parts of the table of powers: the sizes that the first part has not are taken as 1, so that the gain alone stands there, and multiplied by their powers
-- afterwards. Assumes nothing.
use Rattle.std.specs.Prelude.{◌≡◌, true, cond, List, ℕ, ◌<◌, ltb, ℤ, pos, nat_abs, Float}
use Rattle.std.specs.Float.{binary32}
use Rattle.std.specs.Float.Ieee.{mul}
use Rattle.laws.specs.Lists.{at, tab}
use Rattle.power_table.specs.Power.{power}
use Rattle.side_info.specs.declared.SideInfo.{SideInfo}
use Rattle.requantize.specs.Requantize.{number_at, requantized_at}
use Rattle.requantize.specs.Standard.{reached}

-- a number's size
abbrev pub size_at : List ℤ → ℕ → ℤ
size_at xs i = pos (nat_abs (number_at xs i))

abbrev pub sizes : List ℤ → List ℤ
sizes xs = tab 576 (size_at xs)

-- its size where the first part has it, and else 1
abbrev pub low_size : ℤ → ℕ
low_size x = cond (ltb (nat_abs x) 4104) (nat_abs x) 1

abbrev pub low_sizes : List ℤ → List ℤ
low_sizes xs = tab 576 (λ i. pos (low_size (number_at xs i)))

-- what its float is multiplied by then
abbrev pub factor : ℤ → Float
factor x = cond (ltb (nat_abs x) 4104) (power 1) (power (nat_abs x))

abbrev pub multiplied : List ℤ → List Float → List Float
multiplied xs fs = tab 576 (λ i. mul binary32 (factor (number_at xs i)) (at fs i))

-- the floats of the sizes stand at each position that is reached
abbrev pub Sized : ℕ → SideInfo → List ℤ → List Float → Type 0
Sized t s xs fs = (i : ℕ) → i < 576 → reached t s i ≡ true → at fs i ≡ requantized_at t s (sizes xs) i
