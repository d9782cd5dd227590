-- Sums of f32 numbers, in the order that the paper fixes. Assumes nothing.
use Rattle.std.specs.Prelude.{ℕ, zero, suc, Float}
use Rattle.std.specs.Float.{binary32}
use Rattle.std.specs.Float.Ieee.{add, of_bits}

-- +0.0
abbrev pub zero_f : Float
zero_f = of_bits binary32 0

-- f 0 + f 1 + .. + f (n - 1): from +0.0, ascending, rounded at each step
unfoldable pub sum_to : ℕ → (ℕ → Float) → Float
sum_to zero f = zero_f
sum_to (suc n) f = add binary32 (sum_to n f) (f n)
