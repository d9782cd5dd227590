-- The gains, and a power times a gain. From document 01, "Powers" and "Requantize", and ISO/IEC 11172-3's 2 ^ (q/4). Assumes nothing.
use Rattle.std.specs.Prelude.{ℤ, pos, negsuc, nat_abs, Float}
use Rattle.std.specs.Float.{binary32}
use Rattle.std.specs.Float.Ieee.{mul, neg, up, down}
use Rattle.nearest.specs.Nearest.{nearest_root}
use Rattle.power_table.specs.Power.{power}

-- the f32 nearest to 2 to the q/4, which is the fourth root of 2 to the q = up q / down q
unfoldable pub gain : ℤ → Float
gain q = nearest_root 4 (up q) (down q)

-- the sign of the input
abbrev pub signed : ℤ → Float → Float
signed (pos n) v = v
signed (negsuc n) v = neg v

-- power times gain, one f32 rounding, sign of the input
abbrev pub product : ℤ → Float → Float
product x g = signed x (mul binary32 (power (nat_abs x)) g)
