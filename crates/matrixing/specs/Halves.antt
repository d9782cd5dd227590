-- The half of a slot's sums that is made, and its 64 places from it. Assumes nothing.
use Rattle.std.specs.Prelude.{cond, List, ℕ, ◌+◌, ◌-◌, ◌*◌, ◌/◌, ltb, Float}
use Rattle.std.specs.Float.{binary32}
use Rattle.std.specs.Float.Ieee.{sub}
use Rattle.laws.specs.Lists.{at}
use Rattle.laws.specs.Sum.{zero_f}

-- of the 64 places the 32 whose sums are made: 0 to 15, and then 48 to 63
abbrev pub half_place : ℕ → ℕ
half_place i = i + 32 * (i / 16)

-- all 64 places from the sums at those, and m at place 16
abbrev pub unfolded : List Float → Float → ℕ → Float
unfolded sums m q = cond (ltb q 16) (at sums q) (cond (ltb q 17) m (cond (ltb q 33) (sub binary32 zero_f (at sums (32 - q))) (cond (ltb q 48) (at sums (64 - q)) (at sums (q - 32)))))
