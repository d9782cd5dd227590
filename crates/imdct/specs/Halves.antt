-- The half of the long transform's sums that is made, and all sums from it. Assumes nothing.
use Rattle.std.specs.Prelude.{cond, List, ℕ, ◌+◌, ◌-◌, ltb, Float}
use Rattle.std.specs.Float.{binary32}
use Rattle.std.specs.Float.Ieee.{sub}
use Rattle.laws.specs.Lists.{at}
use Rattle.laws.specs.Sum.{zero_f}

-- of the 36 places the 18 that others mirror: 0 to 8, and then 18 to 26
abbrev pub half_place : ℕ → ℕ
half_place p = cond (ltb p 9) p (9 + p)

-- all 36 sums from the sums at those places
abbrev pub unfolded : List Float → ℕ → Float
unfolded sums p =
    cond (ltb p 9) (at sums p) (cond (ltb p 18) (sub binary32 zero_f (at sums (17 - p))) (cond (ltb p 27) (at sums (p - 9)) (at sums (44 - p))))
