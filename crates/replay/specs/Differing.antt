-- How many floats are not as an answer has them. Assumes nothing.
use Rattle.std.specs.Prelude.{Bool, cond, List, ℕ, ◌+◌, ◌*◌, eqb, Float}
use Rattle.std.specs.Float.{binary32}
use Rattle.std.specs.Float.Ieee.{to_bits}
use Rattle.laws.specs.Lists.{at}
use Rattle.little_endian.specs.Bytes.{float_at}
use Rattle.replay.specs.Misses.{misses}
use Rattle.replay.specs.Near.{near}

-- the same bits in both, any NaN counting as any other
abbrev pub same : Float → Float → Bool
same ours theirs = eqb (to_bits binary32 ours) (to_bits binary32 theirs)

-- near is enough where the comparison is loose
abbrev pub agrees : Bool → Float → Float → Bool
agrees loose ours theirs = cond loose (near ours theirs) (same ours theirs)

-- of the first n floats of xs and those that stand in the bytes s from `from` on
abbrev pub differences : Bool → List Float → List ℕ → ℕ → ℕ → ℕ
differences loose xs s from n = misses (λ k. agrees loose (at xs k) (float_at s (from + 4 * k))) n
