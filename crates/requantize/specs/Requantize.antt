-- Requantize: one channel's 576 whole numbers to floats. From document 01, "Requantize". Assumes nothing.
use Rattle.std.specs.Prelude.{cond, List, [], ◌∷◌, ℕ, ◌+◌, ◌*◌, ltb, ℤ, pos, ◌-ℤ◌, get_or, Float}
use Rattle.std.specs.Float.{binary32}
use Rattle.std.specs.Float.Ieee.{of_int}
use Rattle.laws.specs.Checks.{Check, check, Answered}
use Rattle.laws.specs.Lists.{tab}
use Rattle.powers.specs.Powers.{gain, product}
use Rattle.side_info.specs.declared.SideInfo.{SideInfo}
use Rattle.bands.specs.Starts.{pretab}
use Rattle.bands.specs.Bands.{table_too_high, long_starts, short_starts, band_at, short_band, short_begin, short_window}
use Rattle.side_info.specs.Kinds.{by_kind}
use Rattle.side_info.specs.Side.{count_too_high, factor_too_high, subblock_gain_too_high, number_too_large}

-- ---- the quarters q of a band

-- "m = 4 if `scalefac_scale` else 2"
abbrev pub multiplier : SideInfo → ℕ
multiplier s = cond s.scalefac_scale 4 2

-- "pre is 0 without `preflag`, else for bands 0 to 21: eleven 0s, 1 1 1 1 2 2 3 3 3 2 0"
abbrev pub pre : SideInfo → ℕ → ℕ
pre s k = cond s.preflag (get_or pretab k 0) 0

-- "Long: q = gain - 210 - m(sf + pre)"
abbrev pub long_quarters : SideInfo → ℕ → ℤ
long_quarters s k = pos s.global_gain -ℤ pos (210 + multiplier s * (get_or s.scalefac_l k 0 + pre s k))

-- "Short: q = gain - 210 - 8 × subblock gain - m × sf, by window"
abbrev pub short_quarters : SideInfo → ℕ → ℕ → ℤ
short_quarters s k win =
    pos s.global_gain -ℤ pos (210 + 8 * get_or s.subblock_gain win 0 + multiplier s * get_or s.scalefac_s (3 * k + win) 0)

-- ---- a position

abbrev pub number_at : List ℤ → ℕ → ℤ
number_at xs i = get_or xs i (pos 0)

-- "Positions not reached hold the raw number"
abbrev pub raw_at : List ℤ → ℕ → Float
raw_at xs i = of_int binary32 (number_at xs i)

-- with the quarters of its long band, or of its short band and window
abbrev pub long_at : ℕ → SideInfo → List ℤ → ℕ → Float
long_at t s xs i = product (number_at xs i) (gain (long_quarters s (band_at (long_starts t) i)))

abbrev pub short_at : ℕ → SideInfo → List ℤ → ℕ → Float
short_at t s xs i = product (number_at xs i) (gain (short_quarters s (short_band (short_starts t) i) (short_window (short_starts t) i)))

-- "Long, Start and End do positions below `count1`"
abbrev pub long_reached : ℕ → SideInfo → List ℤ → ℕ → Float
long_reached t s xs i = cond (ltb i s.count1) (long_at t s xs i) (raw_at xs i)

-- "Short does whole bands (all three windows) while the band's start is below `count1`"
abbrev pub short_reached : ℕ → SideInfo → List ℤ → ℕ → Float
short_reached t s xs i = cond (ltb (short_begin (short_starts t) (short_band (short_starts t) i)) s.count1) (short_at t s xs i) (raw_at xs i)

-- "Mixed does 0 to 35 always with long bands, then short bands from 3 likewise"
abbrev pub mixed_reached : ℕ → SideInfo → List ℤ → ℕ → Float
mixed_reached t s xs i = cond (ltb i 36) (long_at t s xs i) (short_reached t s xs i)

abbrev pub requantized_at : ℕ → SideInfo → List ℤ → ℕ → Float
requantized_at t s xs i = by_kind s.block_type (long_reached t s xs i) (short_reached t s xs i) (mixed_reached t s xs i)

-- ---- the stage

unfoldable pub requantized : ℕ → SideInfo → List ℤ → List Float
requantized t s xs = tab 576 (requantized_at t s xs)

-- "requantize 3 to 7"
abbrev pub requantize_checks : ℕ → SideInfo → List ℤ → List Check
requantize_checks t s xs =
    check 3 (table_too_high t)
    ∷ check 4 (count_too_high s.count1)
    ∷ check 5 (factor_too_high s)
    ∷ check 6 (subblock_gain_too_high s)
    ∷ check 7 (number_too_large xs)
    ∷ []

-- what `requantize` answers: its number, and what it leaves in the room, which held `old`
abbrev pub RequantizeAnswer : ℕ → SideInfo → List ℤ → (old : List Float) → ℕ → List Float → Type 0
RequantizeAnswer t s xs old = Answered (requantize_checks t s xs) old (requantized t s xs)
