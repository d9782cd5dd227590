-- Requantize by ISO/IEC 11172-3: xr = sign(is) · |is| ^ (4/3) · 2 ^ ((global_gain - 210) / 4) · 2 ^ (-mult · (scalefac_l + preflag · pretab)) in long blocks, and with
-- 8 · subblock_gain taken from the gain, and no preflag, in short ones. Assumes nothing.
use Rattle.std.specs.Prelude.{◌≡◌, Bool, cond, ◌||◌, ℕ, ◌+◌, ◌*◌, ◌^◌, ltb, ℤ, pos, nat_abs, ◌-ℤ◌, get_or, Float}
use Rattle.std.specs.Float.{binary32}
use Rattle.std.specs.Float.Ieee.{mul, up, down}
use Rattle.nearest.specs.Nearest.{NearestF32}
use Rattle.powers.specs.Powers.{signed}
use Rattle.side_info.specs.declared.SideInfo.{SideInfo}
use Rattle.bands.specs.Starts.{pretab}
use Rattle.bands.specs.Bands.{long_starts, short_starts, band_at, short_band, short_begin, short_window}
use Rattle.side_info.specs.Kinds.{by_kind}

-- the float nearest to the power, times the float nearest to the gain of q quarters, rounded once, with the sign of x
pub record Scaled (x q : ℤ) (r : Float) : Type 0 where
  pub p : Float
  pub g : Float
  pub is_power : NearestF32 3 (nat_abs x ^ 4) 1 p
  pub is_gain : NearestF32 4 (up q) (down q) g
  pub is : r ≡ signed x (mul binary32 p g)

-- ---- the exponent, in quarters

-- mult in halves: one half, or one where scalefac_scale is set
abbrev pub halves : SideInfo → ℕ
halves s = cond s.scalefac_scale 2 1

-- preflag as a number
abbrev pub preflag : SideInfo → ℕ
preflag s = cond s.preflag 1 0

-- 4 · mult is twice the halves
abbrev pub standard_long : SideInfo → ℕ → ℤ
standard_long s k = pos s.global_gain -ℤ pos 210 -ℤ pos (2 * halves s * (get_or s.scalefac_l k 0 + preflag s * get_or pretab k 0))

abbrev pub standard_short : SideInfo → ℕ → ℕ → ℤ
standard_short s k win =
    pos s.global_gain -ℤ pos 210 -ℤ pos (8 * get_or s.subblock_gain win 0) -ℤ pos (2 * halves s * get_or s.scalefac_s (3 * k + win) 0)

-- ---- each position

-- the standard's exponent at position i, by the block type
abbrev pub standard_at : ℕ → SideInfo → ℕ → ℤ
standard_at t s i =
    let long = standard_long s (band_at (long_starts t) i) in
    let short = standard_short s (short_band (short_starts t) i) (short_window (short_starts t) i) in
    by_kind s.block_type long short (cond (ltb i 36) long short)

-- whether position i is reached
abbrev pub reached : ℕ → SideInfo → ℕ → Bool
reached t s i =
    let short = ltb (short_begin (short_starts t) (short_band (short_starts t) i)) s.count1 in
    by_kind s.block_type (ltb i s.count1) short (ltb i 36 || short)
