-- The 4/3 powers of whole numbers, and a table of them. From document 01, "Powers", and ISO/IEC 11172-3's |is| ^ (4/3). Assumes nothing.
use Rattle.std.specs.Prelude.{List, ◌≡◌, ℕ, ◌+◌, ◌-◌, ◌^◌, ◌<◌, get_or, length, Float}
use Rattle.std.specs.Float.{binary32}
use Rattle.std.specs.Float.Ieee.{of_bits}
use Rattle.nearest.specs.Nearest.{nearest_root}

-- the f32 nearest to n to the 4/3, which is the cube root of n to the fourth
unfoldable pub power : ℕ → Float
power n = nearest_root 3 (n ^ 4) 1

-- "The size-to-4/3 table holds 8,207 entries, 0 to 8206", as patterns: entry n is the pattern of power n
pub record PowerTable (t : List ℕ) : Type 0 where
  pub long : length t ≡ 8207
  pub entry : (n : ℕ) → n < 8207 → of_bits binary32 (get_or t n 0) ≡ power n
  pub number : (n : ℕ) → n < 8207 → get_or t n 0 < 0x7f80_0000

-- its first part, of the powers of 0 to 4103
pub record LowTable (t : List ℕ) : Type 0 where
  pub long : length t ≡ 4104
  pub entry : (n : ℕ) → n < 4104 → of_bits binary32 (get_or t n 0) ≡ power n
  pub number : (n : ℕ) → n < 4104 → get_or t n 0 < 0x7f80_0000

-- its second part, of the powers of 4104 to 8206, behind that of 1: entry n - 4103 is the pattern of power n
pub record HighTable (t : List ℕ) : Type 0 where
  pub long : length t ≡ 4104
  pub one : of_bits binary32 (get_or t 0 0) ≡ power 1
  pub entry : (n : ℕ) → 4103 < n → n < 8207 → of_bits binary32 (get_or t (n - 4103) 0) ≡ power n
  pub number : (k : ℕ) → k < 4104 → get_or t k 0 < 0x7f80_0000

-- the small table beside it: the powers of -255 to 255 with their signs. Entry 255 + n is the pattern of power n, and entry 255 - n the same with the sign bit set
pub record SignedTable (t : List ℕ) : Type 0 where
  pub long : length t ≡ 511
  pub entry : (n : ℕ) → n < 256 → of_bits binary32 (get_or t (255 + n) 0) ≡ power n
  pub number : (n : ℕ) → n < 256 → get_or t (255 + n) 0 < 0x7f80_0000
  pub opposite : (n : ℕ) → 0 < n → n < 256 → get_or t (255 - n) 0 ≡ 0x8000_0000 + get_or t (255 + n) 0
