-- Numbers out of bytes and into bytes, the low byte first, from a place on. Assumes nothing.
use Rattle.std.specs.Prelude.{List, ℕ, ◌+◌, ◌*◌, ◌/◌, ◌%◌, ◌^◌, ◌<◌, ℤ, length, get_or, set, Float}
use Rattle.std.specs.Float.{binary32}
use Rattle.std.specs.Float.Ieee.{of_bits, to_bits}
use Rattle.std.specs.Int.{w16}
use Rattle.std.proofs.Common.{to_z}
use Rattle.laws.specs.Lists.{at, tab, filled}

-- ---- out of bytes

abbrev pub byte_at : List ℕ → ℕ → ℕ
byte_at s at = get_or s at 0

-- each number of a list is a byte
abbrev pub AllBytes : List ℕ → Type 0
AllBytes s = (i : ℕ) → i < length s → byte_at s i < 256

-- two bytes, the low one first
abbrev pub half_at : List ℕ → ℕ → ℕ
half_at s at = byte_at s at + 256 * byte_at s (at + 1)

-- four bytes, the low ones first
abbrev pub word_at : List ℕ → ℕ → ℕ
word_at s at = half_at s at + 65536 * half_at s (at + 2)

-- two bytes in two's complement
abbrev pub signed_at : List ℕ → ℕ → ℤ
signed_at s at = to_z w16 (half_at s at)

-- the float of four bytes
abbrev pub float_at : List ℕ → ℕ → Float
float_at s at = of_bits binary32 (word_at s at)

-- n of them, one after the other
unfoldable pub bytes_from : List ℕ → ℕ → ℕ → List ℕ
bytes_from s at n = tab n (λ i. byte_at s (at + i))

unfoldable pub signeds_from : List ℕ → ℕ → ℕ → List ℤ
signeds_from s at n = tab n (λ i. signed_at s (at + 2 * i))

unfoldable pub floats_from : List ℕ → ℕ → ℕ → List Float
floats_from s at n = tab n (λ i. float_at s (at + 4 * i))

-- ---- into bytes: a list with a number's bytes stored in it from a place on

abbrev pub half_put : ℕ → ℕ → List ℕ → List ℕ
half_put half at to = set (set to at (half % 256)) (at + 1) (half / 256 % 256)

abbrev pub word_put : ℕ → ℕ → List ℕ → List ℕ
word_put word at to = half_put (word / 65536) (at + 2) (half_put (word % 65536) at to)

-- byte k of the bits of floats, four to each, the low one first
abbrev pub float_byte : List Float → ℕ → ℕ
float_byte x k = to_bits binary32 (at x (k / 4)) / 256 ^ (k % 4) % 256

-- the first n floats of x at the front of a list
abbrev pub floats_put : ℕ → List Float → List ℕ → List ℕ
floats_put n x to = filled (4 * n) (float_byte x) to
