-- The f32 nearest to a root of a fraction, as a function and as a statement. Assumes nothing.
-- The patterns below 0x7f80_0000 are the finite f32 that are not negative, in order of size, and each is a whole number of times 2 ^ -149, the least f32 above 0.
use Rattle.std.specs.Prelude.{Bool, false, cond, ℕ, zero, suc, ◌+◌, ◌-◌, ◌*◌, ◌/◌, ◌%◌, ◌^◌, ◌<◌, T, ltb, Float}
use Rattle.std.specs.Float.{binary32}
use Rattle.std.specs.Float.Ieee.{of_bits, fits}
use Rattle.std.specs.Float.Ieee.Exact.{HasValue}

-- how many times 2 ^ -149 the f32 is whose exponent's field is x and whose digits are t: with a leading one where the field is not 0
abbrev pub value : ℕ → ℕ → ℕ
value zero t = t
value (suc x) t = (8388608 + t) * 2 ^ x

-- the same by the pattern
unfoldable pub units : ℕ → ℕ
units b = value (b / 8388608) (b % 8388608)

-- the middle between pattern c and the one before it, (units (c - 1) + units c) * 2 ^ -150, lies below the k-th root of num / den
abbrev pub middle_below : ℕ → ℕ → ℕ → ℕ → Bool
middle_below k num den c = ltb ((units (c - 1) + units c) ^ k * den) (num * 2 ^ (150 * k))

-- the largest pattern of which that holds, found bit by bit, from the i-th down, above b
unfoldable pub pattern_from : ℕ → ℕ → ℕ → ℕ → ℕ → ℕ
pattern_from k num den zero b = b
pattern_from k num den (suc i) b = pattern_from k num den i (cond (middle_below k num den (b + 2 ^ i)) (b + 2 ^ i) b)

-- the f32 nearest to the k-th root of num / den
unfoldable pub nearest_root : ℕ → ℕ → ℕ → Float
nearest_root k num den = of_bits binary32 (pattern_from k num den 31 0)

-- What "the f32 nearest to x" is, with no word of patterns. Two statements give x: Below m says that m * 2 ^ -150 lies below x, and Above m that it lies above x. r is an f32 that is not
-- negative, `size` times 2 ^ -149, and x lies strictly nearer to it than to each other f32 that is finite and not negative: above the middle between r and a smaller one, below the
-- middle between r and a larger one. (A negative one lies farther still.)
pub record NearestTo (Below Above : ℕ → Type 0) (r : Float) : Type 0 where
  pub fit : T (fits binary32 r)
  pub size : ℕ
  pub value : HasValue r false size (2 ^ 149)
  pub below : (y : Float) (c : ℕ) → T (fits binary32 y) → HasValue y false c (2 ^ 149) → c < size → Below (c + size)
  pub above : (y : Float) (c : ℕ) → T (fits binary32 y) → HasValue y false c (2 ^ 149) → size < c → Above (size + c)

-- m * 2 ^ -150 lies below the k-th root of num / den, and above it
abbrev pub BelowRoot : (k num den m : ℕ) → Type 0
BelowRoot k num den m = m ^ k * den < num * 2 ^ (150 * k)

abbrev pub AboveRoot : (k num den m : ℕ) → Type 0
AboveRoot k num den m = num * 2 ^ (150 * k) < m ^ k * den

-- r is the f32 nearest to the k-th root of num / den
abbrev pub NearestF32 : (k num den : ℕ) → Float → Type 0
NearestF32 k num den = NearestTo (BelowRoot k num den) (AboveRoot k num den)
