-- Near to an answer's float: document 01 allows requantize a relative 1/1,048,576. Assumes nothing.
-- The sums are in binary64, where they decide exactly. Two f32 are at most 24 digits each, so their difference is exact unless one is more than 2 ^ 28 times the other; and then it is
-- far above the bound, rounded or not. The bound and the factor 2 ^ 20 are exact.
use Rattle.std.specs.Prelude.{Bool, cond, ◌&&◌, ℕ, ◌/◌, eqb, Float}
use Rattle.std.specs.Float.{binary32, binary64}
use Rattle.std.specs.Float.Ieee.{of_bits, to_bits, lt, le, sub, mul, neg}
use Rattle.laws.specs.Finite.{finite}

abbrev pub size : Float → Float
size x = cond (lt x (of_bits binary64 0)) (neg x) x

-- 1 where the float is negative, -0.0 too
abbrev pub sign_of : Float → ℕ
sign_of x = to_bits binary32 x / 2147483648

-- finite numbers of one sign, whose difference times 2 ^ 20 is at most the answer's size
unfoldable pub near : Float → Float → Bool
near ours theirs =
    finite ours && (finite theirs && (eqb (sign_of ours) (sign_of theirs) && le (mul binary64 (size (sub binary64 ours theirs)) (of_bits binary64 4697254411347427328)) (size theirs)))
