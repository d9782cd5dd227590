-- Zeros of either sign, and the subbands that hold more than zeros. Assumes nothing.
use Rattle.std.specs.Prelude.{Bool, false, not, cond, List, ℕ, zero, suc, ◌+◌, ◌*◌, eqb, length, Float}
use Rattle.std.specs.Float.{nan, inf, fin}
use Rattle.laws.specs.Checks.{all_to}
use Rattle.laws.specs.Lists.{at}

unfoldable pub is_zero : Float → Bool
is_zero nan = false
is_zero (inf s) = false
is_zero (fin s m e) = eqb m 0

-- each element is a zero
abbrev pub all_zero : List Float → Bool
all_zero l = all_to (length l) (λ i. is_zero (at l i))

-- one more than the last of 0, 1, .., n - 1 at which the test p passes, and 0 where it passes at none
unfoldable pub past_last : ℕ → (ℕ → Bool) → ℕ
past_last zero p = 0
past_last (suc n) p = cond (p n) (suc n) (past_last n p)

-- whether the 18 samples of subband sb are zeros
abbrev pub silent_subband : List Float → ℕ → Bool
silent_subband xs sb = all_to 18 (λ i. is_zero (at xs (18 * sb + i)))

-- how many of the 32 subbands are used: after them come zeros alone
abbrev pub used_subbands : List Float → ℕ
used_subbands xs = past_last 32 (λ sb. not (silent_subband xs sb))
