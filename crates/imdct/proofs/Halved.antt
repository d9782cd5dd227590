-- A half of a short window: its six sums, four of them made and two mirrored, times six entries of the window. Assumes nothing.
use mathlib.Core.Path.{◌≡◌, ap, ◌∙◌}
use mathlib.Core.List.{List, [], ◌∷◌}
use Prim.Native.Nat.{ℕ, zero, suc, ◌+◌, ◌<◌}
use native.Mathlib.Nat.{zero-add}
use native.Mathlib.Omega.{arith}
use lib.Ieee.{Float, nan, binary32, mul, sub}
use Rattle.laws.specs.Lists.{at, tab}
use Rattle.laws.specs.Sum.{zero_f, sum_to}
use Rattle.laws.proofs.Lists.{tab-same}
use Rattle.laws.proofs.Parts.{part, part_at}
use Rattle.imdct.specs.Imdct.{short_term, short_window_place}
use Rattle.imdct.proofs.Mirrored.{first-sum, first-opposed, second_sum, second_mirrored}

six : (f g : ℕ → Float) → f 0 ≡ g 0 → f 1 ≡ g 1 → f 2 ≡ g 2 → f 3 ≡ g 3 → f 4 ≡ g 4 → f 5 ≡ g 5 → (k : ℕ) → k < 6 → f k ≡ g k
six _ _ a b c d e f zero h = a
six _ _ a b c d e f (suc zero) h = b
six _ _ a b c d e f (suc (suc zero)) h = c
six _ _ a b c d e f (suc (suc (suc zero))) h = d
six _ _ a b c d e f (suc (suc (suc (suc zero)))) h = e
six _ _ a b c d e f (suc (suc (suc (suc (suc zero))))) h = f
six _ _ a b c d e f (suc (suc (suc (suc (suc (suc k)))))) h = absurd (omega arith)

module _ (w s : List Float) (i : ℕ) where
  abbrev short_sum : ℕ → Float
  short_sum p = sum_to 6 (short_term s i p)

  -- a sum times its entry of the window
  first : (k : ℕ) {x : Float} → k < 6 → x ≡ short_sum k → mul binary32 x (at (part 0 6 w) k) ≡ short_window_place w s i k
  first k h e = ap (λ (v : Float). mul binary32 v (at (part 0 6 w) k)) e ∙ ap (mul binary32 (short_sum k)) (part_at 0 6 w k nan h ∙ ap (at w) (zero-add k))

  second : (k : ℕ) {x : Float} → k < 6 → x ≡ short_sum (6 + k) → mul binary32 x (at (part 6 12 w) k) ≡ short_window_place w s i (6 + k)
  second k h e = ap (λ (v : Float). mul binary32 v (at (part 6 12 w) k)) e ∙ ap (mul binary32 (short_sum (6 + k))) (part_at 6 12 w k nan h)

  module _ (sums : List Float) where
    abbrev opposed : ℕ → Float
    opposed p = sub binary32 zero_f (at sums p)

    pub first_places :
        {ys : List Float} → sums ≡ tab 4 (λ p. short_sum (0 + p))
        → ys ≡ tab 6 (λ p. mul binary32 (at (at sums 0 ∷ at sums 1 ∷ at sums 2 ∷ at sums 3 ∷ opposed 1 ∷ opposed 0 ∷ []) p) (at (part 0 6 w) p))
        → ys ≡ tab 6 (short_window_place w s i)
    first_places e ey =
        ey
        ∙ tab-same 6 _ _
        (six _ _ (first 0 (omega arith) (first-sum s i e 0 (omega arith))) (first 1 (omega arith) (first-sum s i e 1 (omega arith)))
        (first 2 (omega arith) (first-sum s i e 2 (omega arith))) (first 3 (omega arith) (first-sum s i e 3 (omega arith)))
        (first 4 (omega arith) (first-opposed s i e 0 (omega arith))) (first 5 (omega arith) (first-opposed s i e 1 (omega arith))))

    pub second_places :
        {ys : List Float} → sums ≡ tab 4 (λ p. short_sum (6 + p))
        → ys ≡ tab 6 (λ p. mul binary32 (at (at sums 0 ∷ at sums 1 ∷ at sums 2 ∷ at sums 3 ∷ at sums 1 ∷ at sums 0 ∷ []) p) (at (part 6 12 w) p))
        → ys ≡ tab 6 (λ p. short_window_place w s i (6 + p))
    second_places e ey =
        ey
        ∙ tab-same 6 _ _
        (six _ _ (second 0 (omega arith) (second_sum s i e 0 (omega arith))) (second 1 (omega arith) (second_sum s i e 1 (omega arith)))
        (second 2 (omega arith) (second_sum s i e 2 (omega arith))) (second 3 (omega arith) (second_sum s i e 3 (omega arith)))
        (second 4 (omega arith) (second_mirrored s i e 0 (omega arith))) (second 5 (omega arith) (second_mirrored s i e 1 (omega arith))))
