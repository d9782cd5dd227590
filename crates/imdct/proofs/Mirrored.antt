-- The sums of the transforms that others mirror, and all sums from those. Assumes nothing.
use mathlib.Core.Path.{◌≡◌, sym, ap, ◌∙◌}
use mathlib.Core.List.{List}
use Prim.Native.Nat.{ℕ, ◌+◌, ◌-◌, ◌*◌, ◌<◌, ◌≤◌}
use native.Mathlib.Nat.{zero-add}
use native.Mathlib.Decide.{dec_lt}
use native.Mathlib.Omega.{arith}
use lib.Ieee.{Float, nan, binary32, mul, sub}
use borrow.Author.Tests.{lt-ltb, le-ltb}
use Rattle.laws.specs.Lists.{at, row, tab}
use Rattle.laws.specs.Sum.{zero_f, sum_to}
use Rattle.laws.proofs.Lists.{tab-place}
use Rattle.laws.proofs.Mirror.{products-mirror}
use Rattle.laws.proofs.Sum.{sum_same}
use Rattle.tables.specs.Symmetries.{CosineRow}
use Rattle.tables.specs.Cosines.{cos_n36, cos_n12}
use Rattle.tables.proofs.Symmetries.{n36_rows, n12_rows}
use Rattle.imdct.specs.Imdct.{long_term, short_term}
use Rattle.imdct.specs.Halves.{half_place, unfolded}

-- any samples x over n rows of cosines of a transform of 4q places
module _ (t : List (List Float)) (q n : ℕ) (rows : (m : ℕ) → m < n → CosineRow q (row t m)) (x : ℕ → Float) (p : ℕ) where
  opposed : p < q → sub binary32 zero_f (sum_to n (λ m. mul binary32 (x m) (at (row t m) p))) ≡ sum_to n (λ m. mul binary32 (x m) (at (row t m) (2 * q - 1 - p)))
  opposed h = sym (products-mirror n x (λ m. at (row t m) p) (λ m. at (row t m) (2 * q - 1 - p)) (λ m l. (rows m l).opposed p h))

  mirrored : 2 * q ≤ p → p < 3 * q → sum_to n (λ m. mul binary32 (x m) (at (row t m) p)) ≡ sum_to n (λ m. mul binary32 (x m) (at (row t m) (6 * q - 1 - p)))
  mirrored g h = sum_same n _ _ (λ m l. ap (mul binary32 (x m)) (sym ((rows m l).mirrored p g h)))

-- ---- the long transform

module _ (s : List Float) where
  abbrev long_sum : ℕ → Float
  long_sum p = sum_to 18 (long_term s p)

  long-opposed : (p : ℕ) → p < 9 → sub binary32 zero_f (long_sum p) ≡ long_sum (17 - p)
  long-opposed p h = opposed cos_n36 9 18 n36_rows (at s) p h

  long-mirrored : (p : ℕ) → 18 ≤ p → p < 27 → long_sum p ≡ long_sum (53 - p)
  long-mirrored p g h = mirrored cos_n36 9 18 n36_rows (at s) p g h

  module _ {sums : List Float} (e : sums ≡ tab 18 (λ q. long_sum (half_place q))) where
    low : (p : ℕ) → p < 9 → at sums p ≡ long_sum p
    low p h = tab-place 18 (λ q. long_sum (half_place q)) p nan e (omega arith) ∙ rw (lt-ltb p 9 h)

    high : (p : ℕ) → 18 ≤ p → p < 27 → at sums (p - 9) ≡ long_sum p
    high p g h =
        let back : 9 + (p - 9) ≡ p = omega arith in
        tab-place 18 (λ q. long_sum (half_place q)) (p - 9) nan e (omega arith) ∙ rw (le-ltb (p - 9) 9 (omega arith), back)

    -- each of the 36 sums
    place : (p : ℕ) → p < 36 → Dec (p < 9) → Dec (p < 18) → Dec (p < 27) → unfolded sums p ≡ long_sum p
    place p h (yes a) _ _ = rw (lt-ltb p 9 a) (low p a)
    place p h (no a) (yes b) _ =
        let back : 17 - (17 - p) ≡ p = omega arith in
        rw (le-ltb p 9 (omega arith), lt-ltb p 18 b) (ap (sub binary32 zero_f) (low (17 - p) (omega arith)) ∙ long-opposed (17 - p) (omega arith) ∙ ap long_sum back)
    place p h (no a) (no b) (yes c) =
        rw (le-ltb p 9 (omega arith), le-ltb p 18 (omega arith), lt-ltb p 27 c) (high p (omega arith) c)
    place p h (no a) (no b) (no c) =
        let there : 53 - p - 9 ≡ 44 - p = omega arith in
        let back : 53 - (53 - p) ≡ p = omega arith in
        rw (le-ltb p 9 (omega arith), le-ltb p 18 (omega arith), le-ltb p 27 (omega arith), ← there)
        (high (53 - p) (omega arith) (omega arith) ∙ long-mirrored (53 - p) (omega arith) (omega arith) ∙ ap long_sum back)

    pub unfolded-sum : {all : List Float} → all ≡ tab 36 (unfolded sums) → (p : ℕ) → p < 36 → at all p ≡ long_sum p
    unfolded-sum u p h = tab-place 36 (unfolded sums) p nan u h ∙ place p h (dec_lt p 9) (dec_lt p 18) (dec_lt p 27)

-- ---- a short window

module _ (s : List Float) (i : ℕ) where
  abbrev short_sum : ℕ → Float
  short_sum p = sum_to 6 (short_term s i p)

  short-opposed : (p : ℕ) → p < 3 → sub binary32 zero_f (short_sum p) ≡ short_sum (5 - p)
  short-opposed p h = opposed cos_n12 3 6 n12_rows (λ m. at s (i + 3 * m)) p h

  short-mirrored : (p : ℕ) → 6 ≤ p → p < 9 → short_sum p ≡ short_sum (17 - p)
  short-mirrored p g h = mirrored cos_n12 3 6 n12_rows (λ m. at s (i + 3 * m)) p g h

  -- a window's first half from the sums at places 0 to 3
  module _ {sums : List Float} (e : sums ≡ tab 4 (λ p. short_sum (0 + p))) (p : ℕ) where
    pub first-sum : p < 4 → at sums p ≡ short_sum p
    first-sum h = tab-place 4 (λ p. short_sum (0 + p)) p nan e h ∙ ap short_sum (zero-add p)

    pub first-opposed : p < 2 → sub binary32 zero_f (at sums (1 - p)) ≡ short_sum (4 + p)
    first-opposed h =
        let back : 5 - (0 + (1 - p)) ≡ 4 + p = omega arith in
        ap (sub binary32 zero_f) (tab-place 4 (λ p. short_sum (0 + p)) (1 - p) nan e (omega arith)) ∙ short-opposed (0 + (1 - p)) (omega arith) ∙ ap short_sum back

  -- and its second half from the sums at places 6 to 9
  module _ {sums : List Float} (e : sums ≡ tab 4 (λ p. short_sum (6 + p))) (p : ℕ) where
    pub second_sum : p < 4 → at sums p ≡ short_sum (6 + p)
    second_sum h = tab-place 4 (λ p. short_sum (6 + p)) p nan e h

    pub second_mirrored : p < 2 → at sums (1 - p) ≡ short_sum (10 + p)
    second_mirrored h =
        let back : 17 - (6 + (1 - p)) ≡ 10 + p = omega arith in
        tab-place 4 (λ p. short_sum (6 + p)) (1 - p) nan e (omega arith) ∙ short-mirrored (6 + (1 - p)) (omega arith) (omega arith) ∙ ap short_sum back
