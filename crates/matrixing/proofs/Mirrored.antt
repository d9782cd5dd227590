-- The places of a slot's matrixing that mirror others, the one in the middle, and the samples that add nothing. Assumes nothing.
use mathlib.Core.Path.{◌≡◌, sym, ap, ◌∙◌}
use mathlib.Core.Bool.{true}
use mathlib.Core.List.{List}
use Prim.Native.Nat.{ℕ, ◌+◌, ◌-◌, ◌<◌, ◌≤◌}
use native.Mathlib.Omega.{arith}
use lib.Ieee.{Float, binary32, sub, mul}
use lib.Ieee.Fits.{mul-fits}
use Rattle.laws.specs.Finite.{finite}
use Rattle.laws.specs.Lists.{at, row}
use Rattle.laws.specs.Sum.{zero_f, sum_to}
use Rattle.laws.proofs.Mirror.{Fit, products-mirror}
use Rattle.laws.proofs.Silence.{sum_tail, sum-silent, sum-terms, left-finite}
use Rattle.laws.proofs.Sum.{sum_same}
use Rattle.laws.proofs.Zeros.{Zero, zero_is, zero-mul-right}
use Rattle.synthesis_tables.specs.Matrixing.{matrixing}
use Rattle.synthesis_tables.proofs.Symmetries.{matrixing-rows}
use Rattle.matrixing.specs.Matrixing.{matrixed_at}

abbrev term : List Float → ℕ → ℕ → Float
term s i j = mul binary32 (at s j) (at (row matrixing j) i)

term_fits : (s : List Float) (i n : ℕ) → Fit n (term s i)
term_fits s i n j l = mul-fits binary32 (at s j) (at (row matrixing j) i)

module _ (s : List Float) where
  -- an equation of entries, in each of the terms
  term-same : {a : Float} (j i : ℕ) → at (row matrixing j) i ≡ a → term s i j ≡ mul binary32 (at s j) a
  term-same j i e = ap (mul binary32 (at s j)) e

  -- places 17 to 32: +0.0 minus places 15 to 0
  pub opposed-at : (i : ℕ) → i < 16 → matrixed_at s (32 - i) ≡ sub binary32 zero_f (matrixed_at s i)
  opposed-at i h = products-mirror 32 (at s) (λ j. at (row matrixing j) i) (λ j. at (row matrixing j) (32 - i)) (λ j l. (matrixing-rows j l).opposed i h)

  -- places 49 to 63: places 47 to 33
  pub mirrored-at : (i : ℕ) → i < 16 → matrixed_at s (48 + i) ≡ matrixed_at s (48 - i)
  mirrored-at i h = sum_same 32 (term s (48 + i)) (term s (48 - i)) (λ j l. term-same j (48 + i) ((matrixing-rows j l).mirrored i h))

  -- place 16: the table has +0.0 there
  pub middle-at : matrixed_at s 16 ≡ sum_to 32 (λ j. mul binary32 (at s j) zero_f)
  middle-at = sum_same 32 (term s 16) _ (λ j l. term-same j 16 (matrixing-rows j l).middle)

  -- and the sum is +0.0 where the one at place 0 is finite: then each sample is
  pub middle-none : finite (matrixed_at s 0) ≡ true → zero_f ≡ matrixed_at s 16
  middle-none h =
      sym (middle-at ∙ sum-silent 32 (λ j. mul binary32 (at s j) zero_f) (λ j l. mul-fits binary32 (at s j) zero_f)
      (λ j l. zero-mul-right zero_is (at s j) (left-finite (at s j) (at (row matrixing j) 0) (sum-terms 32 (term s 0) h j l))))

  -- where the samples from `used` on add zeros, the sum may stop there
  pub used_at : (i used : ℕ) → used ≤ 32 → ((j : ℕ) → used ≤ j → j < 32 → Zero (term s i j)) → sum_to used (term s i) ≡ matrixed_at s i
  used_at i used u z =
      let whole : 32 - used + used ≡ 32 = omega arith in
      sym (sum_tail used (32 - used) (term s i) (term_fits s i (32 - used + used)) (λ j a l. z j a (omega arith))) ∙ ap (λ (n : ℕ). sum_to n (term s i)) whole
