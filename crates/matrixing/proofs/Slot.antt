-- A slot's sums as they are made: from the granule's samples, up to the last subband that is used. Assumes nothing.
use mathlib.Core.Path.{◌≡◌, sym, ap, subst, ◌∙◌}
use mathlib.Core.Bool.{true}
use mathlib.Core.List.{List}
use Prim.Native.Nat.{ℕ, ◌+◌, ◌*◌, ◌<◌, ◌≤◌}
use native.Mathlib.Omega.{arith}
use lib.Dec.{T}
use lib.Ieee.{Float, nan, binary32, of_bits, mul}
use Rattle.laws.specs.Finite.{finite}
use Rattle.laws.specs.Lists.{at, row}
use Rattle.laws.specs.Sum.{zero_f, sum_to}
use Rattle.laws.proofs.Lists.{get_d_tab}
use Rattle.laws.proofs.Sum.{sum_same}
use Rattle.laws.proofs.Table.{entries, entry_passes}
use Rattle.laws.proofs.Zeros.{Zero}
use Rattle.synthesis_tables.specs.Matrixing.{matrixing_bits, matrixing}
use Rattle.silence.specs.Silence.{used_subbands}
use Rattle.silence.proofs.Silent.{used_most, unused_zero}
use Rattle.silence.proofs.Zero.{zero-times-finite}
use Rattle.matrixing.specs.Matrixing.{slot_samples, matrixed_at}
use Rattle.matrixing.proofs.Mirrored.{middle-at, used_at}

-- ---- the table's numbers are finite

finite-test : T (entries finite 64 matrixing)
unfolding matrixing matrixing_bits of_bits finite
finite-test = tt

pub entry-finite : (j i : ℕ) → j < 32 → i < 64 → finite (at (row matrixing j) i) ≡ true
unfolding matrixing matrixing_bits
entry-finite j i h k = entry_passes finite matrixing 64 finite-test j h i k

-- ---- the samples of slot n

module _ (xs : List Float) (n : ℕ) where
  sample-at : (j : ℕ) → j < 32 → at (slot_samples xs n) j ≡ at xs (18 * j + n)
  unfolding slot_samples
  sample-at j h = let e : j * 18 + n ≡ 18 * j + n = omega arith in get_d_tab 32 (λ j. at xs (j * 18 + n)) j nan h ∙ ap (at xs) e

  -- sums of the granule's samples, times any numbers
  from_samples : (used : ℕ) → used ≤ 32 → (c : ℕ → Float) → sum_to used (λ j. mul binary32 (at xs (18 * j + n)) (c j)) ≡ sum_to used (λ j. mul binary32 (at (slot_samples xs n) j) (c j))
  from_samples used u c = sum_same used _ _ (λ j l. ap (λ (x : Float). mul binary32 x (c j)) (sym (sample-at j (omega arith))))

  pub middle_summed : sum_to 32 (λ j. mul binary32 (at xs (18 * j + n)) zero_f) ≡ matrixed_at (slot_samples xs n) 16
  middle_summed = from_samples 32 (omega arith) (λ j. zero_f) ∙ sym (middle-at (slot_samples xs n))

  module _ (used : ℕ) (is : used ≡ used_subbands xs) (h : n < 18) (i : ℕ) (k : i < 64) where
    most : used ≤ 32
    most = rw is (used_most xs)

    unused_term : (j : ℕ) → used ≤ j → j < 32 → Zero (mul binary32 (at (slot_samples xs n) j) (at (row matrixing j) i))
    unused_term j u l =
        subst (λ (x : Float). Zero (mul binary32 x (at (row matrixing j) i))) (sym (sample-at j l))
        (zero-times-finite (at xs (18 * j + n)) (at (row matrixing j) i) (unused_zero xs (18 * j + n) (omega arith) (omega arith)) (entry-finite j i l k))

    pub used_summed : sum_to used (λ j. mul binary32 (at xs (18 * j + n)) (at (row matrixing j) i)) ≡ matrixed_at (slot_samples xs n) i
    used_summed = from_samples used most (λ j. at (row matrixing j) i) ∙ used_at (slot_samples xs n) i used most unused_term
