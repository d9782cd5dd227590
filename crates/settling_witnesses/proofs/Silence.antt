-- A long block of zeros through the float stages, at either edition: every place after each stage is a zero, but for what the overlap adds. For the witness and the counterexample of the
-- settling theorem. Assumes nothing.
use mathlib.Core.Path.{◌≡◌, sym, subst}
use mathlib.Core.Bool.{true}
use mathlib.Core.List.{List}
use Prim.Native.Nat.{ℕ, ◌+◌, ◌-◌, ◌*◌, ◌/◌, ◌%◌, ◌<◌, ◌≤◌}
use native.Mathlib.Omega.{arith}
use lib.Dec.{T, eqb, ltb}
use lib.Ieee.{Float, nan, binary32, of_bits, mul}
use lib.Ieee.Bits.{is_true}
use borrow.Author.Tests.{ltb-true, ltb-false}
use Rattle.laws.specs.Finite.{finite}
use Rattle.laws.specs.Lists.{at, row}
use Rattle.laws.proofs.Table.{every, at_place}
use Rattle.laws.proofs.Zeros.{Zero, zero_is, zero-neg, zero-add, zero-sub, zero-sum, zero-mul-left, zero-cond, Zeros, zero-at, zeros_tab}
use Rattle.tables.specs.Antialias.{cs, cs_bits, ca, ca_bits}
use Rattle.synthesis_tables.specs.Matrixing.{matrixing}
use Rattle.side_info.specs.declared.BlockType.TheVariants.{Long}
use Rattle.side_info.specs.declared.Edition.{Edition}
use Rattle.antialias.specs.Antialias.{lower, upper, lower_after, upper_after, antialiased_at, antialiased}
use Rattle.imdct.proofs.Silent.{silent-place}
use Rattle.imdct.specs.Imdct.{place_of}
use Rattle.hybrid.specs.Hybrid.{places_of, subband_of, hybrid_at, hybrid, overlap_at, overlap_after}
use Rattle.inversion.specs.Inversion.{inverted_at, inverted}
use Rattle.matrixing.specs.Matrixing.{matrixed_at, matrixed}
use Rattle.matrixing.proofs.Slot.{entry-finite}

-- ---- the alias constants are finite

alias_test : T (every (λ p x. finite x) 0 cs) × T (every (λ p x. finite x) 0 ca)
unfolding cs cs_bits ca ca_bits of_bits finite
alias_test = (tt, tt)

cs-finite : (i : ℕ) → i < 8 → finite (at cs i) ≡ true
unfolding cs cs_bits
cs-finite i h = is_true (finite (at cs i)) (at_place nan (λ p x. finite x) cs alias_test.0 i h)

ca-finite : (i : ℕ) → i < 8 → finite (at ca i) ≡ true
unfolding ca ca_bits
ca-finite i h = is_true (finite (at ca i)) (at_place nan (λ p x. finite x) ca alias_test.1 i h)

-- ---- the stages

module _ (xs : List Float) (z : Zeros 576 xs) where
  pub alias_zeros : Zeros 576 (antialiased Long xs)
  unfolding antialiased
  alias_zeros = zeros_tab 576 (antialiased_at 32 xs) (λ k l.
      let sb = k / 18 in
      let i = k % 18 in
      zero-cond (ltb i 8)
      (λ e. zero-cond (ltb 0 sb) (λ f. zero-cond (ltb sb 32) (λ g. upper-zero sb i (ltb-true _ _ f) (ltb-true _ _ g) (ltb-true _ _ e)) (λ g. z k l)) (λ f. z k l))
      (λ e. zero-cond (ltb i 10) (λ f. z k l)
      (λ f. zero-cond (ltb (sb + 1) 32) (λ g. lower-zero (sb + 1) (17 - i) (omega arith) (ltb-true _ _ g) (under i (ltb-false _ _ f))) (λ g. z k l))))
    where
      under : (r : ℕ) → 10 ≤ r → 17 - r < 8
      under r h = omega arith

      by-cs : (k i : ℕ) → k < 576 → i < 8 → Zero (mul binary32 (at xs k) (at cs i))
      by-cs k i h l = zero-mul-left (z k h) (at cs i) (cs-finite i l)

      by-ca : (k i : ℕ) → k < 576 → i < 8 → Zero (mul binary32 (at xs k) (at ca i))
      by-ca k i h l = zero-mul-left (z k h) (at ca i) (ca-finite i l)

      upper-zero : (sb i : ℕ) → 0 < sb → sb < 32 → i < 8 → Zero (upper_after xs sb i)
      upper-zero sb i h k l = zero-add (by-cs (upper sb i) i (omega arith) l) (by-ca (lower sb i) i (omega arith) l)

      lower-zero : (sb i : ℕ) → 0 < sb → sb < 32 → i < 8 → Zero (lower_after xs sb i)
      lower-zero sb i h k l = zero-sub (by-cs (lower sb i) i (omega arith) l) (by-ca (upper sb i) i (omega arith) l)

module _ (e : Edition) (xs : List Float) (z : Zeros 576 xs) where
  -- the windowed transform of a subband
  pub places_zeros : (sb : ℕ) → sb < 32 → Zeros 36 (places_of e Long xs sb)
  unfolding places_of subband_of
  places_zeros sb h = zeros_tab 36 (place_of e 0 (subband_of xs sb)) (λ p l.
      subst Zero (sym (silent-place (subband_of xs sb) (λ i q y f. zero-mul-left (zero-at 18 (λ i. at xs (18 * sb + i)) i q (z (18 * sb + i) (omega arith))) y f) e 0 p (omega arith) l)) zero_is)

  pub overlap_zeros : Zeros 576 (overlap_after e Long xs)
  unfolding overlap_after
  overlap_zeros = zeros_tab 576 (overlap_at e Long xs) (λ k l. places_zeros (k / 18) (omega arith) (k % 18 + 18) (omega arith))

-- hybrid adds the overlap to zeros
module _ (e : Edition) (xs os : List Float) (z : Zeros 576 xs) where
  pub hybrid-zero : (k : ℕ) → k < 576 → Zero (at os k) → Zero (at (hybrid e Long xs os) k)
  unfolding hybrid
  hybrid-zero k l o = zero-at 576 (hybrid_at e Long xs os) k l (zero-add (places_zeros e xs z (k / 18) (omega arith) (k % 18) (omega arith)) o)

-- inversion keeps a zero
pub inverted-zero : (xs : List Float) (k : ℕ) → k < 576 → Zero (at xs k) → Zero (at (inverted xs) k)
unfolding inverted
inverted-zero xs k l z =
    zero-at 576 (inverted_at xs) k l
    (zero-cond (eqb (k / 18 % 2) 1) (λ e. zero-cond (eqb (k % 18 % 2) 1) (λ f. zero-neg z) (λ f. z)) (λ e. z))

-- a slot of zeros
pub matrixed_zeros : (s : List Float) → Zeros 32 s → Zeros 64 (matrixed s)
unfolding matrixed
matrixed_zeros s z = zeros_tab 64 (matrixed_at s) (λ i l. zero-sum 32 _ (λ j q. zero-mul-left (z j q) (at (row matrixing j) i) (entry-finite j i q l)))
