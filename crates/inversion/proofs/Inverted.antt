-- What inversion makes of a granule: it negates the odd places of odd subbands, 144 in all, by their highest bits, and leaves the others; twice it restores all. Assumes nothing.
use mathlib.Core.Path.{◌≡◌, refl, sym, ap, ◌∙◌}
use mathlib.Core.Bool.{Bool, true, false, cond, ◌&&◌}
use mathlib.Core.List.{List}
use Prim.Native.Nat.{ℕ, ◌/◌, ◌%◌, ◌<◌}
use native.Mathlib.Decide.{ℕ_discrete}
use lib.Bits.{bit_xor}
use lib.Dec.{eqb}
use lib.ListN.{length}
use lib.Ieee.{Float, nan, binary32, neg, of_bits}
use borrow.Author.Tests.{eq-eqb, ne_eqb}
use Rattle.laws.specs.Checks.{count_to}
use Rattle.laws.specs.Lists.{at}
use Rattle.laws.proofs.Lists.{get_d_tab, tab-same, tab-at}
use Rattle.laws.proofs.Bits.{neg_turned}
use Rattle.laws.proofs.Negation.{neg_twice}
use Rattle.inversion.specs.Inversion.{inverted_at, inverted}
use Rattle.inversion.proofs.Negated.{even_kept}

module _ (xs : List Float) (k : ℕ) where
  rule : k < 576 → at (inverted xs) k ≡ inverted_at xs k
  unfolding inverted
  rule h = get_d_tab 576 (inverted_at xs) k nan h

  pub odd_negated : k < 576 → k / 18 % 2 ≡ 1 → k % 18 % 2 ≡ 1 → at (inverted xs) k ≡ neg (at xs k)
  odd_negated h a b = rule h ∙ rw (eq-eqb (k / 18 % 2) 1 a, eq-eqb (k % 18 % 2) 1 b)

  -- of any float, on its bits: the highest one alone is turned over; of a NaN it says no more than that it stays one
  pub bit_turned :
      k < 576 → k / 18 % 2 ≡ 1 → k % 18 % 2 ≡ 1 → (b : ℕ) → b < 4294967296 → at xs k ≡ of_bits binary32 b → at (inverted xs) k ≡ of_bits binary32 (bit_xor b 2147483648)
  bit_turned h o p b l e = odd_negated h o p ∙ ap neg e ∙ sym (neg_turned b l)

  pub even_subband_kept : k < 576 → (k / 18 % 2 ≡ 1 → ⊥) → at (inverted xs) k ≡ at xs k
  even_subband_kept h a = rule h ∙ even_kept xs k a

  pub even_place_kept : k < 576 → (k % 18 % 2 ≡ 1 → ⊥) → at (inverted xs) k ≡ at xs k
  even_place_kept h b = rule h ∙ kept (eqb (k / 18 % 2) 1)
    where
      kept : (t : Bool) → cond t (cond (eqb (k % 18 % 2) 1) (neg (at xs k)) (at xs k)) (at xs k) ≡ at xs k
      kept true = rw (ne_eqb (k % 18 % 2) 1 b)
      kept false = refl

pub negated_144 : count_to 576 (λ k. eqb (k / 18 % 2) 1 && eqb (k % 18 % 2) 1) ≡ 144
unfolding count_to
negated_144 = refl

pub twice_restores : (xs : List Float) → length xs ≡ 576 → inverted (inverted xs) ≡ xs
unfolding inverted
twice_restores xs e =
    tab-same 576 (inverted_at (inverted xs)) (at xs) (λ k h. place k h (ℕ_discrete (k / 18 % 2) 1) (ℕ_discrete (k % 18 % 2) 1)) ∙ tab-at 576 xs nan e
  where
    place : (k : ℕ) → k < 576 → Dec (k / 18 % 2 ≡ 1) → Dec (k % 18 % 2 ≡ 1) → inverted_at (inverted xs) k ≡ at xs k
    place k h (yes a) (yes b) = rw (eq-eqb (k / 18 % 2) 1 a, eq-eqb (k % 18 % 2) 1 b, odd_negated xs k h a b) (neg_twice (at xs k))
    place k h (yes a) (no b) = rw (eq-eqb (k / 18 % 2) 1 a, ne_eqb (k % 18 % 2) 1 b) (even_place_kept xs k h b)
    place k h (no a) _ = rw (ne_eqb (k / 18 % 2) 1 a) (even_subband_kept xs k h a)
