-- Bands cover each position exactly once: it lies in the band that `band_at` says, and in no other. Over any bands. Assumes nothing.
use mathlib.Core.Path.{◌≡◌, sym, ap, subst, ◌∙◌}
use mathlib.Core.List.{List, [], ◌∷◌}
use Prim.Native.Nat.{ℕ, zero, suc, ◌+◌, ◌-◌, ◌<◌, ◌≤◌}
use native.Mathlib.Nat.{le_refl, le_trans, le_of_lt, add-zero, add-suc, not-suc-le-zero}
use native.Mathlib.Numerals.{add-one}
use native.Mathlib.Decide.{dec_lt}
use native.Mathlib.Omega.{arith}
use lib.ListN.{length}
use borrow.Author.Tests.{le-leb, lt-leb}
use Rattle.bands.specs.Bands.{start, passed, band_at, InBand, Bands}

-- where the starts up to k are at or below i, and the next is above it, k + 1 of them are passed
count : (ss : List ℕ) (k i : ℕ) → suc k < length ss → ((j : ℕ) → j ≤ k → start ss j ≤ i) → i < start ss (suc k) → passed ss i ≡ suc k
count [] k i l h g = absurd (not-suc-le-zero l)
count (s ∷ []) k i l h g = absurd (omega arith)
count (s ∷ e ∷ ss) zero i l h g = rw (le-leb s i (h 0 (omega arith)), lt-leb e i g)
count (s ∷ e ∷ ss) (suc k) i l h g = rw (le-leb s i (h 0 (omega arith))) (ap suc (count (e ∷ ss) k i (omega arith) (λ j q. h (suc j) (omega arith)) g))

module _ (n end : ℕ) (starts : List ℕ) (b : Bands n end starts) where
  climb : (j d : ℕ) → j + d ≤ n → start starts j ≤ start starts (j + d)
  climb j zero h = subst (λ (m : ℕ). start starts j ≤ start starts m) (sym (add-zero j)) (le_refl (start starts j))
  climb j (suc d) h =
      subst (λ (m : ℕ). start starts j ≤ start starts m) (add-one (j + d) ∙ sym (add-suc j d))
      (le_trans (climb j d (omega arith)) (le_of_lt (b.rises (j + d) (omega arith))))

  -- a later start is no lower
  pub in_order : (j k : ℕ) → j ≤ k → k ≤ n → start starts j ≤ start starts k
  in_order j k h g =
      let e : j + (k - j) ≡ k = omega arith in
      subst (λ (m : ℕ). start starts j ≤ start starts m) e (climb j (k - j) (omega arith))

  pub at_most : (k : ℕ) → k ≤ n → start starts k ≤ end
  at_most k h = subst (λ (m : ℕ). start starts k ≤ m) b.ends (in_order k n h (le_refl n))

  -- the band that a position lies in is the one that `band_at` says
  pub band-is : (k i : ℕ) → k < n → InBand starts k i → band_at starts i ≡ k
  unfolding band_at
  band-is k i h w =
      let e = count starts k i (omega (arith, b.long)) (λ j q. le_trans (in_order j k q (omega arith)) w.from) (rw (← add-one k) w.upto) in
      rw e (omega arith)

  pub once : (j k i : ℕ) → j < n → k < n → InBand starts j i → InBand starts k i → j ≡ k
  once j k i hj hk a c = sym (band-is j i hj a) ∙ band-is k i hk c

  -- each position has one, found from the last band down
  record Located (i : ℕ) : Type 0 where
    band : ℕ
    some : band < n
    inside : InBand starts band i

  locate : (i m : ℕ) → m ≤ n → i < start starts m → Located i
  locate i zero h g = absurd (omega (arith, b.begins))
  locate i (suc m) h g = split (dec_lt i (start starts m)) (λ l. locate i m (omega arith) l)
    where
      split : Dec (i < start starts m) → (i < start starts m → Located i) → Located i
      split (yes l) r = r l
      split (no l) r = record { band = m; some = omega arith; inside = record { from = omega arith; upto = rw (add-one m) g } }

  located : (i : ℕ) → i < end → Located i
  located i h = locate i n (le_refl n) (rw b.ends h)

  -- each position below the end lies in the band that `band_at` says
  pub band-small : (i : ℕ) → i < end → band_at starts i < n
  band-small i h = let w = located i h in rw (band-is w.band i w.some w.inside) w.some

  pub band-holds : (i : ℕ) → i < end → InBand starts (band_at starts i) i
  band-holds i h = let w = located i h in rw (band-is w.band i w.some w.inside) w.inside

  -- a start below the end is no end: there is a band there
  pub band-left : (k : ℕ) → k ≤ n → start starts k < end → k < n
  band-left k h l = split (dec_lt k n)
    where
      split : Dec (k < n) → k < n
      split (yes q) = q
      split (no q) = let e : n ≡ k = omega arith in absurd (omega (arith, subst (λ (m : ℕ). start starts m ≡ end) e b.ends))

  -- a position at or above a start lies in that band or in a later one, and one below it in an earlier one
  pub no_earlier : (k i : ℕ) → k ≤ n → start starts k ≤ i → i < end → k ≤ band_at starts i
  no_earlier k i h l u = split (dec_lt (band_at starts i) k)
    where
      split : Dec (band_at starts i < k) → k ≤ band_at starts i
      split (yes q) = absurd (omega (arith, (band-holds i u).upto, in_order (band_at starts i + 1) k (omega arith) h))
      split (no q) = omega arith

  pub no_later : (k i : ℕ) → k ≤ n → i < start starts k → band_at starts i < k
  no_later k i h l = split (dec_lt (band_at starts i) k)
    where
      u : i < end
      u = omega (arith, at_most k h)

      split : Dec (band_at starts i < k) → band_at starts i < k
      split (yes q) = q
      split (no q) = absurd (omega (arith, (band-holds i u).from, in_order k (band_at starts i) (omega arith) (omega (arith, band-small i u))))
