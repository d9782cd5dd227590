-- A rule between two places of a row of bit patterns: a test that antt computes, and what it says of the row's floats. Assumes nothing.
use mathlib.Core.Path.{◌≡◌, sym, ap, ◌∙◌, subst}
use mathlib.Core.Logic.{inl, inr}
use mathlib.Core.Bool.{Bool, true, ◌&&◌}
use mathlib.Core.List.{List, []}
use Prim.Native.Nat.{ℕ, zero, suc, ◌+◌, ◌-◌, ◌≤◌, ◌<◌}
use native.Mathlib.Nat.{eq-or-lt_of_le}
use native.Mathlib.Omega.{arith}
use lib.Dec.{T, eqb, eqb→eq}
use lib.ListN.{get_or, get_or-map}
use lib.Ieee.{binary32, neg, of_bits}
use lib.Ieee.Fits.{and_l, and_r}
use Rattle.laws.specs.Lists.{at, row}
use Rattle.laws.specs.Patterns.{floats, rows, place, size, sign}
use Rattle.laws.proofs.Bits.{opposite}

-- ---- a test at each place of a range

-- the test f passes at a and the n - 1 places after it
abbrev pub along : ℕ → ℕ → (ℕ → Bool) → Bool
along a zero f = true
along a (suc n) f = f a && along (suc a) n f

beyond : (a i : ℕ) → a ≤ i → i < a + 0 → ⊥
beyond a i h k = omega arith

pub along-at : (n a : ℕ) (f : ℕ → Bool) → T (along a n f) → (i : ℕ) → a ≤ i → i < a + n → T (f i)
along-at zero a f t i h k = absurd (beyond a i h k)
along-at (suc n) a f t i h k =
    elim (eq-or-lt_of_le h) [
      | inl e ↦ subst (λ (m : ℕ). T (f m)) e (and_l (f a) (along (suc a) n f) t)
      | inr l ↦ along-at n (suc a) f (and_r (f a) (along (suc a) n f) t) i l (omega arith)
    ]

-- ---- patterns at places, and the floats they stand for

-- equal size, and one of the two negative
abbrev pub opposes : ℕ → ℕ → Bool
opposes a b = eqb (size a) (size b) && eqb (sign a + sign b) 1

pub opposes-size : (a b : ℕ) → T (opposes a b) → size a ≡ size b
opposes-size a b t = eqb→eq (size a) (size b) (and_l (eqb (size a) (size b)) (eqb (sign a + sign b) 1) t)

pub opposes-sign : (a b : ℕ) → T (opposes a b) → sign a + sign b ≡ 1
opposes-sign a b t = eqb→eq (sign a + sign b) 1 (and_r (eqb (size a) (size b)) (eqb (sign a + sign b) 1) t)

pub float_at : (r : List ℕ) (i : ℕ) → at (floats r) i ≡ of_bits binary32 (place r i)
unfolding of_bits
float_at r i = get_or-map (of_bits binary32) r i 2143289344

pub row_at : (t : List (List ℕ)) (j : ℕ) → row (rows t) j ≡ floats (get_or t j [])
row_at t j = get_or-map floats t j []

pub equal-at : (r s : List ℕ) (a b : ℕ) → T (eqb (place r a) (place s b)) → at (floats r) a ≡ at (floats s) b
equal-at r s a b t = float_at r a ∙ ap (of_bits binary32) (eqb→eq (place r a) (place s b) t) ∙ sym (float_at s b)

pub opposite-at : (r : List ℕ) (a b : ℕ) → T (opposes (place r a) (place r b)) → at (floats r) a ≡ neg (at (floats r) b)
opposite-at r a b t =
    float_at r a
    ∙ opposite (place r a) (place r b) (opposes-size (place r a) (place r b) t) (opposes-sign (place r a) (place r b) t)
    ∙ ap neg (sym (float_at r b))

-- ---- whole rows: entry c - i of one beside entry i of another, for the n places i from a on

abbrev pub opposing : ℕ → ℕ → ℕ → List ℕ → Bool
opposing c a n r = along a n (λ i. opposes (place r (c - i)) (place r i))

abbrev pub mirroring : ℕ → ℕ → ℕ → List ℕ → List ℕ → Bool
mirroring c a n r s = along a n (λ i. eqb (place r (c - i)) (place s i))

pub opposing-at : (c a n : ℕ) (r : List ℕ) → T (opposing c a n r) → (i : ℕ) → a ≤ i → i < a + n → at (floats r) (c - i) ≡ neg (at (floats r) i)
opposing-at c a n r t i h k = opposite-at r (c - i) i (along-at n a (λ i. opposes (place r (c - i)) (place r i)) t i h k)

pub mirroring-at : (c a n : ℕ) (r s : List ℕ) → T (mirroring c a n r s) → (i : ℕ) → a ≤ i → i < a + n → at (floats r) (c - i) ≡ at (floats s) i
mirroring-at c a n r s t i h k = equal-at r s (c - i) i (along-at n a (λ i. eqb (place r (c - i)) (place s i)) t i h k)
