-- Terms that are zeros add nothing to a sum from +0.0; and finite sums have finite terms. Assumes nothing.
use mathlib.Core.Path.{◌≡◌, refl, sym, ap, ◌∙◌}
use mathlib.Core.Bool.{Bool, true, false, true≢false, cond}
use Prim.Native.Nat.{ℕ, zero, suc, ◌+◌, ◌<◌, ◌≤◌}
use native.Mathlib.Nat.{lt_irrefl, lt_of_not-le, add-zero, zero-add, suc-add}
use native.Mathlib.Omega.{arith}
use lib.Dec.{T, eqb, eqb→eq}
use Rattle.laws.specs.Finite.{finite}
use Rattle.laws.specs.Sum.{zero_f, sum_to}
use Rattle.laws.proofs.Zeros.{Zero, signed}
use lib.Ieee.Fits.{eq→eqb}
use lib.Ieee.{Float, nan, inf, fin, binary32, unlike, add, mul}
use Rattle.laws.proofs.Mirror.{Kept, Fit, keep_right, sum_kept}

-- zeros at the end change nothing
pub sum_tail : (j n : ℕ) (f : ℕ → Float) → Fit (n + j) f → ((k : ℕ) → j ≤ k → k < n + j → Zero (f k)) → sum_to (n + j) f ≡ sum_to j f
unfolding sum_to
sum_tail j zero f h z = ap (λ (x : ℕ). sum_to x f) (zero-add j)
sum_tail j (suc n) f h z =
    ap (λ (x : ℕ). sum_to x f) (suc-add n j)
    ∙ last (z (n + j) (omega arith) (omega arith)) (sum_kept (n + j) f (λ k l. h k (omega arith)))
    ∙ sum_tail j n f (λ k l. h k (omega arith)) (λ k a l. z k a (omega arith))
  where
    last : {x y : Float} → Zero y → Kept x → add binary32 x y ≡ x
    last (signed t) w = keep_right w t

-- all terms are zeros
pub sum-silent : (n : ℕ) (f : ℕ → Float) → Fit n f → ((k : ℕ) → k < n → Zero (f k)) → sum_to n f ≡ zero_f
unfolding sum_to
sum-silent n f h z =
    ap (λ (x : ℕ). sum_to x f) (sym (add-zero n))
    ∙ sum_tail 0 n f (λ k l. h k (omega arith)) (λ k a l. z k (omega arith))

-- a sum that is finite has finite terms
add_parts : (x y : Float) → finite (add binary32 x y) ≡ true → (finite x ≡ true) × (finite y ≡ true)
unfolding add finite
add_parts nan y h = absurd (true≢false (sym h))
add_parts (inf s) nan h = absurd (true≢false (sym h))
add_parts (inf true) (inf true) h = absurd (true≢false (sym h))
add_parts (inf true) (inf false) h = absurd (true≢false (sym h))
add_parts (inf false) (inf true) h = absurd (true≢false (sym h))
add_parts (inf false) (inf false) h = absurd (true≢false (sym h))
add_parts (inf s) (fin t n d) h = absurd (true≢false (sym h))
add_parts (fin s m e) nan h = absurd (true≢false (sym h))
add_parts (fin s m e) (inf t) h = absurd (true≢false (sym h))
add_parts (fin s m e) (fin t n d) h = (refl, refl)

pub sum-terms : (n : ℕ) (f : ℕ → Float) → finite (sum_to n f) ≡ true → (k : ℕ) → k < n → finite (f k) ≡ true
unfolding sum_to
sum-terms zero f h k l = absurd (lt_irrefl 0 (omega arith))
sum-terms (suc n) f h k l = go (eqb k n) (eqb→eq k n) eq→eqb (λ q. sum-terms n f r.0 k q)
  where
    r : (finite (sum_to n f) ≡ true) × (finite (f n) ≡ true)
    r = add_parts (sum_to n f) (f n) h

    under_it : (k ≡ n → ⊥) → k < n
    under_it u = lt_of_not-le λ v. u (omega arith)

    go : (b : Bool) → (T b → k ≡ n) → (k ≡ n → T b) → (k < n → finite (f k) ≡ true) → finite (f k) ≡ true
    go true e g rest = rw (e tt) r.1
    go false e g rest = rest (under_it g)

neither : (b u : Bool) → finite (cond b nan (inf u)) ≡ true → ⊥
unfolding finite
neither true u h = true≢false (sym h)
neither false u h = true≢false (sym h)

-- an infinite number or a NaN has no finite product: times a zero, an infinite number is a NaN
pub left-finite : (x y : Float) → finite (mul binary32 x y) ≡ true → finite x ≡ true
unfolding mul finite
left-finite nan y h = absurd (true≢false (sym h))
left-finite (inf s) nan h = absurd (true≢false (sym h))
left-finite (inf s) (inf t) h = absurd (true≢false (sym h))
left-finite (inf s) (fin t n d) h = absurd (neither (eqb n 0) (unlike s t) h)
left-finite (fin s m e) y h = refl
