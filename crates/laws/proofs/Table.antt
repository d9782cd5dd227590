-- A rule of a table, proved at all of its entries by one test that antt computes, one entry after the other. Assumes nothing.
use mathlib.Core.Path.{◌≡◌, ◌∙◌, subst, sym}
use mathlib.Core.Bool.{Bool, true, ◌&&◌}
use mathlib.Core.List.{List, [], ◌∷◌}
use Prim.Native.Nat.{ℕ, zero, suc, ◌+◌, ◌<◌}
use native.Mathlib.Nat.{add-zero, zero-add, add-suc, suc-add, le_of_suc-le-suc, not-suc-le-zero}
use lib.Dec.{T, eqb, eqb→eq}
use lib.Ieee.Bits.{is_true}
use lib.Ieee.Fits.{and_l, and_r}
use lib.ListN.{length, get_or}
use lib.Ieee.{Float, nan}
use Rattle.laws.specs.Lists.{at, row}

module _ {A : Type 0} where
  -- the test f passes at each entry of the list and its place, counted from i
  abbrev pub every : (ℕ → A → Bool) → ℕ → List A → Bool
  every f i [] = true
  every f i (x ∷ xs) = f i x && every f (suc i) xs

  from : (d : A) (f : ℕ → A → Bool) (xs : List A) (i : ℕ) → T (every f i xs) → (k : ℕ) → k < length xs → T (f (i + k) (get_or xs k d))
  from d f [] i t k h = absurd (not-suc-le-zero h)
  from d f (x ∷ xs) i t zero h = subst (λ (m : ℕ). T (f m x)) (sym (add-zero i)) (and_l (f i x) (every f (suc i) xs) t)
  from d f (x ∷ xs) i t (suc k) h =
      subst (λ (m : ℕ). T (f m (get_or xs k d))) (suc-add i k ∙ sym (add-suc i k))
      (from d f xs (suc i) (and_r (f i x) (every f (suc i) xs) t) k (le_of_suc-le-suc h))

  -- so it passes at entry k
  pub at_place : (d : A) (f : ℕ → A → Bool) (xs : List A) → T (every f 0 xs) → (k : ℕ) → k < length xs → T (f k (get_or xs k d))
  at_place d f xs t k h = subst (λ (m : ℕ). T (f m (get_or xs k d))) (zero-add k) (from d f xs 0 t k h)

-- the rows of a table all have w entries, by a test of each
pub row-length : (t : List (List Float)) (w : ℕ) → T (every (λ m r. eqb (length r) w) 0 t) → (m : ℕ) → m < length t → length (row t m) ≡ w
row-length t w e m h = eqb→eq (length (row t m)) w (at_place [] (λ m r. eqb (length r) w) t e m h)

-- each entry of such a table passes a test f
abbrev pub entries : (Float → Bool) → ℕ → List (List Float) → Bool
entries f w t = every (λ m r. eqb (length r) w && every (λ p x. f x) 0 r) 0 t

pub entry_passes : (f : Float → Bool) (t : List (List Float)) (w : ℕ) → T (entries f w t) → (m : ℕ) → m < length t → (p : ℕ) → p < w → f (at (row t m) p) ≡ true
entry_passes f t w e m h p l =
    let r = row t m in
    let q = at_place [] (λ m r. eqb (length r) w && every (λ p x. f x) 0 r) t e m h in
    let long = eqb→eq (length r) w (and_l (eqb (length r) w) (every (λ p x. f x) 0 r) q) in
    let each = and_r (eqb (length r) w) (every (λ p x. f x) 0 r) q in
    is_true (f (at r p)) (at_place nan (λ p x. f x) r each p (rw long l))
