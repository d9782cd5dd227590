-- A subband of zeros: each of its 36 places is +0.0, whatever the kind of window and the edition. Assumes nothing.
use mathlib.Core.Path.{◌≡◌, refl, sym, ap, ◌∙◌}
use mathlib.Core.Bool.{Bool, true, false, true≢false, cond, ◌&&◌}
use mathlib.Core.List.{List}
use Prim.Native.Nat.{ℕ, zero, suc, ◌+◌, ◌-◌, ◌*◌, ◌<◌, ◌≤◌}
use native.Mathlib.Nat.{zero-mul, mul-pos}
use native.Mathlib.Omega.{arith}
use lib.Dec.{lit<, leb, ltb, eqb}
use lib.IntN.{pos}
use lib.Ieee.{Float, nan, inf, fin, binary32, of_bits, up, down, add, mul}
use lib.Ieee.Fits.{mul-fits, down_pos}
use borrow.Author.Tests.{leb-true, ltb-true, ltb-false}
use Rattle.laws.specs.Finite.{finite}
use Rattle.laws.specs.Lists.{at, row}
use Rattle.laws.specs.Sum.{zero_f, sum_to}
use Rattle.laws.proofs.Silence.{sum-silent}
use Rattle.laws.proofs.Zeros.{Zero, zero-round}
use Rattle.side_info.specs.declared.Edition.{Edition}
use Rattle.side_info.specs.declared.Edition.TheVariants.{First, Second}
use Rattle.tables.specs.Cosines.{cos_n36, cos_n12, imdct_win}
use Rattle.imdct.specs.Imdct.{long_term, long_place, short_term, short_window_place, overwritten_place, covers, added_to, short_place, place_of}
use Rattle.imdct.proofs.Tables.{clear, n36_finite, n12_finite, win_clear}

-- +0.0 times a finite number that is not below +0.0
zero-times : (w : Float) → clear w ≡ true → mul binary32 zero_f w ≡ zero_f
unfolding mul of_bits clear
zero-times nan h = absurd (true≢false (sym h))
zero-times (inf s) h = absurd (true≢false (sym h))
zero-times (fin true n d) h = absurd (true≢false (sym h))
zero-times (fin false n d) h = zero-round false (0 * up (pos 0) * (n * up d)) (down (pos 0) * down d) (zero-mul (n * up d)) (mul-pos (lit< tt) (down_pos d))

both : {x y z : Float} (b : Bool) → (b ≡ true → x ≡ z) → (b ≡ false → y ≡ z) → cond b x y ≡ z
both true f g = f refl
both false f g = g refl

and_left : (a b : Bool) → (a && b) ≡ true → a ≡ true
and_left true b h = refl
and_left false b h = h

and_right : (a b : Bool) → (a && b) ≡ true → b ≡ true
and_right true b h = h
and_right false b h = absurd (true≢false (sym h))

-- 18 samples whose products with finite numbers are zeros
abbrev pub Silent : List Float → Type 0
Silent s = (i : ℕ) → i < 18 → (y : Float) → finite y ≡ true → Zero (mul binary32 (at s i) y)

module _ (s : List Float) (z : Silent s) where
  long-sum : (p : ℕ) → p < 36 → sum_to 18 (long_term s p) ≡ zero_f
  long-sum p h = sum-silent 18 (long_term s p) (λ m l. mul-fits binary32 (at s m) (at (row cos_n36 m) p)) (λ m l. z m l (at (row cos_n36 m) p) (n36_finite m p l h))

  short-sum : (i p : ℕ) → i < 3 → p < 12 → sum_to 6 (short_term s i p) ≡ zero_f
  short-sum i p k h =
      sum-silent 6 (short_term s i p) (λ m l. mul-fits binary32 (at s (i + 3 * m)) (at (row cos_n12 m) p))
      (λ m l. z (i + 3 * m) (omega arith) (at (row cos_n12 m) p) (n12_finite m p l h))

  long : (kind p : ℕ) → kind < 4 → p < 36 → long_place (row imdct_win kind) s p ≡ zero_f
  long kind p k h = ap (λ (x : Float). mul binary32 x (at (row imdct_win kind) p)) (long-sum p h) ∙ zero-times (at (row imdct_win kind) p) (win_clear kind p k h)

  window : (i p : ℕ) → i < 3 → p < 12 → short_window_place (row imdct_win 2) s i p ≡ zero_f
  window i p k h =
      ap (λ (x : Float). mul binary32 x (at (row imdct_win 2) p)) (short-sum i p k h) ∙ zero-times (at (row imdct_win 2) p) (win_clear 2 p (omega arith) (omega arith))

  overwritten : (q : ℕ) → overwritten_place (row imdct_win 2) s q ≡ zero_f
  overwritten q =
      both (ltb q 6) (λ _. refl) (λ a. let l = ltb-false q 6 a in
      both (ltb q 12) (λ b. let u = ltb-true q 12 b in window 0 (q - 6) (omega arith) (omega arith)) (λ b. let l = ltb-false q 12 b in
      both (ltb q 18) (λ c. let u = ltb-true q 18 c in window 1 (q - 12) (omega arith) (omega arith)) (λ c. let l = ltb-false q 18 c in
      both (ltb q 30) (λ d. let u = ltb-true q 30 d in window 2 (q - 18) (omega arith) (omega arith)) (λ _. refl))))

  -- +0.0 and, from each window that has the place, +0.0 more
  added : (q n : ℕ) → n ≤ 3 → added_to (row imdct_win 2) s q n ≡ zero_f
  unfolding added_to add of_bits
  added q zero h = refl
  added q (suc i) h =
      both (covers i q)
      (λ c.
      let l = leb-true (6 * i + 6) q (and_left (leb (6 * i + 6) q) _ c) in
      let u = ltb-true q (6 * i + 18) (and_right (leb (6 * i + 6) q) _ c) in
      ap (λ (x : Float). add binary32 x (short_window_place (row imdct_win 2) s i (q - (6 * i + 6)))) (added q i (omega arith))
      ∙ ap (add binary32 zero_f) (window i (q - (6 * i + 6)) (omega arith) (omega arith)))
      (λ _. added q i (omega arith))

  short : (e : Edition) (q : ℕ) → short_place e (row imdct_win 2) s q ≡ zero_f
  short First q = overwritten q
  short Second q = added q 3 (omega arith)

  pub silent-place : (e : Edition) (kind p : ℕ) → kind < 4 → p < 36 → place_of e kind s p ≡ zero_f
  silent-place e kind p k h = both (eqb kind 2) (λ _. short e p) (λ _. long kind p k h)
