-- One window more is added to the 36 places: to the 12 that it lands on; the places before and after those stay as they are. Assumes nothing.
use mathlib.Core.Path.{◌≡◌, refl, sym, ap, ◌∙◌}
use mathlib.Core.Bool.{and-false}
use mathlib.Core.List.{List, ◌++◌}
use Prim.Native.Nat.{ℕ, ◌+◌, ◌-◌, ◌*◌, ◌<◌, ◌≤◌, zero-le}
use native.Mathlib.Numerals.{add-one}
use native.Mathlib.Omega.{arith}
use lib.ListN.{length, take, drop, replicate, get_or-replicate}
use lib.Ieee.{Float, nan, binary32, add}
use borrow.Author.Tests.{le-leb, lt-leb, lt-ltb, le-ltb}
use Rattle.laws.specs.Lists.{at, tab}
use Rattle.laws.specs.Sum.{zero_f}
use Rattle.laws.proofs.Lists.{length-tab, tab-place, Filling, filling-none}
use Rattle.laws.proofs.Parts.{part, part_at, filling_run, filling_skip, filling-done}
use Rattle.imdct.specs.Imdct.{short_window_place, added_to}

module _ (w s : List Float) where
  -- the 36 places have the windows 0 to n - 1
  abbrev pub Adds : ℕ → List Float → Type 0
  Adds n l = l ≡ tab 36 (λ q. added_to w s q n)

  pub adds_long : {l : List Float} (n : ℕ) → Adds n l → length l ≡ 36
  adds_long n e = ap length e ∙ length-tab 36 (λ q. added_to w s q n)

  pub adds_none : Adds 0 (replicate 36 zero_f)
  unfolding added_to
  adds_none = filling-done nan (filling-none (replicate 36 zero_f) (λ q. added_to w s q 0)) 36 refl zero-le (λ q _ h. sym (get_or-replicate 36 q zero_f nan h))

  -- what window i makes of a place that it has, and of one before or after those
  module _ (i q : ℕ) where
    inside : 6 * i + 6 ≤ q → q < 6 * i + 18 → added_to w s q (i + 1) ≡ add binary32 (added_to w s q i) (short_window_place w s i (q - (6 * i + 6)))
    unfolding added_to
    inside a b = rw (add-one, le-leb (6 * i + 6) q a, lt-ltb q (6 * i + 18) b)

    below : q < 6 * i + 6 → added_to w s q (i + 1) ≡ added_to w s q i
    unfolding added_to
    below a = rw (add-one, lt-leb (6 * i + 6) q a)

    above : 6 * i + 18 ≤ q → added_to w s q (i + 1) ≡ added_to w s q i
    unfolding added_to
    above a = rw (add-one, le-ltb q (6 * i + 18) a, and-false)

  pub values_long : {values : List Float} (i : ℕ) → values ≡ tab 12 (short_window_place w s i) → length values ≡ 12
  values_long i e = ap length e ∙ length-tab 12 (short_window_place w s i)

  -- window i, where its part was lent and came back with the values added
  pub adds_more :
      {l values ys : List Float} (i : ℕ) → i < 3 → Adds i l → values ≡ tab 12 (short_window_place w s i)
      → ys ≡ tab 12 (λ p. add binary32 (at (part (6 * i + 6) (6 * i + 18) l) p) (at values p))
      → Adds (i + 1) (take (6 * i + 6) l ++ (ys ++ drop (6 * i + 18 - (6 * i + 6)) (drop (6 * i + 6) l)))
  adds_more {l} {values} {ys} i h e ev ey =
      let a = 6 * i + 6 in
      let n : 12 ≡ 6 * i + 18 - (6 * i + 6) = omega arith in
      let f = ey ∙ ap (λ (k : ℕ). tab k (λ p. add binary32 (at (part (6 * i + 6) (6 * i + 18) l) p) (at values p))) n in
      let long = adds_long i e in
      let kept : (q : ℕ) → q < 36 → added_to w s q i ≡ at l q = λ q k. sym (tab-place 36 (λ q. added_to w s q i) q nan e k) in
      let v : Filling l (λ q. added_to w s q (i + 1)) a l =
      filling_skip nan (filling-none l (λ q. added_to w s q (i + 1))) a zero-le (omega (arith, long)) (λ q _ k. below i q k ∙ kept q (omega arith)) in
      filling-done nan
      (filling_run a (6 * i + 18) v (omega arith) (omega (arith, long)) f
      (λ p k.
      let back : 6 * i + 6 + p - (6 * i + 6) ≡ p = omega arith in
      ap (λ (x : Float). add binary32 x (at values p)) (part_at a (6 * i + 18) l p nan k ∙ sym (kept (a + p) (omega arith)))
      ∙ ap (add binary32 (added_to w s (a + p) i)) (tab-place 12 (short_window_place w s i) p nan ev (omega arith) ∙ ap (short_window_place w s i) (sym back))
      ∙ sym (inside i (a + p) (omega arith) (omega arith))))
      36 long (omega arith) (λ q k g. above i q k ∙ kept q g)
