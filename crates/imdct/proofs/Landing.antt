-- Where the halves of the short windows land in edition 1: the first half of each, then the second half of the last; before and after them stays +0.0. Assumes nothing.
use mathlib.Core.Path.{◌≡◌, refl, sym}
use mathlib.Core.List.{List, ◌++◌}
use Prim.Native.Nat.{ℕ, zero, suc, ◌+◌, ◌-◌, ◌*◌, ◌<◌, zero-le}
use native.Mathlib.Omega.{arith}
use lib.ListN.{take, drop, replicate, get_or-replicate}
use lib.Ieee.{Float, nan}
use borrow.Author.Tests.{lt-ltb, le-ltb}
use Rattle.laws.specs.Lists.{tab}
use Rattle.laws.specs.Sum.{zero_f}
use Rattle.laws.proofs.Lists.{Filling, filling-none}
use Rattle.laws.proofs.Parts.{filling_run, filling_skip, filling-done}
use Rattle.imdct.specs.Imdct.{short_window_place, overwritten_place}

module _ (w s : List Float) where
  -- the places below n are by the rule, the others still +0.0
  abbrev pub Lands : ℕ → List Float → Type 0
  Lands n l = Filling (replicate 36 zero_f) (overwritten_place w s) n l

  pub lands_none : Lands 6 (replicate 36 zero_f)
  lands_none =
      filling_skip nan (filling-none (replicate 36 zero_f) (overwritten_place w s)) 6 zero-le (omega arith)
      (λ q _ h. rw (lt-ltb q 6 h) (sym (get_or-replicate 36 q zero_f nan (omega arith))))

  first : (i j : ℕ) → i < 3 → j < 6 → short_window_place w s i j ≡ overwritten_place w s (6 * i + 6 + j)
  first zero j h k = let e : 6 + j - 6 ≡ j = omega arith in rw (le-ltb (6 + j) 6 (omega arith), lt-ltb (6 + j) 12 (omega arith), e)
  first (suc zero) j h k =
      let e : 12 + j - 12 ≡ j = omega arith in
      rw (le-ltb (12 + j) 6 (omega arith), le-ltb (12 + j) 12 (omega arith), lt-ltb (12 + j) 18 (omega arith), e)
  first (suc (suc zero)) j h k =
      let e : 18 + j - 18 ≡ j = omega arith in
      rw (le-ltb (18 + j) 6 (omega arith), le-ltb (18 + j) 12 (omega arith), le-ltb (18 + j) 18 (omega arith), lt-ltb (18 + j) 30 (omega arith), e)
  first (suc (suc (suc i))) j h k = absurd (omega arith)

  second : (j : ℕ) → j < 6 → short_window_place w s 2 (6 + j) ≡ overwritten_place w s (24 + j)
  second j k =
      let e : 24 + j - 18 ≡ 6 + j = omega arith in
      rw (le-ltb (24 + j) 6 (omega arith), le-ltb (24 + j) 12 (omega arith), le-ltb (24 + j) 18 (omega arith), lt-ltb (24 + j) 30 (omega arith), e)

  -- one window's first half more, where its part was lent
  pub lands_more :
      {l ys : List Float} (i : ℕ) → i < 3 → Lands (6 * i + 6) l → ys ≡ tab 6 (short_window_place w s i)
      → Lands (6 * (i + 1) + 6) (take (6 * i + 6) l ++ (ys ++ drop (6 * i + 12 - (6 * i + 6)) (drop (6 * i + 6) l)))
  lands_more {ys = ys} i h v ey =
      let n : 6 * i + 12 - (6 * i + 6) ≡ 6 = omega arith in
      let f : ys ≡ tab (6 * i + 12 - (6 * i + 6)) (short_window_place w s i) = rw n ey in
      let e : 6 * (i + 1) + 6 ≡ 6 * i + 12 = omega arith in
      rw e (filling_run (6 * i + 6) (6 * i + 12) v (omega arith) (omega arith) f (λ j k. first i j h (omega arith)))

  -- the second half of the last window, and with it all 36 places
  pub lands_all :
      {l ys : List Float} (i : ℕ) → i ≡ 3 → Lands (6 * i + 6) l → ys ≡ tab 6 (λ j. short_window_place w s 2 (6 + j))
      → take 24 l ++ (ys ++ drop 6 (drop 24 l)) ≡ tab 36 (overwritten_place w s)
  lands_all {l} i e v ey =
      let v3 : Lands 24 l = rw e at v in
      filling-done nan (filling_run 24 30 v3 (omega arith) (omega arith) ey second) 36 refl (omega arith)
      (λ q h k.
      rw (le-ltb q 6 (omega arith), le-ltb q 12 (omega arith), le-ltb q 18 (omega arith), le-ltb q 30 h) (sym (get_or-replicate 36 q zero_f nan k)))
