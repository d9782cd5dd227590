-- Kind 2 in edition 1: its places are what the three windows leave where each overwrites the one before it. Assumes nothing.
use mathlib.Core.Path.{◌≡◌, sym, ◌∙◌}
use mathlib.Core.List.{List}
use Prim.Native.Nat.{ℕ, zero, suc, ◌+◌, ◌-◌, ◌*◌, ◌<◌, ◌≤◌}
use native.Mathlib.Decide.{dec_lt}
use native.Mathlib.Omega.{arith}
use lib.Ieee.{Float, nan}
use lib.ListN.{length}
use lib.Seq.{length-sets}
use borrow.Author.Tests.{lt-ltb, le-ltb}
use Rattle.laws.specs.Lists.{at, tab}
use Rattle.laws.specs.Sum.{zero_f}
use Rattle.laws.proofs.Lists.{length-tab, get_d_tab, tab-same, tab-at}
use Rattle.imdct.specs.Imdct.{short_window_place, overwritten_place, overwritten}
use Rattle.laws.proofs.Stored.{sets_inside, sets_below, sets_above}

module _ (w s : List Float) where
  overwritten-long : (n : ℕ) → length (overwritten w s n) ≡ 36
  unfolding overwritten
  overwritten-long zero = length-tab 36 (λ q. zero_f)
  overwritten-long (suc i) = length-sets (overwritten w s i) (6 * i + 6) (tab 12 (short_window_place w s i)) ∙ overwritten-long i

  room : (i : ℕ) → i < 3 → 6 * i + 6 + length (tab 12 (short_window_place w s i)) ≤ length (overwritten w s i)
  room i h = rw (overwritten-long i, length-tab) (omega arith)

  module _ (i q : ℕ) (h : i < 3) where
    -- place q of the window that comes last, and a place that it does not touch
    inside : 6 * i + 6 ≤ q → q < 6 * i + 18 → at (overwritten w s (suc i)) q ≡ short_window_place w s i (q - (6 * i + 6))
    unfolding overwritten
    inside a b =
        sets_inside (overwritten w s i) (tab 12 (short_window_place w s i)) (6 * i + 6) (room i h) q nan a (rw length-tab (omega arith))
        ∙ get_d_tab 12 (short_window_place w s i) (q - (6 * i + 6)) nan (omega arith)

    below : q < 6 * i + 6 → at (overwritten w s (suc i)) q ≡ at (overwritten w s i) q
    unfolding overwritten
    below a = sets_below (overwritten w s i) (tab 12 (short_window_place w s i)) (6 * i + 6) (room i h) q nan a

    above : 6 * i + 18 ≤ q → at (overwritten w s (suc i)) q ≡ at (overwritten w s i) q
    unfolding overwritten
    above a = sets_above (overwritten w s i) (tab 12 (short_window_place w s i)) (6 * i + 6) (room i h) q nan (rw length-tab (omega arith))

  fresh : (q : ℕ) → q < 36 → at (overwritten w s 0) q ≡ zero_f
  unfolding overwritten
  fresh q h = get_d_tab 36 (λ q. zero_f) q nan h

  place : (q : ℕ) → q < 36 → Dec (q < 6) → Dec (q < 12) → Dec (q < 18) → Dec (q < 30) → at (overwritten w s 3) q ≡ overwritten_place w s q
  place q h (yes a) _ _ _ =
      rw (lt-ltb q 6 a) (below 2 q (omega arith) (omega arith) ∙ below 1 q (omega arith) (omega arith) ∙ below 0 q (omega arith) (omega arith) ∙ fresh q h)
  place q h (no a) (yes b) _ _ =
      rw (le-ltb q 6 (omega arith), lt-ltb q 12 b)
      (below 2 q (omega arith) (omega arith) ∙ below 1 q (omega arith) (omega arith) ∙ inside 0 q (omega arith) (omega arith) (omega arith))
  place q h (no a) (no b) (yes c) _ =
      rw (le-ltb q 6 (omega arith), le-ltb q 12 (omega arith), lt-ltb q 18 c)
      (below 2 q (omega arith) (omega arith) ∙ inside 1 q (omega arith) (omega arith) (omega arith))
  place q h (no a) (no b) (no c) (yes d) =
      rw (le-ltb q 6 (omega arith), le-ltb q 12 (omega arith), le-ltb q 18 (omega arith), lt-ltb q 30 d)
      (inside 2 q (omega arith) (omega arith) (omega arith))
  place q h (no a) (no b) (no c) (no d) =
      rw (le-ltb q 6 (omega arith), le-ltb q 12 (omega arith), le-ltb q 18 (omega arith), le-ltb q 30 (omega arith))
      (above 2 q (omega arith) (omega arith) ∙ above 1 q (omega arith) (omega arith) ∙ above 0 q (omega arith) (omega arith) ∙ fresh q h)

  pub overwritten-short : overwritten w s 3 ≡ tab 36 (overwritten_place w s)
  overwritten-short =
      sym (tab-at 36 (overwritten w s 3) nan (overwritten-long 3))
      ∙ tab-same 36 (at (overwritten w s 3)) (overwritten_place w s) (λ q h. place q h (dec_lt q 6) (dec_lt q 12) (dec_lt q 18) (dec_lt q 30))
