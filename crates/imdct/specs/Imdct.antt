-- The windowed transform of one subband. From document 01, "Hybrid", and document 02, request 5. Assumes nothing.
-- s are the 18 samples of the subband, w is a window.
use Rattle.std.specs.Prelude.{Bool, cond, ◌&&◌, List, ℕ, zero, suc, ◌+◌, ◌-◌, ◌*◌, leb, ltb, eqb, Float}
use Rattle.std.proofs.lemmas.List.Edits.{sets}
use Rattle.std.specs.Float.{binary32}
use Rattle.std.specs.Float.Ieee.{add, mul}
use Rattle.laws.specs.Lists.{at, row, tab}
use Rattle.laws.specs.Sum.{zero_f, sum_to}
use Rattle.side_info.specs.declared.Edition.{Edition}
use Rattle.side_info.specs.Editions.{by_edition}
use Rattle.tables.specs.Cosines.{cos_n36, cos_n12, imdct_win}
use Rattle.imdct.specs.declared.Window.{Window}
use Rattle.imdct.specs.declared.Window.TheVariants.{Long, Start, Short, End}

-- "Place p is the sum over m of sample m times cosine (m, p), then times entry p of the kind's window"; "Sums start at +0.0, m ascending"
abbrev pub long_term : List Float → ℕ → ℕ → Float
long_term s p m = mul binary32 (at s m) (at (row cos_n36 m) p)

abbrev pub long_place : List Float → List Float → ℕ → Float
long_place w s p = mul binary32 (sum_to 18 (long_term s p)) (at w p)

-- "in kind 2 window i takes samples i + 3m"
abbrev pub short_term : List Float → ℕ → ℕ → ℕ → Float
short_term s i p m = mul binary32 (at s (i + 3 * m)) (at (row cos_n12 m) p)

abbrev pub short_window_place : List Float → List Float → ℕ → ℕ → Float
short_window_place w s i p = mul binary32 (sum_to 6 (short_term s i p)) (at w p)

-- "and its p, 0 to 11, lands at place 6i + 6 + p"; "a later window overwrites an earlier one: places 6 to 11 are window 0's first half, 12 to 17 window 1's, 18 to 29 all of
-- window 2, the rest +0.0"
abbrev pub overwritten_place : List Float → List Float → ℕ → Float
overwritten_place w s q =
    cond (ltb q 6) zero_f
    (cond (ltb q 12) (short_window_place w s 0 (q - 6))
    (cond (ltb q 18) (short_window_place w s 1 (q - 12)) (cond (ltb q 30) (short_window_place w s 2 (q - 18)) zero_f)))

-- the same as steps: windows 0 to n - 1 in turn, each with its 12 places stored one after the other from place 6i + 6 on, over 36 zeros
unfoldable pub overwritten : List Float → List Float → ℕ → List Float
overwritten w s zero = tab 36 (λ q. zero_f)
overwritten w s (suc i) = sets (overwritten w s i) (6 * i + 6) (tab 12 (short_window_place w s i))

-- whether window i has place q
abbrev pub covers : ℕ → ℕ → Bool
covers i q = leb (6 * i + 6) q && ltb q (6 * i + 18)

-- in edition 2 "the three short windows' overlapping halves are added, in window order, each place starting from +0.0": place q with the windows 0 to n - 1
unfoldable pub added_to : List Float → List Float → ℕ → ℕ → Float
added_to w s q zero = zero_f
added_to w s q (suc i) = cond (covers i q) (add binary32 (added_to w s q i) (short_window_place w s i (q - (6 * i + 6)))) (added_to w s q i)

abbrev pub added_place : List Float → List Float → ℕ → Float
added_place w s q = added_to w s q 3

-- place q of kind 2
abbrev pub short_place : Edition → List Float → List Float → ℕ → Float
short_place e w s q = by_edition e (overwritten_place w s q) (added_place w s q)

-- "Window kinds: Long 0, Start 1, Short 2, End 3"
abbrev pub window_number : Window → ℕ
window_number Long = 0
window_number Start = 1
window_number Short = 2
window_number End = 3

-- place p of a kind: 2 is the short one, the others are long
abbrev pub place_of : Edition → ℕ → List Float → ℕ → Float
place_of e kind s p = cond (eqb kind 2) (short_place e (row imdct_win 2) s p) (long_place (row imdct_win kind) s p)
