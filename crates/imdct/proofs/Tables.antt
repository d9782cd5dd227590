-- Every cosine is finite, and every window entry is finite and not below +0.0: one test a table that antt computes, carried to each entry. Assumes nothing.
use mathlib.Core.Path.{◌≡◌}
use mathlib.Core.Bool.{Bool, true, false, not}
use Prim.Native.Nat.{ℕ, ◌<◌}
use lib.Dec.{T}
use lib.Ieee.{Float, nan, inf, fin, of_bits}
use Rattle.laws.specs.Finite.{finite}
use Rattle.laws.specs.Lists.{at, row}
use Rattle.laws.proofs.Table.{entries, entry_passes}
use Rattle.tables.specs.Cosines.{cos_n36, cos_n36_bits, cos_n12, cos_n12_bits, imdct_win, imdct_win_bits}

-- a finite number whose sign bit is clear
unfoldable pub clear : Float → Bool
clear nan = false
clear (inf s) = false
clear (fin s m e) = not s

n36_test : T (entries finite 36 cos_n36)
unfolding cos_n36 cos_n36_bits of_bits finite
n36_test = tt

n12_test : T (entries finite 12 cos_n12)
unfolding cos_n12 cos_n12_bits of_bits finite
n12_test = tt

win_test : T (entries clear 36 imdct_win)
unfolding imdct_win imdct_win_bits of_bits clear
win_test = tt

pub n36_finite : (m p : ℕ) → m < 18 → p < 36 → finite (at (row cos_n36 m) p) ≡ true
unfolding cos_n36 cos_n36_bits
n36_finite m p h l = entry_passes finite cos_n36 36 n36_test m h p l

pub n12_finite : (m p : ℕ) → m < 6 → p < 12 → finite (at (row cos_n12 m) p) ≡ true
unfolding cos_n12 cos_n12_bits
n12_finite m p h l = entry_passes finite cos_n12 12 n12_test m h p l

pub win_clear : (kind p : ℕ) → kind < 4 → p < 36 → clear (at (row imdct_win kind) p) ≡ true
unfolding imdct_win imdct_win_bits
win_clear kind p h l = entry_passes clear imdct_win 36 win_test kind h p l
