-- The symmetries of the tables, one law a table. Each is one test that antt computes over the table's bit patterns, carried to each entry. Assumes nothing.
use mathlib.Core.Path.{◌≡◌, sym, ap, ◌∙◌, subst}
use mathlib.Core.Bool.{Bool, ◌&&◌}
use mathlib.Core.List.{List, []}
use Prim.Native.Nat.{ℕ, ◌-◌, ◌*◌, ◌<◌, zero-le}
use native.Mathlib.Omega.{arith}
use lib.Dec.{T}
use lib.ListN.{get_or}
use lib.Ieee.{Float}
use lib.Ieee.Fits.{and_l, and_r}
use Rattle.laws.specs.Lists.{at, row}
use Rattle.laws.specs.Patterns.{floats}
use Rattle.laws.proofs.Places.{row_at, opposing, mirroring, opposing-at, mirroring-at}
use Rattle.laws.proofs.Table.{every, at_place}
use Rattle.tables.specs.Cosines.{cos_n36_bits, cos_n36, cos_n12_bits, cos_n12, imdct_win_bits, imdct_win}
use Rattle.tables.specs.Symmetries.{CosineRow, WindowKinds}

-- ---- the cosines of a transform of 4q places: each row is odd in its first half, and even in its second

abbrev cosine_fits : ℕ → List ℕ → Bool
cosine_fits q r = opposing (2 * q - 1) 0 q r && mirroring (6 * q - 1) (2 * q) q r r

cosine_row : (q : ℕ) (r : List ℕ) → T (cosine_fits q r) → CosineRow q (floats r)
cosine_row q r t =
    let o : T (opposing (2 * q - 1) 0 q r) = and_l (opposing (2 * q - 1) 0 q r) (mirroring (6 * q - 1) (2 * q) q r r) t in
    let m : T (mirroring (6 * q - 1) (2 * q) q r r) = and_r (opposing (2 * q - 1) 0 q r) (mirroring (6 * q - 1) (2 * q) q r r) t in
    record {
      opposed = λ p h. opposing-at (2 * q - 1) 0 q r o p zero-le (omega arith);
      mirrored = λ p h k. mirroring-at (6 * q - 1) (2 * q) q r r m p h (omega arith);
    }

n36_test : T (every (λ m r. cosine_fits 9 r) 0 cos_n36_bits)
unfolding cos_n36_bits
n36_test = tt

n12_test : T (every (λ m r. cosine_fits 3 r) 0 cos_n12_bits)
unfolding cos_n12_bits
n12_test = tt

-- 36 places: entry 17 - p is entry p negated, and entry 53 - p is entry p
pub n36_rows : (m : ℕ) → m < 18 → CosineRow 9 (row cos_n36 m)
unfolding cos_n36 cos_n36_bits
n36_rows m h =
    subst (CosineRow 9) (sym (row_at cos_n36_bits m))
    (cosine_row 9 (get_or cos_n36_bits m []) (at_place [] (λ m r. cosine_fits 9 r) cos_n36_bits n36_test m h))

-- 12 places: entry 5 - p is entry p negated, and entry 17 - p is entry p
pub n12_rows : (m : ℕ) → m < 6 → CosineRow 3 (row cos_n12 m)
unfolding cos_n12 cos_n12_bits
n12_rows m h =
    subst (CosineRow 3) (sym (row_at cos_n12_bits m))
    (cosine_row 3 (get_or cos_n12_bits m []) (at_place [] (λ m r. cosine_fits 3 r) cos_n12_bits n12_test m h))

-- ---- the four windows: long and short read the same from both ends, and end is start read from its end

abbrev kind : ℕ → List ℕ
kind k = get_or imdct_win_bits k []

kinds_test : T (mirroring 35 0 36 (kind 0) (kind 0)) × T (mirroring 35 0 36 (kind 3) (kind 1)) × T (mirroring 11 0 12 (kind 2) (kind 2))
unfolding imdct_win_bits
kinds_test = (tt, tt, tt)

kind-rows : (k l c n : ℕ) → T (mirroring c 0 n (kind k) (kind l)) → (p : ℕ) → p < n → at (row imdct_win k) (c - p) ≡ at (row imdct_win l) p
unfolding imdct_win
kind-rows k l c n t p h =
    ap (λ (r : List Float). at r (c - p)) (row_at imdct_win_bits k)
    ∙ mirroring-at c 0 n (kind k) (kind l) t p zero-le (omega arith)
    ∙ sym (ap (λ (r : List Float). at r p) (row_at imdct_win_bits l))

pub window_kinds : WindowKinds
window_kinds =
    record { long = kind-rows 0 0 35 36 kinds_test.0; ends = kind-rows 3 1 35 36 kinds_test.1; short = kind-rows 2 2 11 12 kinds_test.2 }
