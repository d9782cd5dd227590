-- The symmetries of the tables, one law a table. Each is one test that antt computes over the table's bit patterns, carried to each entry. Assumes nothing.
use mathlib.Core.Path.{◌≡◌, sym, ap, ◌∙◌, subst}
use mathlib.Core.Logic.{◌↔◌}
use mathlib.Core.Bool.{Bool, true, false, not, cond, ◌&&◌}
use mathlib.Core.List.{List, [], ◌∷◌}
use Prim.Native.Nat.{ℕ, ◌+◌, ◌-◌, ◌%◌, ◌≤◌, ◌<◌, zero-le}
use native.Mathlib.Omega.{arith}
use lib.Dec.{T, eqb, eqb→eq, T_not}
use lib.ListN.{get_or}
use lib.Ieee.Fits.{and_l, and_r, eq→eqb}
use Rattle.laws.specs.Lists.{at, row}
use Rattle.laws.specs.Patterns.{floats, place, size, sign}
use Rattle.laws.proofs.Places.{along, along-at, opposes, opposes-size, opposes-sign, row_at, equal-at, opposite-at, opposing, mirroring, opposing-at, mirroring-at}
use Rattle.laws.proofs.Table.{every, at_place}
use Rattle.synthesis_tables.specs.Window.{window_bits, window}
use Rattle.synthesis_tables.specs.Matrixing.{matrixing_bits, matrixing}
use Rattle.synthesis_tables.specs.Symmetries.{WindowPair, MatrixingRow}

-- ---- the window: entries 512 - i and i have equal size, and equal sign exactly where 64 divides i

abbrev paired : ℕ → ℕ → ℕ → Bool
paired i a b = cond (eqb (i % 64) 0) (eqb a b) (opposes a b)

window-test : T (along 1 255 (λ i. paired i (place window_bits (512 - i)) (place window_bits i)))
unfolding window_bits
window-test = tt

by_case : {P : Type 0} (c x y : Bool) → (T c → T x → P) → (T (not c) → T y → P) → T (cond c x y) → P
by_case true x y f g t = f tt t
by_case false x y f g t = g tt t

unlike : (i : ℕ) → T (not (eqb (i % 64) 0)) → i % 64 ≡ 0 → ⊥
unlike i n e = T_not (eqb (i % 64) 0) n (eq→eqb e)

never_equal : (x y : ℕ) → x + y ≡ 1 → x ≡ y → ⊥
never_equal x y e f = omega arith

-- what the test says of two patterns a and b
same_size : (i a b : ℕ) → T (paired i a b) → size a ≡ size b
same_size i a b = by_case (eqb (i % 64) 0) (eqb a b) (opposes a b) (λ c x. ap size (eqb→eq a b x)) (λ c y. opposes-size a b y)

same_sign : (i a b : ℕ) → T (paired i a b) → (sign a ≡ sign b) ↔ (i % 64 ≡ 0)
same_sign i a b =
    by_case (eqb (i % 64) 0) (eqb a b) (opposes a b) (λ c x. (λ e. eqb→eq (i % 64) 0 c, λ e. ap sign (eqb→eq a b x)))
    (λ c y. (λ e. absurd (never_equal (sign a) (sign b) (opposes-sign a b y) e), λ e. absurd (unlike i c e)))

alike : (i a b : ℕ) → T (paired i a b) → i % 64 ≡ 0 → T (eqb a b)
alike i a b t e = by_case (eqb (i % 64) 0) (eqb a b) (opposes a b) (λ c x. x) (λ c y. absurd (unlike i c e)) t

contrary : (i a b : ℕ) → T (paired i a b) → (i % 64 ≡ 0 → ⊥) → T (opposes a b)
contrary i a b t n = by_case (eqb (i % 64) 0) (eqb a b) (opposes a b) (λ c x. absurd (n (eqb→eq (i % 64) 0 c))) (λ c y. y) t

pub window_pairs : (i : ℕ) → 1 ≤ i → i < 256 → WindowPair i
unfolding window
window_pairs i h k =
    let a : ℕ = place window_bits (512 - i) in
    let b : ℕ = place window_bits i in
    let t : T (paired i a b) = along-at 255 1 (λ i. paired i (place window_bits (512 - i)) (place window_bits i)) window-test i h k in
    record {
      equal = λ e. equal-at window_bits window_bits (512 - i) i (alike i a b t e);
      opposed = λ n. opposite-at window_bits (512 - i) i (contrary i a b t n);
      sizes = same_size i a b t;
      signs = same_sign i a b t;
    }

-- ---- matrixing: each row is odd about place 16, and even about place 48

about_48 : (i : ℕ) → i < 16 → 48 + i ≡ 96 - (48 - i)
about_48 i h = omega arith

abbrev folds : List ℕ → Bool
folds r = mirroring 96 33 16 r r && eqb (place r 16) 0

abbrev matrixing_fits : List ℕ → Bool
matrixing_fits r = opposing 32 0 16 r && folds r

matrixing-test : T (every (λ j r. matrixing_fits r) 0 matrixing_bits)
unfolding matrixing_bits
matrixing-test = tt

matrixing-row : (r : List ℕ) → T (matrixing_fits r) → MatrixingRow (floats r)
matrixing-row r t =
    let o : T (opposing 32 0 16 r) = and_l (opposing 32 0 16 r) (folds r) t in
    let f : T (folds r) = and_r (opposing 32 0 16 r) (folds r) t in
    let m : T (mirroring 96 33 16 r r) = and_l (mirroring 96 33 16 r r) (eqb (place r 16) 0) f in
    let z : T (eqb (place r 16) 0) = and_r (mirroring 96 33 16 r r) (eqb (place r 16) 0) f in
    record {
      opposed = λ i h. opposing-at 32 0 16 r o i zero-le h;
      mirrored = λ i h. ap (at (floats r)) (about_48 i h) ∙ mirroring-at 96 33 16 r r m (48 - i) (omega arith) (omega arith);
      middle = equal-at r (0 ∷ []) 16 0 z;
    }

pub matrixing-rows : (j : ℕ) → j < 32 → MatrixingRow (row matrixing j)
unfolding matrixing matrixing_bits
matrixing-rows j h =
    subst MatrixingRow (sym (row_at matrixing_bits j))
    (matrixing-row (get_or matrixing_bits j []) (at_place [] (λ j r. matrixing_fits r) matrixing_bits matrixing-test j h))
