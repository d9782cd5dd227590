-- The tables: facts proved once over all of them by tests that antt computes, so that a table joins by standing in the list. Assumes nothing.
use mathlib.Core.Path.{◌≡◌, refl}
use mathlib.Core.Bool.{Bool, false, ◌&&◌}
use mathlib.Core.List.{List, [], map}
use Prim.Native.Nat.{ℕ, ◌+◌}
use lib.Dec.{T, ltb, eqb, ltb→lt, eqb→eq}
use lib.ListN.{length}
use lib.Ieee.Fits.{and_l, and_r}
use borrow.Author.Tests.{leb-false, lt-leb}
use Rattle.laws.specs.Checks.{all_to}
use Rattle.laws.proofs.Checks.{all_pass}
use Rattle.laws.proofs.Table.{every, at_place}
use Rattle.bands.specs.Starts.{long_tables, short_tables}
use Rattle.bands.specs.Standard.{long_widths, short_widths, running}
use Rattle.bands.specs.Bands.{table_count, KnownTable, table_too_high, long_starts, short_starts, start, Bands}

-- a table that refusal 3 passes
pub known : (t : ℕ) → table_too_high t ≡ false → KnownTable t
known t e = leb-false table_count t e

-- and refusal 3 passes each of them
pub passed : (t : ℕ) → KnownTable t → table_too_high t ≡ false
passed t h = lt-leb table_count t h

-- ---- `Bands`, as a test

rising : List ℕ → ℕ → Bool
rising starts k = ltb (start starts k) (start starts (k + 1))

test : ℕ → ℕ → List ℕ → Bool
test n end starts = eqb (length starts) (n + 1) && (eqb (start starts 0) 0 && (eqb (start starts n) end && all_to n (rising starts)))

bands : (n end : ℕ) (starts : List ℕ) → T (test n end starts) → Bands n end starts
unfolding test rising
bands n end starts t =
    let a = eqb (length starts) (n + 1) in
    let b = eqb (start starts 0) 0 in
    let c = eqb (start starts n) end in
    let d = all_to n (rising starts) in
    let u = and_r a (b && (c && d)) t in
    let v = and_r b (c && d) u in
    record {
      long = eqb→eq (length starts) (n + 1) (and_l a (b && (c && d)) t);
      begins = eqb→eq (start starts 0) 0 (and_l b (c && d) u);
      rises = λ k h. ltb→lt (start starts k) (start starts (k + 1)) (all_pass n (rising starts) (and_r c d v) k h);
      ends = eqb→eq (start starts n) end (and_l c d v);
    }

-- ---- all tables

long-tests : T (every (λ t starts. test 22 576 starts) 0 long_tables)
unfolding long_tables test rising all_to
long-tests = tt

short-tests : T (every (λ t starts. test 13 192 starts) 0 short_tables)
unfolding short_tables test rising all_to
short-tests = tt

all-long : length long_tables ≡ table_count
unfolding long_tables
all-long = refl

all_short : length short_tables ≡ table_count
unfolding short_tables
all_short = refl

-- 22 long bands up to 576, and 13 short ones up to 192
pub long-bands : (t : ℕ) → KnownTable t → Bands 22 576 (long_starts t)
unfolding long_starts
long-bands t h = bands 22 576 _ (at_place [] (λ t starts. test 22 576 starts) long_tables long-tests t (rw all-long h))

pub short-bands : (t : ℕ) → KnownTable t → Bands 13 192 (short_starts t)
unfolding short_starts
short-bands t h = bands 13 192 _ (at_place [] (λ t starts. test 13 192 starts) short_tables short-tests t (rw all_short h))

-- the starts are the running sums of the standard's widths
pub long_sums : long_tables ≡ map (running 0) long_widths
unfolding long_tables long_widths
long_sums = refl

pub short_sums : short_tables ≡ map (running 0) short_widths
unfolding short_tables short_widths
short_sums = refl

-- where a mixed block changes over, position 36: long band 8 starts there, and short band 3, at 3 times 12
change_test : ℕ → Bool
change_test t = eqb (start (long_starts t) 8) 36 && eqb (start (short_starts t) 3) 12

change_tests : T (all_to table_count change_test)
unfolding long_tables short_tables long_starts short_starts change_test all_to
change_tests = tt

module _ (t : ℕ) (h : KnownTable t) where
  changes : T (eqb (start (long_starts t) 8) 36 && eqb (start (short_starts t) 3) 12)
  unfolding change_test
  changes = all_pass table_count change_test change_tests t h

  pub long_change : start (long_starts t) 8 ≡ 36
  long_change = eqb→eq (start (long_starts t) 8) 36 (and_l (eqb (start (long_starts t) 8) 36) (eqb (start (short_starts t) 3) 12) changes)

  pub short_change : start (short_starts t) 3 ≡ 12
  short_change = eqb→eq (start (short_starts t) 3) 12 (and_r (eqb (start (long_starts t) 8) 36) (eqb (start (short_starts t) 3) 12) changes)
