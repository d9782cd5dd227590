-- Edition 2 against ISO/IEC 11172-3: each of the thirteen bands that `count1` reaches leaves in the standard's order, and the others as they came. Assumes nothing.
use mathlib.Core.Path.{◌≡◌, refl, sym, ap, ◌∙◌}
use mathlib.Core.Bool.{true, false, true≢false}
use mathlib.Core.List.{List}
use Prim.Native.Nat.{ℕ, ◌+◌, ◌*◌, ◌/◌, ◌<◌, ◌≤◌}
use native.Mathlib.Omega.{arith}
use lib.Ieee.{Float, nan}
use borrow.Author.Tests.{le-leb, lt-leb, lt-ltb}
use Rattle.laws.specs.Lists.{at, tab}
use Rattle.laws.proofs.Lists.{get_d_tab}
use Rattle.side_info.specs.declared.BlockType.{BlockType}
use Rattle.side_info.specs.declared.BlockType.TheVariants.{Long, Short, Mixed, Start, End}
use Rattle.side_info.specs.declared.Edition.TheVariants.{Second}
use Rattle.side_info.specs.Kinds.{by_kind}
use Rattle.bands.specs.Bands.{KnownTable, short_band, width, short_starts, short_begin}
use Rattle.bands.proofs.Cover.{at_most, no_later}
use Rattle.bands.proofs.Tables.{short-bands, short_change}
use Rattle.reorder.specs.Reorder.{reached, reordered_bands, source, target, reordered_from, reordered_at, reordered}
use Rattle.reorder.specs.Standard.{StandardOrder, AsTheyCame, Unmoved}
use Rattle.reorder.proofs.Triples.{triple_from, place-source, kept}
use Rattle.reorder.proofs.WindowOrder.{window_order, target_of_source}

-- band k, from the first one on
module _ (t k : ℕ) (h : KnownTable t) (hk : k < 13) (first count : ℕ) (from : first ≤ k) (xs : List Float) where
  abbrev starts : List ℕ
  starts = short_starts t

  abbrev rule : ℕ → Float
  rule = reordered_from (reordered_bands Second) first starts count xs

  place : (o : ℕ) → o < 3 * width starts k → at (tab 576 rule) (short_begin starts k + o) ≡ rule (short_begin starts k + o)
  place o l =
      get_d_tab 576 rule (short_begin starts k + o) nan
      (omega (arith, (short-bands t h).rises k hk, at_most 13 192 starts (short-bands t h) (k + 1) (omega arith)))

  in_order : reached first starts count k ≡ true → StandardOrder starts k xs (tab 576 rule)
  in_order r = record {
    goes = λ win j hw hj.
        place (3 * j + win) (omega arith) ∙ window_order t k h hk (reordered_bands Second) first count xs (rw (le-leb first k from, lt-ltb k 13 hk, r)) win j hw hj;
  }

  as_they_came : reached first starts count k ≡ false → AsTheyCame starts k xs (tab 576 rule)
  as_they_came r = record {
    stays = λ o l. place o l ∙ kept t k h hk o l (reordered_bands Second) first count xs (rw (le-leb first k from, lt-ltb k 13 hk, r));
  }

-- number j of window win goes to place win of line j
module _ (t k : ℕ) (h : KnownTable t) (hk : k < 13) (win j : ℕ) (hw : win < 3) (hj : j < width (short_starts t) k) where
  pub goes_to : target (short_starts t) (short_begin (short_starts t) k + (win * width (short_starts t) k + j)) ≡ short_begin (short_starts t) k + (3 * j + win)
  goes_to =
      let o = 3 * j + win in
      let w = width (short_starts t) k in
      let inside : o < 3 * w = omega arith in
      let from : source (short_starts t) (short_begin (short_starts t) k + o) ≡ short_begin (short_starts t) k + (win * w + j) =
      place-source t k h hk o inside ∙ ap (λ (p : ℕ). short_begin (short_starts t) k + p) (triple_from w j win o hw (omega arith)) in
      ap (target (short_starts t)) (sym from) ∙ target_of_source t k h hk o inside

-- the stage: Short from band 0, Mixed from band 3
module _ (t k : ℕ) (h : KnownTable t) (hk : k < 13) (count : ℕ) (xs : List Float) where
  pub short_in_order : reached 0 (short_starts t) count k ≡ true → StandardOrder (short_starts t) k xs (reordered Second t Short count xs)
  unfolding reordered
  short_in_order = in_order t k h hk 0 count (omega arith) xs

  pub short_as_they_came : reached 0 (short_starts t) count k ≡ false → AsTheyCame (short_starts t) k xs (reordered Second t Short count xs)
  unfolding reordered
  short_as_they_came = as_they_came t k h hk 0 count (omega arith) xs

  pub mixed_in_order : 3 ≤ k → reached 3 (short_starts t) count k ≡ true → StandardOrder (short_starts t) k xs (reordered Second t Mixed count xs)
  unfolding reordered
  mixed_in_order from = in_order t k h hk 3 count from xs

  pub mixed_as_they_came : 3 ≤ k → reached 3 (short_starts t) count k ≡ false → AsTheyCame (short_starts t) k xs (reordered Second t Mixed count xs)
  unfolding reordered
  mixed_as_they_came from = as_they_came t k h hk 3 count from xs

-- what has no short bands: a Mixed block's places below 36, and the long kinds
pub mixed_long_kept : (t : ℕ) → KnownTable t → (count : ℕ) (xs : List Float) → Unmoved 36 xs (reordered Second t Mixed count xs)
unfolding reordered
mixed_long_kept t h count xs = record {
  stays = λ i l.
      let band = no_later 13 192 (short_starts t) (short-bands t h) 3 (i / 3) (omega arith) (omega (arith, short_change t h)) in
      get_d_tab 576 (reordered_at Second t Mixed count xs) i nan (omega arith) ∙ rw (lt-leb 3 (short_band (short_starts t) i) band) refl;
}

pub long_kinds_kept : (t : ℕ) (kind : BlockType) → by_kind kind true false false ≡ true → (count : ℕ) (xs : List Float) → Unmoved 576 xs (reordered Second t kind count xs)
unfolding reordered
long_kinds_kept t Long e count xs = record { stays = λ i l. get_d_tab 576 (reordered_at Second t Long count xs) i nan l }
long_kinds_kept t Start e count xs = record { stays = λ i l. get_d_tab 576 (reordered_at Second t Start count xs) i nan l }
long_kinds_kept t End e count xs = record { stays = λ i l. get_d_tab 576 (reordered_at Second t End count xs) i nan l }
long_kinds_kept t Short e count xs = absurd (true≢false (sym e))
long_kinds_kept t Mixed e count xs = absurd (true≢false (sym e))
