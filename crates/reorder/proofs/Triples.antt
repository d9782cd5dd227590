-- Triples and windows: what comes to place win of triple j is number j of window win. Assumes nothing.
use mathlib.Core.Path.{◌≡◌, sym, ap, ◌∙◌}
use mathlib.Core.Bool.{true, false}
use mathlib.Core.List.{List}
use Prim.Native.Nat.{ℕ, ◌+◌, ◌-◌, ◌*◌, ◌/◌, ◌%◌, ◌<◌, ◌≤◌}
use native.Mathlib.Omega.{arith}
use lib.Ieee.{Float, nan}
use Rattle.laws.specs.Lists.{at}
use Rattle.laws.proofs.Parts.{part, part_at}
use Rattle.bands.specs.Bands.{KnownTable, width, short_starts, short_begin}
use Rattle.bands.proofs.ShortBands.{short-place-is, short_offset-is}
use Rattle.bands.proofs.Tables.{short-bands}
use Rattle.bands.proofs.Windows.{window-ends}
use Rattle.reorder.specs.Reorder.{reorders, source, reordered_from}

-- "what comes to 3j + win is from win × w + j"
pub triple_from : (w j win o : ℕ) → win < 3 → o ≡ 3 * j + win → o % 3 * w + o / 3 ≡ win * w + j
triple_from w j win o h e =
    let window : o % 3 ≡ win = omega arith in
    let triple : o / 3 ≡ j = omega arith in
    rw (window, triple)

-- it lies in the band
pub triple_inside : (w o : ℕ) → o < 3 * w → o % 3 * w + o / 3 < 3 * w
triple_inside w o h = omega (arith, window-ends (o % 3) w (omega arith))

-- the places of short band k
module _ (t k : ℕ) (h : KnownTable t) (hk : k < 13) (o : ℕ) (l : o < 3 * width (short_starts t) k) where
  pub place-source : source (short_starts t) (short_begin (short_starts t) k + o) ≡ short_begin (short_starts t) k + (o % 3 * width (short_starts t) k + o / 3)
  place-source = rw (short_offset-is 13 192 (short_starts t) (short-bands t h) k hk o l, short-place-is 13 192 (short_starts t) (short-bands t h) k hk o l)

  module _ (last first count : ℕ) (xs : List Float) where
    -- a band that is reordered
    pub moved : reorders last first (short_starts t) count k ≡ true
        → reordered_from last first (short_starts t) count xs (short_begin (short_starts t) k + o) ≡ at xs (short_begin (short_starts t) k + (o % 3 * width (short_starts t) k + o / 3))
    moved e = rw (ap (reorders last first (short_starts t) count) (short-place-is 13 192 (short_starts t) (short-bands t h) k hk o l) ∙ e) (ap (at xs) place-source)

    -- a band that is not keeps its numbers
    pub kept : reorders last first (short_starts t) count k ≡ false
        → reordered_from last first (short_starts t) count xs (short_begin (short_starts t) k + o) ≡ at xs (short_begin (short_starts t) k + o)
    kept e = rw (ap (reorders last first (short_starts t) count) (short-place-is 13 192 (short_starts t) (short-bands t h) k hk o l) ∙ e)

-- a run that is band k, read from a copy of the samples and laid out, or left as it is
module _ (t k : ℕ) (h : KnownTable t) (hk : k < 13) (begin e : ℕ) (eb : begin ≡ short_begin (short_starts t) k) (ee : e ≡ short_begin (short_starts t) (k + 1)) (last first count : ℕ) (xs : List Float) where
  pub laid_out : reorders last first (short_starts t) count k ≡ true → {w : ℕ} → w ≡ width (short_starts t) k → {old : List Float} → old ≡ xs → (o : ℕ) → o < e - begin
      → at (part begin e old) (o % 3 * w + o / 3) ≡ reordered_from last first (short_starts t) count xs (begin + o)
  laid_out r {w} ew {old} eo o l =
      let inside = triple_inside w o (omega arith) in
      part_at begin e old (o % 3 * w + o / 3) nan (omega arith) ∙ rw (eo, ew, eb) (sym (moved t k h hk o (omega arith) last first count xs r))

  pub left_alone : reorders last first (short_starts t) count k ≡ false → (i : ℕ) → begin ≤ i → i < e → reordered_from last first (short_starts t) count xs i ≡ at xs i
  left_alone r i l u =
      let o = i - short_begin (short_starts t) k in
      let back : short_begin (short_starts t) k + o ≡ i = omega arith in
      rw back at (kept t k h hk o (omega arith) last first count xs r)
