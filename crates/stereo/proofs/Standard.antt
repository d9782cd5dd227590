-- Edition 2's intensity against ISO/IEC 11172-3: each pair of places is scaled by the right channel's factor of its band, or of the window whose number stands there after reorder. Assumes nothing.
use mathlib.Core.Path.{◌≡◌, refl, sym, ap, ◌∙◌}
use mathlib.Core.Bool.{Bool, true, false, true≢false}
use mathlib.Core.List.{List}
use Prim.Native.Nat.{ℕ, ◌+◌, ◌*◌, ◌/◌, ◌%◌, ◌<◌, ◌≤◌}
use native.Mathlib.Omega.{arith}
use borrow.Author.Tests.{ne_eqb, lt-ltb, le-ltb}
use lib.Ieee.{Float, nan}
use lib.ListN.{get_or}
use Rattle.laws.proofs.Lists.{get_d_tab}
use Rattle.side_info.specs.declared.BlockType.{BlockType}
use Rattle.side_info.specs.declared.BlockType.TheVariants.{Long, Short, Mixed, Start, End}
use Rattle.side_info.specs.declared.Edition.TheVariants.{Second}
use Rattle.side_info.specs.declared.SideInfo.{SideInfo}
use Rattle.side_info.specs.Kinds.{by_kind}
use Rattle.bands.specs.Bands.{KnownTable, long_starts, short_starts, start, width, short_begin, InBand}
use Rattle.bands.proofs.Cover.{band-is, in_order, no_earlier}
use Rattle.bands.proofs.ShortBands.{short-place-is, short_offset-is}
use Rattle.bands.proofs.Tables.{long-bands, short-bands, long_change, short_change}
use Rattle.reorder.specs.Reorder.{target}
use Rattle.reorder.proofs.Standard.{goes_to}
use Rattle.intensity.specs.Intensity.{long_runs, short_runs, run_of, position_in, long_to, is_long}
use Rattle.intensity.proofs.Steps.{is-inside, not-above}
use Rattle.stereo.specs.Stereo.{mid_side_end, position, stereo_left, stereo_right}
use Rattle.stereo.specs.Standard.{by_factor, LongPairs, ShortPairs, LongLeft, ShortLeft, Pair, MidSidePair}

-- Long, Start and End
long-kind : (kind : BlockType) → by_kind kind true false false ≡ true → (i : ℕ) → (is_long kind i ≡ true) × (long_to kind ≡ 21)
long-kind Long e i = (refl, refl)
long-kind Start e i = (refl, refl)
long-kind End e i = (refl, refl)
long-kind Short e i = absurd (true≢false (sym e))
long-kind Mixed e i = absurd (true≢false (sym e))

module _ (t : ℕ) (h : KnownTable t) (a b : SideInfo) where
  -- a place of long band k
  long-place : (to k i : ℕ) → k < to → k < 22 → InBand (long_starts t) k i
      → position_in (long_runs Second t a b) 0 to i ≡ by_factor b (start (long_starts t) k) (get_or b.scalefac_l k 0)
  long-place to k i l m w =
      let band = band-is 22 576 (long_starts t) (long-bands t h) k i m w in
      rw (band, is-inside 0 to k (omega arith) l) refl

  -- number j of window win of short band k, where reorder puts it
  short-place : (from k win j : ℕ) → from ≤ 3 * k → k < 12 → win < 3 → j < width (short_starts t) k
      → position_in (short_runs Second t a b) from 36 (short_begin (short_starts t) k + (3 * j + win))
      ≡ by_factor b (short_begin (short_starts t) k) (get_or b.scalefac_s (3 * k + win) 0)
  short-place from k win j f l hw hj =
      let o = 3 * j + win in
      let band = short-place-is 13 192 (short_starts t) (short-bands t h) k (omega arith) o (omega arith) in
      let offset = short_offset-is 13 192 (short_starts t) (short-bands t h) k (omega arith) o (omega arith) in
      let third : o % 3 ≡ win = omega arith in
      let back : (3 * k + win) / 3 ≡ k = omega arith in
      let run : run_of (short_runs Second t a b) (short_begin (short_starts t) k + o) ≡ 3 * k + win = rw (offset, band, third) refl in
      rw (run, is-inside from 36 (3 * k + win) (omega arith) (omega arith), back) refl

  at_target : (k win j : ℕ) → k < 12 → win < 3 → j < width (short_starts t) k → (p : ℕ)
      → position Second true t a b (short_begin (short_starts t) k + (3 * j + win)) ≡ p
      → position Second true t a b (target (short_starts t) (short_begin (short_starts t) k + (win * width (short_starts t) k + j))) ≡ p
  at_target k win j l hw hj p e = ap (position Second true t a b) (goes_to t k h (omega arith) win j hw hj) ∙ e

  -- ---- by channel 0's block type

  pub long_pairs : by_kind a.block_type true false false ≡ true → LongPairs t 21 a b
  long_pairs e = record { each = λ k i l w. let q = long-kind a.block_type e i in rw (q.0, q.1) (long-place 21 k i l (omega arith) w) }

  pub short_pairs : a.block_type ≡ Short → ShortPairs t 0 a b
  short_pairs e = record {
    each = λ k win j f l hw hj. at_target k win j l hw hj _ (rw e (short-place 0 k win j (omega arith) l hw hj));
  }

  pub mixed_long_pairs : a.block_type ≡ Mixed → LongPairs t 8 a b
  mixed_long_pairs e = record {
    each = λ k i l w.
        let low : i < 36 = omega (arith, w.upto, long_change t h, in_order 22 576 (long_starts t) (long-bands t h) (k + 1) 8 (omega arith) (omega arith)) in
        rw (e, lt-ltb i 36 low) (long-place 8 k i l (omega arith) w);
  }

  pub mixed_short_pairs : a.block_type ≡ Mixed → ShortPairs t 3 a b
  mixed_short_pairs e = record {
    each = λ k win j f l hw hj.
        let high : 36 ≤ short_begin (short_starts t) k + (3 * j + win) = omega (arith, short_change t h, in_order 13 192 (short_starts t) (short-bands t h) 3 k f (omega arith)) in
        at_target k win j l hw hj _ (rw (e, le-ltb (short_begin (short_starts t) k + (3 * j + win)) 36 high) (short-place 9 k win j (omega arith) l hw hj));
  }

  -- ---- the bands that intensity does not look at

  above : (from i : ℕ) → short_begin (short_starts t) 12 ≤ i → i < 576 → position_in (short_runs Second t a b) from 36 i ≡ 7
  above from i l u =
      let band = no_earlier 13 192 (short_starts t) (short-bands t h) 12 (i / 3) (omega arith) (omega arith) (omega arith) in
      rw (not-above from 36 (run_of (short_runs Second t a b) i) (omega arith)) refl

  pub long-left : by_kind a.block_type true false false ≡ true → LongLeft t a b
  long-left e = record {
    each = λ i l u.
        let q = long-kind a.block_type e i in
        let band = no_earlier 22 576 (long_starts t) (long-bands t h) 21 i (omega arith) l u in
        rw (q.0, q.1, not-above 0 21 (run_of (long_runs Second t a b) i) band) refl;
  }

  pub short-left : a.block_type ≡ Short → ShortLeft t a b
  short-left e = record { each = λ i l u. rw e (above 0 i l u) }

  pub mixed_left : a.block_type ≡ Mixed → ShortLeft t a b
  mixed_left e = record {
    each = λ i l u.
        let high : 36 ≤ i = omega (arith, short_change t h, in_order 13 192 (short_starts t) (short-bands t h) 3 12 (omega arith) (omega arith)) in
        rw (e, le-ltb i 36 high) (above 9 i l u);
  }

-- ---- what a position makes of its pair of places, whatever mid-side is

module _ (t : ℕ) (ms : Bool) (a b : SideInfo) (ls rs : List Float) (i : ℕ) (l : i < 576) where
  pub pair-scaled : (position Second true t a b i ≡ 7 → ⊥)
      → Pair (position Second true t a b i) i ls (stereo_left Second t ms true a b ls rs) (stereo_right Second t ms true a b ls rs)
  unfolding stereo_left stereo_right
  pair-scaled n = record {
    left = get_d_tab 576 _ i nan l ∙ rw (ne_eqb (position Second true t a b i) 7 n) refl;
    right = get_d_tab 576 _ i nan l ∙ rw (ne_eqb (position Second true t a b i) 7 n) refl;
  }

  pub pair-kept : position Second true t a b i ≡ 7 → MidSidePair (mid_side_end ms a b) i ls rs (stereo_left Second t ms true a b ls rs) (stereo_right Second t ms true a b ls rs)
  unfolding stereo_left stereo_right
  pair-kept e = record { left = get_d_tab 576 _ i nan l ∙ rw e refl; right = get_d_tab 576 _ i nan l ∙ rw e refl }
