-- Runs over a table's bands: each lies within the channel, and run g's places are exactly those whose run is g. Over long and short runs alike. Assumes nothing.
use mathlib.Core.Path.{◌≡◌, ◌∙◌}
use mathlib.Core.Bool.{Bool, true, false, cond}
use mathlib.Core.List.{List}
use Prim.Native.Nat.{ℕ, ◌+◌, ◌-◌, ◌*◌, ◌/◌, ◌%◌, ◌<◌, ◌≤◌}
use native.Mathlib.Nat.{div-add-mod', mod-lt}
use native.Mathlib.Omega.{arith}
use borrow.Author.Tests.{eqb-true, eq-eqb}
use lib.Dec.{eqb}
use lib.ListN.{length}
use Rattle.side_info.specs.declared.Edition.{Edition}
use Rattle.side_info.specs.declared.Edition.TheVariants.{First, Second}
use Rattle.bands.specs.Bands.{KnownTable, long_starts, short_starts, start, width, band_at, short_band, short_begin, short_offset, short_window, window_begin, Bands}
use Rattle.bands.proofs.Cover.{at_most, band-is, band-holds}
use Rattle.bands.proofs.ShortBands.{short-band-is, short-window-is}
use Rattle.bands.proofs.Tables.{long-bands, short-bands}
use Rattle.bands.proofs.Windows.{window-small, run_ends, run_edges}
use Rattle.intensity.specs.Intensity.{Runs, runs, run_count, OnBands, Laid, window_of, run_of, run_start, run_step, run_width, in_run, within}
use Rattle.intensity.proofs.Steps.{inside, is-inside, both, contiguous, among, in-run}

-- ---- long runs

module _ (starts : List ℕ) (b : Bands 22 576 starts) (g i : ℕ) (h : g < 22) (l : i < 576) where
  long-is : within (start starts g) (start starts g + width starts g) i ≡ eqb (band_at starts i) g
  long-is =
      let up = b.rises g h in
      both _ _
      (λ e. let w = inside (start starts g) (start starts g + width starts g) i e in eq-eqb (band_at starts i) g (band-is 22 576 starts b g i h (record { from = w.0; upto = omega arith })))
      (λ e. let w = rw (eqb-true (band_at starts i) g e) at (band-holds 22 576 starts b i l) in is-inside _ _ i w.from (omega (arith, w.upto)))

-- ---- short runs

module _ (starts : List ℕ) (b : Bands 13 192 starts) where
  -- a place lies in one of its band's three windows, between that window's ends
  module _ (i : ℕ) (l : i < 576) where
    window-below : short_window starts i < 3
    window-below =
        let w = band-holds 13 192 starts b (i / 3) (omega arith) in
        window-small (width starts (short_band starts i)) (short_offset starts i) (omega (arith, w.from, w.upto))

    in_window :
        let k = short_band starts i in
        let at = short_begin starts k + short_window starts i * width starts k in
        (at ≤ i) × (i < at + width starts k)
    in_window =
        let k = short_band starts i in
        let w = band-holds 13 192 starts b (i / 3) (omega arith) in
        let wide : 0 < width starts k = omega (arith, w.from, w.upto) in
        let split = div-add-mod' (short_offset starts i) (width starts k) in
        let rest = mod-lt (short_offset starts i) wide in
        (omega (arith, w.from), omega (arith, w.from))

  module _ (g i : ℕ) (h : g < 39) (l : i < 576) where
    short-is : within (window_begin starts g) (window_begin starts g + width starts (g / 3)) i ≡ eqb (3 * short_band starts i + short_window starts i) g
    short-is = both _ _ to from
      where
        k : ℕ
        k = g / 3

        to : within (window_begin starts g) (window_begin starts g + width starts k) i ≡ true → eqb (3 * short_band starts i + short_window starts i) g ≡ true
        to e =
            let w = inside (window_begin starts g) (window_begin starts g + width starts k) i e in
            let j = i - window_begin starts g in
            let place : short_begin starts k + (g % 3 * width starts k + j) ≡ i = omega arith in
            let band = short-band-is 13 192 starts b k (omega arith) i (omega arith) (omega (arith, run_ends starts b g h)) in
            let win = rw place at (short-window-is 13 192 starts b k (omega arith) (g % 3) j (omega arith) (omega arith)) in
            eq-eqb (3 * short_band starts i + short_window starts i) g (rw (win, band) (omega arith))

        from : eqb (3 * short_band starts i + short_window starts i) g ≡ true → within (window_begin starts g) (window_begin starts g + width starts k) i ≡ true
        from e =
            let sum = eqb-true (3 * short_band starts i + short_window starts i) g e in
            let small = window-below i l in
            let win : short_window starts i ≡ g % 3 = omega arith in
            let band : short_band starts i ≡ k = omega arith in
            let w = rw (win, band) at (in_window i l) in
            is-inside (window_begin starts g) (window_begin starts g + width starts k) i w.0 w.1

-- ---- short runs whose places are each third one, as edition 2 has them

module _ (starts : List ℕ) (b : Bands 13 192 starts) (g : ℕ) (h : g < 39) where
  pub thirds_inside : (j : ℕ) → j < width starts (g / 3) → short_begin starts (g / 3) + g % 3 + 3 * j < short_begin starts (g / 3 + 1)
  thirds_inside j l = omega (arith, b.rises (g / 3) (omega arith))

  module _ (i : ℕ) (l : i < 576) where
    thirds_is : in_run (short_begin starts (g / 3) + g % 3) 3 (width starts (g / 3)) i ≡ eqb (3 * short_band starts i + short_offset starts i % 3) g
    thirds_is = both _ _ to from
      where
        k : ℕ
        k = g / 3

        to : in_run (short_begin starts k + g % 3) 3 (width starts k) i ≡ true → eqb (3 * short_band starts i + short_offset starts i % 3) g ≡ true
        to e =
            let w = among (short_begin starts k + g % 3) 3 (width starts k) i (omega arith) e in
            let band = short-band-is 13 192 starts b k (omega arith) i (omega (arith, w.is)) (omega (arith, w.is, thirds_inside w.index w.below)) in
            eq-eqb (3 * short_band starts i + short_offset starts i % 3) g (rw band (omega (arith, w.is)))

        from : eqb (3 * short_band starts i + short_offset starts i % 3) g ≡ true → in_run (short_begin starts k + g % 3) 3 (width starts k) i ≡ true
        from e =
            let sum = eqb-true (3 * short_band starts i + short_offset starts i % 3) g e in
            let band : short_band starts i ≡ k = omega arith in
            let w = rw band at (band-holds 13 192 starts b (i / 3) (omega arith)) in
            let window : short_offset starts i % 3 ≡ g % 3 = omega arith in
            let third = rw band at window in
            in-run (short_begin starts k + g % 3) 3 (width starts k) i (omega arith)
            (record { index = (i - short_begin starts k) / 3; below = omega (arith, w.upto); is = omega (arith, w.from) })

-- ---- all runs

-- a run has a place, and its places lie within the channel
pub record Held (r : Runs) (g : ℕ) : Type 0 where
  pub steps : 0 < run_step r g
  pub some : 0 < run_width r g
  pub each : (j : ℕ) → j < run_width r g → run_start r g + run_step r g * j < 576

pub run_held : (r : Runs) → OnBands r → (g : ℕ) → g < run_count r.short → Held r g
run_held r w g h = go r.edition r.short w h
  where
    go : (e : Edition) (short : Bool) → Bands (cond short 13 22) (cond short 192 576) r.starts → g < run_count short → Held (runs e short r.starts r.factors r.count1) g
    go First true b h = let e = run_edges r.starts b g h in record { steps = omega arith; some = omega (arith, e.0); each = λ j l. omega (arith, e.1) }
    go Second true b h =
        let most = at_most 13 192 r.starts b (g / 3 + 1) (omega arith) in
        record { steps = omega arith; some = omega (arith, b.rises (g / 3) (omega arith)); each = λ j l. omega (arith, thirds_inside r.starts b g h j l) }
    go e false b h =
        let up = b.rises g h in
        let most = at_most 22 576 r.starts b (g + 1) (omega arith) in
        record { steps = omega arith; some = omega arith; each = λ j l. omega arith }

-- its places are those whose run it is
pub run_is : (r : Runs) → OnBands r → (g i : ℕ) → g < run_count r.short → i < 576 → in_run (run_start r g) (run_step r g) (run_width r g) i ≡ eqb (run_of r i) g
run_is r w g i h l = go r.edition r.short w h
  where
    go :
        (e : Edition) (short : Bool) → Bands (cond short 13 22) (cond short 192 576) r.starts → g < run_count short
        → let q = runs e short r.starts r.factors r.count1 in in_run (run_start q g) (run_step q g) (run_width q g) i ≡ eqb (run_of q i) g
    go First true b h = contiguous (window_begin r.starts g) (width r.starts (g / 3)) i ∙ short-is r.starts b g i h l
    go Second true b h = thirds_is r.starts b g h i l
    go e false b h = contiguous (start r.starts g) (width r.starts g) i ∙ long-is r.starts b g i h l

-- a place's window is one of three
pub one_of_three : (e : Edition) (starts : List ℕ) → Bands 13 192 starts → (i : ℕ) → i < 576 → window_of e starts i < 3
one_of_three First starts b i l = window-below starts b i l
one_of_three Second starts b i l = omega arith

-- the runs of a table, whose starts `long_bands` and `short_bands` return
module _ {e : Edition} {starts factors : List ℕ} {count : ℕ} (t : ℕ) (h : KnownTable t) where
  pub long_laid : starts ≡ long_starts t → length factors ≡ 22 → Laid (runs e false starts factors count)
  long_laid s n = record { bands = rw s (long-bands t h); each = n }

  pub short_laid : starts ≡ short_starts t → length factors ≡ 39 → Laid (runs e true starts factors count)
  short_laid s n = record { bands = rw s (short-bands t h); each = n }
