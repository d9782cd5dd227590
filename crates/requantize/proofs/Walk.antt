-- Walking the bands in order: what a run of positions has in common. Assumes nothing.
use mathlib.Core.Path.{◌≡◌, sym, ap, ◌∙◌}
use mathlib.Core.Bool.{cond}
use mathlib.Core.List.{List}
use Prim.Native.Nat.{ℕ, min, ◌+◌, ◌-◌, ◌*◌, ◌/◌, ◌<◌, ◌≤◌}
use native.Mathlib.Nat.{add-mul, one-mul, add-zero}
use native.Mathlib.Decide.{dec_lt}
use native.Mathlib.Omega.{arith}
use lib.IntN.{ℤ, pos}
use lib.Dec.{ltb}
use lib.Ieee.{Float, nan}
use lib.ListN.{get_or}
use lib.Seq.{get_or-take}
use borrow.Author.Tests.{lt-ltb, le-ltb, ltb-true}
use Rattle.laws.proofs.Lists.{get_d_tab, take-tab, tab-same, Fills}
use Rattle.laws.proofs.Parts.{part, part_at}
use Rattle.bands.specs.Bands.{KnownTable, start, width, long_starts, short_starts, short_band, short_begin}
use Rattle.side_info.specs.declared.SideInfo.{SideInfo}
use Rattle.bands.proofs.Cover.{in_order, at_most, band-is, band-small, no_earlier, no_later}
use Rattle.bands.proofs.ShortBands.{short-place-is, short_offset-is}
use Rattle.bands.proofs.Tables.{long-bands, short-bands}
use Rattle.bands.proofs.Windows.{window-ends, window-is}
use Rattle.powers.specs.Powers.{gain, product}
use Rattle.requantize.specs.Requantize.{number_at, raw_at, long_quarters, short_quarters, long_at, short_at, short_reached}

-- a turn of the walk over the long bands: band k, which begins below the reach, up to its end or the reach
pub record LongTurn (t k begin reach end : ℕ) : Type 0 where
  pub from : begin ≡ start (long_starts t) k
  pub upto : end ≤ start (long_starts t) (k + 1)
  pub up : begin < end
  pub most : end ≤ reach

pub long_turn : (t k begin reach end : ℕ) → KnownTable t → k < 22 → begin ≡ start (long_starts t) k → begin < reach
    → end ≡ min (start (long_starts t) (k + 1)) reach → LongTurn t k begin reach end
long_turn t k begin reach end h hk eb l ee =
    let rises = (long-bands t h).rises k hk in
    record { from = eb; upto = omega arith; up = omega arith; most = omega arith }

-- a run within long band k
module _ (t : ℕ) (s : SideInfo) (xs : List ℤ) (h : KnownTable t) where
  pub long_run : (k a e : ℕ) → k < 22 → start (long_starts t) k ≤ a → e ≤ start (long_starts t) (k + 1) → {g : Float} → g ≡ gain (long_quarters s k)
      → (i : ℕ) → i < e - a → product (number_at (part a e xs) i) g ≡ long_at t s xs (a + i)
  long_run k a e hk l u eg i hi =
      rw (eg, part_at a e xs i (pos 0) hi, band-is 22 576 (long_starts t) (long-bands t h) k (a + i) hk (record { from = omega arith; upto = omega arith }))

-- the positions of short band k, and those from it on
module _ (t : ℕ) (s : SideInfo) (xs : List ℤ) (h : KnownTable t) where
  short-at : (k o : ℕ) → k < 13 → o < 3 * width (short_starts t) k
      → short_at t s xs (short_begin (short_starts t) k + o) ≡ product (number_at xs (short_begin (short_starts t) k + o)) (gain (short_quarters s k (o / width (short_starts t) k)))
  short-at k o hk l = rw (short_offset-is 13 192 (short_starts t) (short-bands t h) k hk o l, short-place-is 13 192 (short_starts t) (short-bands t h) k hk o l)

  pub short_run : (k begin e : ℕ) → k < 13 → begin ≡ short_begin (short_starts t) k → e ≡ short_begin (short_starts t) (k + 1) → begin < s.count1 → {w : ℕ}
      → w ≡ width (short_starts t) k → (i : ℕ) → i < e - begin
      → product (number_at (part begin e xs) i) (gain (short_quarters s k (i / w))) ≡ short_reached t s xs (begin + i)
  short_run k begin e hk eb ee l ew i hi =
      let first = short_begin (short_starts t) k in
      let band = short-place-is 13 192 (short_starts t) (short-bands t h) k hk i (omega arith) in
      rw (ew, part_at begin e xs i (pos 0) hi, eb)
      (sym (rw (ap (λ (j : ℕ). ltb (short_begin (short_starts t) j) s.count1) band ∙ lt-ltb first s.count1 (omega arith)) (short-at k i hk (omega arith))))

  -- from where the reach ends on, no position is reached
  pub not_reached : (reach i : ℕ) → ltb i reach ≡ ltb (short_begin (short_starts t) (short_band (short_starts t) i)) s.count1 → reach ≤ i → raw_at xs i ≡ short_reached t s xs i
  not_reached reach i e l = rw (← e, le-ltb i reach l)

-- a band from `from` on that begins below where the reach ends begins below `c`
pub begins_below :
    (t from k c reach : ℕ) → KnownTable t → from ≤ k → k < 13
    → ((i : ℕ) → short_begin (short_starts t) from ≤ i → i < 576 → ltb i reach ≡ ltb (short_begin (short_starts t) (short_band (short_starts t) i)) c)
    → short_begin (short_starts t) k < reach → short_begin (short_starts t) k < c
begins_below t from k c reach h hf hk each l =
    let b = short-bands t h in
    let first = short_begin (short_starts t) k in
    let rises = b.rises k hk in
    let place : short_band (short_starts t) first ≡ k = rw add-zero at (short-place-is 13 192 (short_starts t) b k hk 0 (omega arith)) in
    let order = in_order 13 192 (short_starts t) b from k hf (omega arith) in
    let most = at_most 13 192 (short_starts t) b (k + 1) (omega arith) in
    ltb-true first c (sym (ap (λ (j : ℕ). ltb (short_begin (short_starts t) j) c) place) ∙ sym (each first (omega arith) (omega arith)) ∙ lt-ltb first reach l)

-- what is filled up to n is filled up to less
pub fills_less : {N n : ℕ} {f : ℕ → Float} {l : List Float} (m : ℕ) → Fills N f n l → m ≤ n → n ≤ N → Fills N f m l
fills_less {N} {n} {f} {l} m w h k = record {
  long = w.long;
  done = take-tab m l nan (omega (arith, w.long))
      ∙ tab-same m _ f (λ i q. sym (get_or-take n l i nan (omega arith)) ∙ ap (λ (x : List Float). get_or x i nan) w.done ∙ get_d_tab n f i nan (omega arith));
}

-- bands from `from` on begin below `c` up to band k, which does not: there the reach ends
module _ (t : ℕ) (h : KnownTable t) (from k c : ℕ) (hf : from ≤ 13) (hk : k ≤ 13) (below : (j : ℕ) → from ≤ j → j < k → short_begin (short_starts t) j < c)
    (above : c ≤ short_begin (short_starts t) k) (i : ℕ) (a : short_begin (short_starts t) from ≤ i) (u : i < 576) where
  pub reach_ends : ltb i (short_begin (short_starts t) k) ≡ ltb (short_begin (short_starts t) (short_band (short_starts t) i)) c
  reach_ends = split (dec_lt i (short_begin (short_starts t) k))
    where
      split : Dec (i < short_begin (short_starts t) k) → ltb i (short_begin (short_starts t) k) ≡ ltb (short_begin (short_starts t) (short_band (short_starts t) i)) c
      split (yes l) =
          let b = short-bands t h in
          let behind = no_earlier 13 192 (short_starts t) b from (i / 3) hf (omega arith) (omega arith) in
          let before = no_later 13 192 (short_starts t) b k (i / 3) hk (omega arith) in
          lt-ltb _ _ l ∙ sym (lt-ltb _ _ (below (short_band (short_starts t) i) behind before))
      split (no l) =
          let b = short-bands t h in
          let later = no_earlier 13 192 (short_starts t) b k (i / 3) hk (omega arith) (omega arith) in
          let small = band-small 13 192 (short_starts t) b (i / 3) (omega arith) in
          let order = in_order 13 192 (short_starts t) b k (short_band (short_starts t) i) later (omega (arith, small)) in
          le-ltb i (short_begin (short_starts t) k) (omega arith) ∙ sym (le-ltb (short_begin (short_starts t) (short_band (short_starts t) i)) c (omega (arith, order)))

-- window win of a short band, whose windows are w wide
module _ (win w : ℕ) where
  pub window-end : {begin : ℕ} → begin ≡ win * w → begin + w ≡ (win + 1) * w
  window-end e = rw (e, add-mul, one-mul)

  pub window-room : {begin : ℕ} → begin ≡ win * w → win < 3 → begin + w ≤ 3 * w
  window-room e h = rw e (window-ends win w h)

  pub window_run : (s : SideInfo) (xs : List ℤ) (k a : ℕ) → a ≡ win * w → {g : Float} → g ≡ gain (short_quarters s k win) → (i : ℕ) → i < (a + w) - a
      → product (number_at (part a (a + w) xs) i) g ≡ product (number_at xs (a + i)) (gain (short_quarters s k ((a + i) / w)))
  window_run s xs k a ea eg i h =
      rw (eg, part_at a (a + w) xs i (pos 0) h) (ap (λ (o : ℕ). product (number_at xs (a + i)) (gain (short_quarters s k o))) (sym (rw ea (window-is win w i (omega arith)))))

-- long below where band `from` begins, and short from there on
abbrev pub rule : ℕ → SideInfo → ℕ → List ℤ → ℕ → Float
rule t s from xs i = cond (ltb i (short_begin (short_starts t) from)) (long_at t s xs i) (short_reached t s xs i)
