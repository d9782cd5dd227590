-- Short blocks: where position i lies, from its band, its window and its place in the window, over any bands. Assumes nothing.
use mathlib.Core.Path.{◌≡◌}
use mathlib.Core.List.{List}
use Prim.Native.Nat.{ℕ, ◌+◌, ◌*◌, ◌/◌, ◌<◌, ◌≤◌}
use native.Mathlib.Omega.{arith}
use Rattle.bands.specs.Bands.{width, short_band, short_begin, short_offset, short_window, Bands}
use Rattle.bands.proofs.Cover.{band-is}
use Rattle.bands.proofs.Windows.{window-ends, window-is}

module _ (n end : ℕ) (starts : List ℕ) (b : Bands n end starts) (k : ℕ) (h : k < n) where
  -- a position within three times the band
  pub short-band-is : (i : ℕ) → short_begin starts k ≤ i → i < short_begin starts (k + 1) → short_band starts i ≡ k
  short-band-is i l g = band-is n end starts b k (i / 3) h (record { from = omega arith; upto = omega arith })

  -- position o of the band
  module _ (o : ℕ) (l : o < 3 * width starts k) where
    pub short-place-is : short_band starts (short_begin starts k + o) ≡ k
    short-place-is = short-band-is (short_begin starts k + o) (omega arith) (omega (arith, b.rises k h))

    pub short_offset-is : short_offset starts (short_begin starts k + o) ≡ o
    short_offset-is = rw short-place-is (omega arith)

  -- place j of window win
  pub short-window-is : (win j : ℕ) → win < 3 → j < width starts k → short_window starts (short_begin starts k + (win * width starts k + j)) ≡ win
  short-window-is win j w g =
      let inside : win * width starts k + j < 3 * width starts k = omega (arith, window-ends win (width starts k) w) in
      rw (short_offset-is (win * width starts k + j) inside, short-place-is (win * width starts k + j) inside) (window-is win (width starts k) j g)
