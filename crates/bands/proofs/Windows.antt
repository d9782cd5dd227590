-- A short block's windows: three to a band, of its width each, and one after the other through all bands. Assumes nothing.
use mathlib.Core.Path.{◌≡◌, ◌∙◌}
use mathlib.Core.List.{List}
use Prim.Native.Nat.{ℕ, ◌+◌, ◌*◌, ◌/◌, ◌%◌, ◌<◌, ◌≤◌}
use native.Mathlib.Nat.{add-zero, mul-le-mul_right, mul-add-div_right, div-eq_of_lt, div-lt_iff_lt-mul}
use native.Mathlib.Omega.{arith}
use Rattle.bands.specs.Bands.{start, width, short_begin, window_begin, Bands}
use Rattle.bands.proofs.Cover.{at_most}

-- ---- within a band of width w

-- window win ends within the three
pub window-ends : (win w : ℕ) → win < 3 → win * w + w ≤ 3 * w
window-ends win w h = let two : win ≤ 2 = omega arith in omega (arith, mul-le-mul_right w two)

-- the window of place j of window win, and of any place
pub window-is : (win w j : ℕ) → j < w → (win * w + j) / w ≡ win
window-is win w j h = mul-add-div_right (omega arith) win j ∙ rw (div-eq_of_lt h) (add-zero win)

pub window-small : (w o : ℕ) → o < 3 * w → o / w < 3
window-small w o h = let some : 0 < w = omega arith in (div-lt_iff_lt-mul some).1 h

-- ---- through all bands

module _ (starts : List ℕ) (b : Bands 13 192 starts) where
  -- each ends within its band's three windows, and so within the channel
  pub run_ends : (g : ℕ) → g < 39 → window_begin starts g + width starts (g / 3) ≤ short_begin starts (g / 3 + 1)
  run_ends g h = omega (arith, window-ends (g % 3) (width starts (g / 3)) (omega arith), b.rises (g / 3) (omega arith))

  pub run_edges : (g : ℕ) → g < 39 → (start starts (g / 3) < start starts (g / 3 + 1)) × (window_begin starts g + width starts (g / 3) ≤ 576)
  run_edges g h = (b.rises (g / 3) (omega arith), omega (arith, run_ends g h, at_most 13 192 starts b (g / 3 + 1) (omega arith)))
