-- Edition 2's kind 2 against ISO/IEC 11172-3: each place is the sum of the three windows, each with zeros where it is not placed, for every float, infinite and NaN too. Assumes nothing.
use mathlib.Core.Path.{◌≡◌, refl, sym, ap, ◌∙◌}
use mathlib.Core.Bool.{Bool, true, false, cond, ◌&&◌}
use mathlib.Core.List.{List}
use Prim.Native.Nat.{ℕ, zero, suc, ◌+◌, ◌-◌, ◌*◌}
use native.Mathlib.Omega.{arith}
use lib.Dec.{T, leb, ltb}
use lib.Ieee.{Float, binary32, of_bits, add, fits}
use lib.Ieee.Fits.{mul-fits}
use Rattle.laws.specs.Lists.{at}
use Rattle.laws.specs.Sum.{zero_f, sum_to}
use Rattle.laws.proofs.Mirror.{Kept, keep_right, sum_kept}
use Rattle.imdct.specs.Imdct.{short_window_place, covers, added_to, added_place}
use Rattle.imdct.specs.Standard.{windowed, placed_at, standard_short}

-- +0.0 adds nothing to a sum from +0.0, which is no -0.0
plus_none : (b : Bool) (y : Float) {x : Float} → Kept x → add binary32 x (cond b y zero_f) ≡ cond b (add binary32 x y) x
unfolding of_bits
plus_none true y w = refl
plus_none false y w = keep_right w false

or-none : (b : Bool) (y : Float) → T (fits binary32 y) → T (fits binary32 (cond b y zero_f))
unfolding of_bits fits
or-none true y h = h
or-none false y h = tt

module _ (w s : List Float) (q : ℕ) where
  abbrev term : ℕ → Float
  term i = placed_at (6 * i + 6) (windowed w (λ k. at s (i + 3 * k))) q

  term_fits : (i : ℕ) → T (fits binary32 (term i))
  term_fits i = or-none (leb (6 * i + 6) q && ltb q (6 * i + 6 + 12)) _ (mul-fits binary32 _ _)

  -- as many windows as one likes
  windows_added : (n : ℕ) → sum_to n term ≡ added_to w s q n
  unfolding sum_to added_to
  windows_added zero = refl
  windows_added (suc i) =
      let e : 6 * i + 6 + 12 ≡ 6 * i + 18 = omega arith in
      let y = short_window_place w s i (q - (6 * i + 6)) in
      ap (λ (n : ℕ). add binary32 (sum_to i term) (cond (leb (6 * i + 6) q && ltb q n) y zero_f)) e
      ∙ plus_none (covers i q) y (sum_kept i term (λ k _. term_fits k))
      ∙ ap (λ (x : Float). cond (covers i q) (add binary32 x y) x) (windows_added i)

  pub added_standard : added_place w s q ≡ standard_short w s q
  added_standard = sym (windows_added 3)
