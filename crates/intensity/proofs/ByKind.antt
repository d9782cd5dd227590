-- By the block type: the long runs below `long_to`, and then the short runs from `short_from` on, scale each place once and by its position. Assumes nothing.
use mathlib.Core.Path.{◌≡◌, refl}
use mathlib.Core.Bool.{Bool, true, false, cond, and-eq-true_iff}
use mathlib.Core.List.{List}
use Prim.Native.Nat.{ℕ, ◌/◌, ◌<◌, ◌≤◌}
use native.Mathlib.Omega.{arith}
use borrow.Author.Tests.{ltb-true, ltb-false, not-false}
use lib.Dec.{ltb}
use lib.Ieee.{Float}
use Rattle.side_info.specs.declared.BlockType.{BlockType}
use Rattle.side_info.specs.declared.BlockType.TheVariants.{Long, Short, Mixed, Start, End}
use Rattle.side_info.specs.declared.Edition.{Edition}
use Rattle.side_info.specs.declared.SideInfo.{SideInfo}
use Rattle.bands.specs.Bands.{KnownTable, long_starts, short_starts}
use Rattle.bands.proofs.Cover.{no_earlier, no_later}
use Rattle.bands.proofs.Tables.{long-bands, short-bands, long_change, short_change}
use Rattle.intensity.specs.Intensity.{long_runs, short_runs, run_of, position_in, fit, long_to, short_from, is_long, position_at, position_too_high}
use Rattle.intensity.proofs.Places.{Scaled, scaled_join, Joined, by_first, by_second, position-none}
use Rattle.intensity.proofs.Runs.{one_of_three}
use Rattle.intensity.proofs.Steps.{not-below, not-above}

module _ (e : Edition) (t : ℕ) (h : KnownTable t) (a b : SideInfo) (i : ℕ) (l : i < 576) where
  -- below place 36 no short run from 9 on has a place, from it on no long run below 8 has
  low-position : i < 36 → position_in (short_runs e t a b) 9 36 i ≡ 7
  low-position k =
      let s = short-bands t h in
      let band = no_later 13 192 (short_starts t) s 3 (i / 3) (omega arith) (omega (arith, short_change t h)) in
      let win = one_of_three e (short_starts t) s i l in
      rw (not-below 9 36 (run_of (short_runs e t a b) i) (omega arith))

  high_position : 36 ≤ i → position_in (long_runs e t a b) 0 8 i ≡ 7
  high_position k =
      let band = no_earlier 22 576 (long_starts t) (long-bands t h) 8 i (omega arith) (omega (arith, long_change t h)) l in
      rw (not-above 0 8 (run_of (long_runs e t a b) i) band)

  mixed : let p = position_in (long_runs e t a b) 0 8 i in let q = position_in (short_runs e t a b) 9 36 i in Joined p q (cond (ltb i 36) p q)
  mixed = go (ltb i 36) refl
    where
      go : (low : Bool) → ltb i 36 ≡ low → let p = position_in (long_runs e t a b) 0 8 i in let q = position_in (short_runs e t a b) 9 36 i in Joined p q (cond low p q)
      go true q = by_first (low-position (ltb-true i 36 q)) refl
      go false q = by_second (high_position (ltb-false i 36 q)) refl

  pub by_kind :
      Joined (position_in (long_runs e t a b) 0 (long_to a.block_type) i) (position_in (short_runs e t a b) (short_from a.block_type) 36 i) (position_at e t a b i)
  by_kind = go a.block_type
    where
      long : ℕ → ℕ
      long to = position_in (long_runs e t a b) 0 to i

      short : ℕ → ℕ
      short from = position_in (short_runs e t a b) from 36 i

      go : (kind : BlockType) → Joined (long (long_to kind)) (short (short_from kind)) (cond (is_long kind i) (long (long_to kind)) (short (short_from kind)))
      go Long = by_first (position-none (short_runs e t a b) 36 i) refl
      go Start = by_first (position-none (short_runs e t a b) 36 i) refl
      go End = by_first (position-none (short_runs e t a b) 36 i) refl
      go Short = by_second (position-none (long_runs e t a b) 0 i) refl
      go Mixed = mixed

-- the long runs and then the short ones
module _ (ratio : ℕ → Float) (from : List Float) (e : Edition) (t : ℕ) (h : KnownTable t) (a b : SideInfo) where
  pub scaled_both :
      (x₀ : List Float) {x₁ x : List Float} → Scaled ratio from 576 (position_in (long_runs e t a b) 0 (long_to a.block_type)) x₀ x₁
      → Scaled ratio from 576 (position_in (short_runs e t a b) (short_from a.block_type) 36) x₁ x → Scaled ratio from 576 (position_at e t a b) x₀ x
  scaled_both x₀ f g = scaled_join f g (λ i l. by_kind e t h a b i l)

pub both_fit :
    (e : Edition) (t : ℕ) (a b : SideInfo) → position_too_high e t a b ≡ false
    → (fit (long_runs e t a b) 0 (long_to a.block_type) ≡ true) × (fit (short_runs e t a b) (short_from a.block_type) 36 ≡ true)
both_fit e t a b q = (and-eq-true_iff _ _).0 (not-false _ q)

-- the long ones are runs that there are
pub long-most : (kind : BlockType) → long_to kind ≤ 22
long-most Long = omega arith
long-most Start = omega arith
long-most End = omega arith
long-most Short = omega arith
long-most Mixed = omega arith
