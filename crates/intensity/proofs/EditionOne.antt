-- Edition 1 is intensity as it was before there were editions. Assumes nothing.
use mathlib.Core.Path.{◌≡◌, refl}
use mathlib.Core.Bool.{Bool}
use Prim.Native.Nat.{ℕ}
use lib.Ieee.{Float}
use Rattle.side_info.specs.declared.Edition.TheVariants.{First}
use Rattle.side_info.specs.declared.SideInfo.{SideInfo}
use Rattle.intensity.specs.Intensity.{left_ratio, right_ratio, scaled, position_at, position_refused}
use Rattle.intensity.specs.EditionOne as before

module _ (t : ℕ) (a b : SideInfo) where
  pub positions_as_one : (i : ℕ) → position_at First t a b i ≡ before.position_at t a b i
  positions_as_one i = refl

  pub refused_as_one : (on : Bool) → position_refused First on t a b ≡ before.position_refused on t a b
  unfolding position_refused before.position_refused
  refused_as_one on = refl

-- what is scaled is the place's own left number
pub left_as_one : (p : ℕ) (l : Float) → scaled left_ratio p l l ≡ before.scaled_left p l
left_as_one p l = refl

pub right_as_one : (p : ℕ) (l r : Float) → scaled right_ratio p l r ≡ before.scaled_right p l r
right_as_one p l r = refl
