-- Edition 1 is stereo as it was before there were editions. Assumes nothing.
use mathlib.Core.Path.{◌≡◌, refl}
use mathlib.Core.Bool.{Bool}
use mathlib.Core.List.{List}
use Prim.Native.Nat.{ℕ}
use lib.Ieee.{Float}
use Rattle.side_info.specs.declared.Edition.TheVariants.{First}
use Rattle.side_info.specs.declared.SideInfo.{SideInfo}
use Rattle.intensity.specs.Intensity as intensity
use Rattle.intensity.specs.EditionOne as intensity-before
use Rattle.stereo.specs.Stereo.{stereo_left, stereo_right, StereoAnswer}
use Rattle.stereo.specs.EditionOne as before

module _ (t : ℕ) (ms on : Bool) (a b : SideInfo) (ls rs : List Float) where
  pub left_as_one : stereo_left First t ms on a b ls rs ≡ before.stereo_left t ms on a b ls rs
  unfolding stereo_left before.stereo_left
  left_as_one = refl

  pub right_as_one : stereo_right First t ms on a b ls rs ≡ before.stereo_right t ms on a b ls rs
  unfolding stereo_right before.stereo_right
  right_as_one = refl

  -- what the entry point answers at edition 1 is what it answered, and the other way round
  module _ {k : ℕ} {ys : List Float × List Float} where
    pub answer_as_one : StereoAnswer 1 t ms on a b ls rs k ys → before.StereoAnswer t ms on a b ls rs k ys
    unfolding intensity.position_refused intensity-before.position_refused stereo_left stereo_right before.stereo_left before.stereo_right
    answer_as_one w = record { number = w.number; leaves = w.leaves }

    pub as_one_answer : before.StereoAnswer t ms on a b ls rs k ys → StereoAnswer 1 t ms on a b ls rs k ys
    unfolding intensity.position_refused intensity-before.position_refused stereo_left stereo_right before.stereo_left before.stereo_right
    as_one_answer w = record { number = w.number; leaves = w.leaves }
