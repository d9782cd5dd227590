-- Any two answers that `stereo`'s promise allows are equal. Assumes nothing.
use mathlib.Core.Path.{◌≡◌}
use mathlib.Core.Bool.{Bool}
use mathlib.Core.List.{List}
use Prim.Native.Nat.{ℕ}
use lib.Ieee.{Float}
use Rattle.laws.proofs.Determined.{determined}
use Rattle.side_info.specs.declared.SideInfo.{SideInfo}
use Rattle.stereo.specs.Stereo.{StereoAnswer}

module _ (n t : ℕ) (ms on : Bool) (a b : SideInfo) (ls rs : List Float) {k j : ℕ} {x y : List Float × List Float} where
  pub stereo_determined : StereoAnswer n t ms on a b ls rs k x → StereoAnswer n t ms on a b ls rs j y → (k ≡ j) × (x ≡ y)
  stereo_determined p q = determined p q
