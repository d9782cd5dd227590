-- What is asked of stereo's numbers: that each ratio, and the root of one half, is the f32 nearest to its formula. From document 01, "Stereo". Assumes nothing.
use Rattle.std.specs.Prelude.{false, ℕ, ◌^◌, Float}
use Rattle.std.specs.Float.Ieee.Exact.{HasValue}
use Rattle.laws.specs.Lists.{at, row}
use Rattle.nearest.specs.Nearest.{NearestTo, NearestF32}
use Rattle.tables.specs.Stereo.{intensity_ratios, half_root}
use Rattle.tables.specs.Surd.{Fraction, Below, Above}
use Rattle.tables.specs.Tangent.{tangent, left_of, right_of}

-- "c the f32 nearest to the root of one half": the square root of 1 / 2
abbrev pub NearestHalfRoot : Type 0
NearestHalfRoot = NearestF32 2 1 2 half_root

-- r is the f32 nearest to the fraction x
abbrev pub NearestFraction : Fraction → Float → Type 0
NearestFraction x = NearestTo (λ m. Below m (2 ^ 150) x) (λ m. Above m (2 ^ 150) x)

-- "p below 6 has t/(1+t) and 1/(1+t), t the tangent of p × 15 degrees": the table's two ratios of position p, left and right
pub record NearestRatios (p : ℕ) : Type 0 where
  pub left : NearestFraction (left_of (tangent p)) (at (row intensity_ratios p) 0)
  pub right : NearestFraction (right_of (tangent p)) (at (row intensity_ratios p) 1)

-- Four of the twelve are the ratio itself: 0 and 1 at position 0, one half twice at position 3.
pub record ExactRatios : Type 0 where
  pub none : HasValue (at (row intensity_ratios 0) 0) false 0 1
  pub all : HasValue (at (row intensity_ratios 0) 1) false 1 1
  pub half_left : HasValue (at (row intensity_ratios 3) 0) false 1 2
  pub half_right : HasValue (at (row intensity_ratios 3) 1) false 1 2
