-- The tangents of the intensity positions 0 to 5, and the ratios by them. From document 01, "Stereo". Assumes nothing.
use Rattle.std.specs.Prelude.{◌≡◌, List, [], ◌∷◌, ℕ, suc, ◌<◌, get_or}
use Rattle.tables.specs.Surd.{surd, plus, times, Less, Fraction, fraction, Below, Above}

-- tan 0, tan 15, .., tan 75 degrees. tan 45 = 1, and tan 30 = 1 / √3, tan 60 = √3 from half a triangle of three equal sides. The half angle's formula,
-- tan (a / 2) = sin a / (1 + cos a), has at 30 degrees the value 1 / (2 + √3), which is 2 - √3; and tan 75 = 1 / tan 15 = 2 + √3.
unfoldable pub tangents : List Fraction
tangents =
    fraction (surd 0 0) (surd 1 0)
    ∷ fraction (surd 1 0) (surd 2 1)
    ∷ fraction (surd 1 0) (surd 0 1)
    ∷ fraction (surd 1 0) (surd 1 0)
    ∷ fraction (surd 0 1) (surd 1 0)
    ∷ fraction (surd 2 1) (surd 1 0)
    ∷ []

-- "t the tangent of p × 15 degrees", for "p below 6"
abbrev pub tangent : ℕ → Fraction
tangent p = get_or tangents p (fraction (surd 0 0) (surd 1 0))

-- "t/(1+t) and 1/(1+t)": at positions 1 and 2 on the left 1 / (3 + √3), which is (3 - √3) / 6, and 1 / (1 + √3), which is (√3 - 1) / 2
abbrev pub left_of : Fraction → Fraction
left_of t = fraction t.over (plus t.over t.under)

abbrev pub right_of : Fraction → Fraction
right_of t = fraction t.under (plus t.over t.under)

-- The tangents x and y of two angles and z of their sum, by the law of addition: z (1 - x y) = x + y, with the denominators multiplied in and x y on the other side.
pub record Sum (x y z : Fraction) : Type 0 where
  pub law :
      times z.over (times x.under y.under)
      ≡ plus (times z.under (plus (times x.over y.under) (times x.under y.over))) (times z.over (times x.over y.over))

-- What makes six numbers the tangents of 0, 15, .., 75 degrees. Each is a number, and the tangent of one step more than the one before, and three steps make 45 degrees. The first
-- step's tangent lies between 0 and 1, and so the step between 0 and 45 degrees. Three of it are less than 135 degrees, and 45 is the one angle there whose tangent is 1.
pub record Tangents (t : ℕ → Fraction) : Type 0 where
  pub number : (p : ℕ) → p < 6 → Less (surd 0 0) (t p).under
  pub start : t 0 ≡ fraction (surd 0 0) (surd 1 0)
  pub step : (p : ℕ) → p < 5 → Sum (t p) (t 1) (t (suc p))
  pub half : t 3 ≡ fraction (surd 1 0) (surd 1 0)
  pub above_none : Below 0 1 (t 1)
  pub below_half : Above 1 1 (t 1)
