-- Each of the table's intensity ratios is the f32 nearest to the ratio by its tangent; four are exact; and the tangents obey the law of addition. Assumes nothing.
use mathlib.Core.Path.{refl, sym, ap, ◌∙◌, subst}
use mathlib.Core.Bool.{Bool}
use mathlib.Core.List.{List, []}
use Prim.Native.Nat.{ℕ, zero, suc, ◌<◌}
use native.Mathlib.Omega.{arith}
use lib.Dec.{T, lit<, ltb→lt}
use lib.ListN.{get_or}
use lib.Ieee.{Float, of_bits}
use Rattle.laws.specs.Checks.{all_to}
use Rattle.laws.specs.Lists.{at, row}
use Rattle.laws.specs.Patterns.{place}
use Rattle.laws.proofs.Checks.{all_pass}
use Rattle.laws.proofs.Places.{float_at, row_at}
use Rattle.nearest.specs.Nearest.{units}
use Rattle.tables.specs.Stereo.{intensity_ratios_bits, intensity_ratios}
use Rattle.tables.specs.Surd.{surd, Less, Fraction}
use Rattle.tables.specs.Tangent.{tangents, tangent, left_of, right_of, Sum, Tangents}
use Rattle.tables.specs.Ratios.{NearestFraction, NearestRatios, ExactRatios}
use Rattle.tables.proofs.Fractions.{less, near, nearest}

-- ---- the tangents

number : (p : ℕ) → p < 6 → Less (surd 0 0) (tangent p).under
unfolding tangents all_to
number p h = ltb→lt _ _ (all_pass 6 (λ p. less (surd 0 0) (tangent p).under) tt p h)

step : (p : ℕ) → p < 5 → Sum (tangent p) (tangent 1) (tangent (suc p))
unfolding tangents
step zero h = record { law = refl }
step (suc zero) h = record { law = refl }
step (suc (suc zero)) h = record { law = refl }
step (suc (suc (suc zero))) h = record { law = refl }
step (suc (suc (suc (suc zero)))) h = record { law = refl }
step (suc (suc (suc (suc (suc p))))) h = absurd (omega arith)

pub tangents_are : Tangents tangent
unfolding tangents
tangents_are = record { number = number; start = refl; step = step; half = refl; above_none = lit< tt; below_half = lit< tt }

-- ---- the ratios

abbrev bits : ℕ → ℕ → ℕ
bits p i = place (get_or intensity_ratios_bits p []) i

-- the pattern in the table passes the test at the ratio that its side has by the tangent: one test a side, over all positions, which antt computes
abbrev test : (Fraction → Fraction) → ℕ → ℕ → Bool
test side i p = near (side (tangent p)) (bits p i)

left_passes : T (all_to 6 (test left_of 0))
unfolding tangents intensity_ratios_bits units all_to
left_passes = tt

right_passes : T (all_to 6 (test right_of 1))
unfolding tangents intensity_ratios_bits units all_to
right_passes = tt

nearest_at : (side : Fraction → Fraction) (i : ℕ) → T (all_to 6 (test side i)) → (p : ℕ) → p < 6 → NearestFraction (side (tangent p)) (at (row intensity_ratios p) i)
unfolding intensity_ratios
nearest_at side i t p h =
    subst (NearestFraction (side (tangent p))) (sym (ap (λ (r : List Float). at r i) (row_at intensity_ratios_bits p) ∙ float_at (get_or intensity_ratios_bits p []) i))
    (nearest (side (tangent p)) (bits p i) (all_pass 6 (test side i) t p h))

pub ratios : (p : ℕ) → p < 6 → NearestRatios p
ratios p h = record { left = nearest_at left_of 0 left_passes p h; right = nearest_at right_of 1 right_passes p h }

-- ---- four are exact

pub exact : ExactRatios
unfolding intensity_ratios intensity_ratios_bits of_bits
exact = record { none = (refl, refl); all = (refl, refl); half_left = (refl, refl); half_right = (refl, refl) }
