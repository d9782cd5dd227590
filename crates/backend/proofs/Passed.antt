-- What is known of a granule whose input is not refused: the checks of each stage pass for the channels that it uses. Assumes nothing.
use mathlib.Core.Path.{◌≡◌}
use mathlib.Core.Bool.{Bool, true, false, ◌&&◌}
use mathlib.Mathlib.Data.Bool.Basic.{or-eq-false-eq-eq-false-and-eq-false as neither}
use Prim.Native.Nat.{◌≤◌}
use borrow.Author.Tests.{ltb-false}
use Rattle.laws.specs.Checks.{first}
use Rattle.laws.proofs.Checks.{passes}
use Rattle.side_info.specs.Side.{count_too_high, factor_too_high, subblock_gain_too_high, number_too_large}
use Rattle.bands.specs.Bands.{KnownTable}
use Rattle.bands.proofs.Tables.{known}
use Rattle.requantize.specs.Requantize.{requantize_checks}
use Rattle.intensity.specs.Intensity.{position_refused}
use Rattle.granule.specs.declared.Part.{Part}
use Rattle.granule.specs.declared.Granule.{Granule}
use Rattle.granule.specs.Granule.{two, any_part, input_checks}
use Rattle.backend.specs.Whole.{edition_in}

module _ (g : Granule) (e : first (input_checks g) ≡ 0) where
  pub table_known : KnownTable g.table
  table_known = known g.table (passes 3 (input_checks g) tt e)

  pub positions_fit : position_refused (edition_in g) g.intensity g.table g.left.side g.right.side ≡ false
  positions_fit = passes 8 (input_checks g) tt e

  -- so requantize's checks pass for a part that is used: one that has no fault that none of the used parts has
  module _ (p : Part) (used : (bad : Part → Bool) → any_part g bad ≡ false → bad p ≡ false) where
    part_count : p.side.count1 ≤ 576
    part_count = ltb-false 576 p.side.count1 (used (λ p. count_too_high p.side.count1) (passes 4 (input_checks g) tt e))

    part_passes : first (requantize_checks g.table p.side p.spectrum) ≡ 0
    part_passes =
        rw (
          passes 3 (input_checks g) tt e,
          used (λ p. count_too_high p.side.count1) (passes 4 (input_checks g) tt e),
          used (λ p. factor_too_high p.side) (passes 5 (input_checks g) tt e),
          used (λ p. subblock_gain_too_high p.side) (passes 6 (input_checks g) tt e),
          used (λ p. number_too_large p.spectrum) (passes 7 (input_checks g) tt e),
        )

  left_used : (bad : Part → Bool) → any_part g bad ≡ false → bad g.left ≡ false
  left_used bad q = ((neither (bad g.left) (two g && bad g.right)).0 q).0

  right_used : two g ≡ true → (bad : Part → Bool) → any_part g bad ≡ false → bad g.right ≡ false
  right_used t bad q = rw t at ((neither (bad g.left) (two g && bad g.right)).0 q).1

  pub left_passes : first (requantize_checks g.table g.left.side g.left.spectrum) ≡ 0
  left_passes = part_passes g.left left_used

  pub right_passes : two g ≡ true → first (requantize_checks g.table g.right.side g.right.spectrum) ≡ 0
  right_passes t = part_passes g.right (right_used t)

  pub left-numbers : number_too_large g.left.spectrum ≡ false
  left-numbers = left_used (λ p. number_too_large p.spectrum) (passes 7 (input_checks g) tt e)

  pub right-numbers : two g ≡ true → number_too_large g.right.spectrum ≡ false
  right-numbers t = right_used t (λ p. number_too_large p.spectrum) (passes 7 (input_checks g) tt e)

  pub left-count : g.left.side.count1 ≤ 576
  left-count = part_count g.left left_used

  pub right-count : two g ≡ true → g.right.side.count1 ≤ 576
  right-count t = part_count g.right (right_used t)
