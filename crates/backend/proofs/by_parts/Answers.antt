-- The first part is enough where it has all sizes, and with the second it is enough everywhere. Assumes nothing.
use mathlib.Core.Path.{sym, ◌∙◌}
use Rattle.side_info.specs.Side.{numbers_low}
use Rattle.requantize.proofs.Parts.{low_enough, high_enough}
use Rattle.granule.specs.Granule.{two}
use Rattle.backend.proofs.Used.{used_left, used_right}
use Rattle.backend.proofs.by_parts.Goals as goal

pub returns-then-not-all_low : goal.returns-then-not-all_low
returns-then-not-all_low c =
    let g = c.args.a.granule.now in record {
      left = high_enough g.table g.left.side g.left.spectrum c.by_low_powers.ensures.left c.by_high_powers.ensures.left;
      right = λ both. high_enough g.table g.right.side g.right.spectrum (c.by_low_powers.ensures.right both) (c.by_high_powers.ensures.right both);
    }

pub returns-else-not-all_low : goal.returns-else-not-all_low
returns-else-not-all_low c =
    let g = c.args.a.granule.now in
    let l = numbers_low g.left.spectrum in
    let r = numbers_low g.right.spectrum in
    let all = sym c.all_low.ensures ∙ c.if-not-all_low.false in record {
      left = low_enough g.table g.left.side g.left.spectrum c.by_low_powers.ensures.left (used_left (two g) l r all);
      right = λ both. low_enough g.table g.right.side g.right.spectrum (c.by_low_powers.ensures.right both) (used_right (two g) l r both all);
    }
