-- Short from band 0, Mixed from 3, and the other kinds unchanged. Assumes nothing.
use mathlib.Core.Path.{sym, ◌∙◌}
use lib.Ieee.{nan}
use Rattle.laws.proofs.Lists.{tab-same, tab-at}
use Rattle.side_info.proofs.LongKinds.{long-kind}
use Rattle.reorder.specs.Reorder.{reordered}
use Rattle.reorder.proofs.reorder_step.Goals as goal

pub returns-in-Short : goal.returns-in-Short
unfolding reordered
returns-in-Short c = c.reorder_bands.ensures ∙ rw (c.in-Short.is, c.reordered_bands-last.ensures)

pub returns-in-Mixed : goal.returns-in-Mixed
unfolding reordered
returns-in-Mixed c = c.reorder_bands-in-Mixed.ensures ∙ rw (c.in-Mixed.is, c.reordered_bands-last.ensures)

pub returns-in-Long : goal.returns-in-Long
unfolding reordered
returns-in-Long c =
    let xs = c.args.samples.now in
    sym (tab-same 576 _ _ (λ i h. long-kind c.args.kind c.in-Long.is _ _ _) ∙ tab-at 576 xs nan (c.told-samples))
