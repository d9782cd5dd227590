-- The copy is made after mid-side in edition 1, and before it in edition 2. Assumes nothing.
use mathlib.Core.Path.{sym, ◌∙◌}
use lib.Ieee.{nan}
use Rattle.laws.proofs.Lists.{tab-at}
use Rattle.stereo.proofs.mid_side_keeping.Goals as goal

pub returns-in-Second-clause-from : goal.returns-in-Second-clause-from
returns-in-Second-clause-from c = rw c.in-Second.is (c.copy_from_slice-in-Second.ensures.after ∙ sym (tab-at 576 c.args.left.now nan c.told-left))
