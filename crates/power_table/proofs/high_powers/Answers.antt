-- Assumes nothing.
use Rattle.power_table.proofs.Second.{second}
use Rattle.power_table.proofs.high_powers.Goals as goal

pub returns : goal.returns
returns c = second c.powers-all.ensures c.copy_from_slice.ensures.after
