-- Assumes nothing.
use Rattle.imdct.proofs.Halved.{second_places}
use Rattle.imdct.proofs.second_half.Goals as goal

pub returns : goal.returns
returns c = let a = c.args in second_places a.window.now a.s.now a.i c.short_sums.result c.short_sums.ensures c.windowed.ensures
