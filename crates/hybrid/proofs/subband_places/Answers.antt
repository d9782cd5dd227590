-- Assumes nothing.
use Rattle.hybrid.specs.Hybrid.{places_of}
use Rattle.hybrid.proofs.subband_places.Goals as goal

pub returns : goal.returns
unfolding places_of
returns c = rw (← c.window_kind.ensures, ← c.subband.ensures) c.imdct_win.ensures
