-- The used subbands are done first; the silent ones after them are the rest. Assumes nothing.
use Rattle.hybrid.proofs.Unused.{samples_all, overlap-all}
use Rattle.hybrid.proofs.hybrid_step.Goals as goal

pub returns : goal.returns
returns c =
    let u = c.used_subbands-used.ensures in
    (samples_all _ _ _ _ _ _ _ u c.told-samples c.told-overlap c.subbands.ensures.0 c.subbands.ensures.1 c.silent.ensures.0, overlap-all _ _ _ _ _ _ _ u c.told-samples c.told-overlap c.subbands.ensures.0 c.subbands.ensures.1 c.silent.ensures.1)
