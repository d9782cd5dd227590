-- The loop's invariant: the subbands below sb are done, in the samples and in the overlap. Assumes nothing.
use Prim.Native.Nat.{◌*◌, ◌≤◌}
use Rattle.laws.proofs.Lists.{Filling}
use Rattle.hybrid.specs.Hybrid.{hybrid_at, overlap_at}
use Rattle.hybrid.proofs.subbands.Given as goal

abbrev pub invariant-loop-sb : goal.invariant-loop-sb
invariant-loop-sb l = (l.sb ≤ l.used) × Filling l.initial.samples (hybrid_at l.edition l.kind l.initial.samples l.initial.overlap) (18 * l.sb) l.samples × Filling l.initial.overlap (overlap_at l.edition l.kind l.initial.samples) (18 * l.sb) l.overlap
