-- The loop's invariant: the first b blocks of the queue are in place. Assumes nothing.
use Prim.Native.Nat.{◌≤◌, ◌*◌}
use Rattle.laws.proofs.Lists.{Fills}
use Rattle.matrixing.proofs.Queue.{blocks_at}
use Rattle.matrixing.proofs.queue_blocks.Given as goal

abbrev pub invariant-loop-b : goal.invariant-loop-b
invariant-loop-b l = (l.b ≤ 18) × Fills 2176 (blocks_at l.samples) (64 * l.b) l.queue
