-- The loop's invariant: the positions below the start of band k, or below the reach, are done. Assumes nothing.
use Prim.Native.Nat.{min, ◌≤◌}
use Rattle.laws.proofs.Lists.{Filling}
use Rattle.bands.specs.Bands.{start, long_starts}
use Rattle.requantize.specs.Requantize.{long_at}
use Rattle.requantize.proofs.fill.long_bands.Given as goal

abbrev pub invariant-loop-k : goal.invariant-loop-k
invariant-loop-k l = (l.k ≤ 22) × Filling l.initial.out (long_at l.fn.table.number l.side l.numbers) (min (start (long_starts l.fn.table.number) l.k) l.reach) l.out
