-- The loop's invariant: the sizes of the numbers passed stand in `sizes`, and 1 for each that the first part of the table has not. Assumes nothing.
use Prim.Native.Nat.{◌≤◌}
use lib.IntN.{pos}
use Rattle.laws.proofs.Lists.{Fills}
use Rattle.requantize.specs.Requantize.{number_at}
use Rattle.requantize.specs.Parts.{low_size}
use Rattle.requantize.proofs.runs.low_sizes.Given as goal

abbrev pub invariant-loop-i : goal.invariant-loop-i
invariant-loop-i l = (l.i ≤ 576) × Fills 576 (λ k. pos (low_size (number_at l.numbers k))) l.i l.sizes
