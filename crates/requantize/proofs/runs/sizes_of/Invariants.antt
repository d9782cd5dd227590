-- The loop's invariant: the sizes of the numbers passed stand in `sizes`. Assumes nothing.
use Prim.Native.Nat.{◌≤◌}
use lib.IntN.{pos, nat_abs}
use Rattle.laws.proofs.Lists.{Fills}
use Rattle.requantize.specs.Requantize.{number_at}
use Rattle.requantize.proofs.runs.sizes_of.Given as goal

abbrev pub invariant-loop-i : goal.invariant-loop-i
invariant-loop-i l = (l.i ≤ 576) × Fills 576 (λ k. pos (nat_abs (number_at l.numbers k))) l.i l.sizes
