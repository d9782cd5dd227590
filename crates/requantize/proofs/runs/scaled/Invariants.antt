-- The loop's invariant: the numbers passed stand in `out` as products. Assumes nothing.
use Prim.Native.Nat.{◌≤◌}
use lib.ListN.{length}
use Rattle.laws.proofs.Lists.{Fills}
use Rattle.powers.specs.Powers.{product}
use Rattle.requantize.specs.Requantize.{number_at}
use Rattle.requantize.proofs.runs.scaled.Given as goal

abbrev pub invariant-loop-i : goal.invariant-loop-i
invariant-loop-i l = (l.i ≤ length l.numbers) × Fills (length l.numbers) (λ k. product (number_at l.numbers k) l.gain) l.i l.out
