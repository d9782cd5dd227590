-- The loop's invariant: the places of the numbers passed stand in `places`, 0 for each that the first part of the table has. Assumes nothing.
use Prim.Native.Nat.{◌-◌, ◌≤◌}
use lib.IntN.{pos, nat_abs}
use Rattle.laws.proofs.Lists.{Fills}
use Rattle.requantize.specs.Requantize.{number_at}
use Rattle.requantize.proofs.runs.high_places.Given as goal

abbrev pub invariant-loop-i : goal.invariant-loop-i
invariant-loop-i l = (l.i ≤ 576) × Fills 576 (λ k. pos (nat_abs (number_at l.numbers k) - 4103)) l.i l.places
