-- The loop's invariant: the floats passed have the signs of their numbers, and those ahead are as they were. Assumes nothing.
use Prim.Native.Nat.{◌≤◌}
use Rattle.laws.specs.Lists.{at}
use Rattle.laws.proofs.Lists.{Filling}
use Rattle.powers.specs.Powers.{signed}
use Rattle.requantize.specs.Requantize.{number_at}
use Rattle.requantize.proofs.runs.signs.Given as goal

abbrev pub invariant-loop-i : goal.invariant-loop-i
invariant-loop-i l = (l.i ≤ 576) × Filling l.initial.out (λ k. signed (number_at l.numbers k) (at l.initial.out k)) l.i l.out
