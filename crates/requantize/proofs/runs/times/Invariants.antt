-- The loop's invariant: the floats passed are multiplied by their powers, and those ahead are as they were. Assumes nothing.
use Prim.Native.Nat.{◌≤◌}
use lib.IntN.{nat_abs}
use lib.Ieee.{binary32, mul, of_bits}
use lib.ListN.{get_or}
use Rattle.laws.specs.Lists.{at}
use Rattle.laws.proofs.Lists.{Filling}
use Rattle.requantize.specs.Requantize.{number_at}
use Rattle.requantize.proofs.runs.times.Given as goal

abbrev pub invariant-loop-i : goal.invariant-loop-i
invariant-loop-i l = (l.i ≤ 576) × Filling l.initial.out (λ k. mul binary32 (of_bits binary32 (get_or l.powers (nat_abs (number_at l.places k)) 0)) (at l.initial.out k)) l.i l.out
