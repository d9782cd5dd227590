-- The loop's invariant: the first k sums have their product, the others are as they were. Assumes nothing.
use Prim.Native.Nat.{◌≤◌, ◌+◌}
use lib.Ieee.{binary32, mul}
use Rattle.laws.specs.Lists.{at}
use Rattle.laws.proofs.Lists.{Filling}
use Rattle.laws.proofs.Sums.{plus}
use Rattle.synthesis.proofs.add_windowed.Given as goal

abbrev pub invariant-loop-k : goal.invariant-loop-k
invariant-loop-k l = (l.k ≤ 32) × Filling l.initial.sums (plus l.initial.sums (λ i. mul binary32 (at l.blocks (l.start + i)) (at l.window (l.place + i)))) l.k l.sums
