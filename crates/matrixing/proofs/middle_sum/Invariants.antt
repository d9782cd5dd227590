-- The loop's invariant: the sum of the first j products. Assumes nothing.
use mathlib.Core.Path.{◌≡◌}
use Prim.Native.Nat.{◌≤◌, ◌+◌, ◌*◌}
use lib.Ieee.{binary32, mul}
use Rattle.laws.specs.Lists.{at}
use Rattle.laws.specs.Sum.{zero_f, sum_to}
use Rattle.matrixing.proofs.middle_sum.Given as goal

abbrev pub invariant-loop-j : goal.invariant-loop-j
invariant-loop-j l = (l.j ≤ 32) × (l.sum ≡ sum_to l.j (λ k. mul binary32 (at l.samples (18 * k + l.n)) zero_f))
