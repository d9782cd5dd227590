-- The loop's invariant: bad is 0 exactly while no NaN is among the pairs gone through. Assumes nothing.
use mathlib.Core.Path.{◌≡◌}
use Prim.Native.Nat.{◌≤◌}
use Rattle.laws.specs.Checks.{all_to}
use Rattle.laws.proofs.Flag.{flag}
use Rattle.inversion.proofs.Clear.{both_clear}
use Rattle.inversion.proofs.sixteen_clear.Given as goal

abbrev pub invariant-loop-i : goal.invariant-loop-i
invariant-loop-i l = (l.i ≤ 8) × (l.bad ≡ flag (all_to l.i (both_clear l.samples l.n)))
