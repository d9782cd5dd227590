-- The loop's invariant: bad is 0 exactly while each element passed is a zero. Assumes nothing.
use mathlib.Core.Path.{◌≡◌}
use Prim.Native.Nat.{◌≤◌}
use lib.ListN.{length}
use Rattle.laws.specs.Checks.{all_to}
use Rattle.laws.specs.Lists.{at}
use Rattle.laws.proofs.Flag.{flag}
use Rattle.silence.specs.Silence.{is_zero}
use Rattle.silence.proofs.all_zero.Given as goal

abbrev pub invariant-loop-x : goal.invariant-loop-x
invariant-loop-x l = (l.x-index ≤ length l.xs) × (l.bad ≡ flag (all_to l.x-index (λ k. is_zero (at l.xs k))))
