-- The loop's invariant: bad is 0 exactly while each element passed is finite. Assumes nothing.
use mathlib.Core.Path.{◌≡◌}
use Prim.Native.Nat.{◌≤◌}
use lib.ListN.{length}
use Rattle.laws.specs.Checks.{all_to}
use Rattle.laws.specs.Finite.{finite}
use Rattle.laws.specs.Lists.{at}
use Rattle.laws.proofs.Flag.{flag}
use Rattle.laws.proofs.all_finite.Given as goal

abbrev pub invariant-loop-x : goal.invariant-loop-x
invariant-loop-x l = (l.x-index ≤ length l.xs) × (l.bad ≡ flag (all_to l.x-index (λ k. finite (at l.xs k))))
