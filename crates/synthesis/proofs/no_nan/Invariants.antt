-- The loop's invariant: bad is 0 exactly while no NaN is among the outputs passed. Assumes nothing.
use mathlib.Core.Path.{◌≡◌}
use mathlib.Core.Bool.{not}
use Prim.Native.Nat.{◌≤◌}
use lib.Ieee.{is_nan}
use Rattle.laws.specs.Checks.{all_to}
use Rattle.laws.specs.Lists.{at}
use Rattle.laws.proofs.Flag.{flag}
use Rattle.synthesis.proofs.no_nan.Given as goal

abbrev pub invariant-loop-x : goal.invariant-loop-x
invariant-loop-x l = (l.x-index ≤ 576) × (l.bad ≡ flag (all_to l.x-index (λ k. not (is_nan (at l.outputs k)))))
