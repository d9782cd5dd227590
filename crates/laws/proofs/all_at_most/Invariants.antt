-- The loop's invariant: bad is 0 exactly while each element passed is at most `most`. Assumes nothing.
use mathlib.Core.Path.{◌≡◌}
use Prim.Native.Nat.{◌≤◌}
use lib.Dec.{leb}
use lib.ListN.{length, get_or}
use Rattle.laws.specs.Checks.{all_to}
use Rattle.laws.proofs.Flag.{flag}
use Rattle.laws.proofs.all_at_most.Given as goal

abbrev pub invariant-loop-x : goal.invariant-loop-x
invariant-loop-x l = (l.x-index ≤ length l.xs) × (l.bad ≡ flag (all_to l.x-index (λ k. leb (get_or l.xs k 0) l.most)))
