-- The loop's invariant: bad is 0 exactly while each number passed lies between the bounds. Assumes nothing.
use mathlib.Core.Path.{◌≡◌}
use mathlib.Core.Bool.{◌&&◌}
use Prim.Native.Nat.{◌≤◌}
use lib.IntN.{pos}
use lib.ListN.{get_or}
use lib.Signed.{le_z}
use Rattle.laws.specs.Checks.{all_to}
use Rattle.laws.proofs.Flag.{flag}
use Rattle.side_info.proofs.numbers_within.Given as goal

abbrev pub invariant-loop-x : goal.invariant-loop-x
invariant-loop-x l = (l.x-index ≤ 576) × (l.bad ≡ flag (all_to l.x-index (λ k. le_z (l.low) (get_or l.spectrum k (pos 0)) && le_z (get_or l.spectrum k (pos 0)) (l.high))))
