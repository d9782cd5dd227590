-- The loop's invariant: the outputs of the first n slots are in place, and the rest of the room is as it was. Assumes nothing.
use Prim.Native.Nat.{◌≤◌, ◌-◌, ◌*◌, ◌/◌, ◌%◌}
use lib.ListN.{drop}
use Rattle.laws.proofs.Lists.{Filling}
use Rattle.synthesis.specs.Synthesis.{slot_output}
use Rattle.synthesis.proofs.all_outputs.Given as goal

abbrev pub invariant-loop-n : goal.invariant-loop-n
invariant-loop-n l = (l.n ≤ 18) × Filling l.initial.out (λ p. slot_output (drop (64 * (17 - p / 32)) l.queue) (p % 32)) (32 * l.n) l.out
