-- The loop's invariant: each of the 32 sums has its first 2i products. Assumes nothing.
use Prim.Native.Nat.{◌≤◌, ◌*◌}
use Rattle.laws.proofs.Sums.{Sums}
use Rattle.synthesis.proofs.Gathered.{terms}
use Rattle.synthesis.proofs.slot_outputs.Given as goal

abbrev pub invariant-loop-i : goal.invariant-loop-i
invariant-loop-i l = (l.i ≤ 8) × Sums 32 (terms l.blocks) (2 * l.i) l.sums
