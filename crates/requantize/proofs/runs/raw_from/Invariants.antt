-- The loop's invariant: `out` has its old elements below `from`, and from there on the numbers passed, as floats. Assumes nothing.
use mathlib.Core.Bool.{cond}
use Prim.Native.Nat.{◌≤◌}
use lib.Dec.{ltb}
use lib.ListN.{length}
use Rattle.laws.specs.Lists.{at}
use Rattle.laws.proofs.Lists.{Fills}
use Rattle.requantize.specs.Requantize.{raw_at}
use Rattle.requantize.proofs.runs.raw_from.Given as goal

abbrev pub invariant-loop-i : goal.invariant-loop-i
invariant-loop-i l = (l.from ≤ l.i) × (l.i ≤ length l.numbers) × Fills (length l.numbers) (λ k. cond (ltb k l.from) (at l.initial.out k) (raw_at l.numbers k)) l.i l.out
