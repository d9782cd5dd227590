-- The loop's invariant: the bands from `from` on before band k begin below `count1`. Assumes nothing.
use Prim.Native.Nat.{ℕ, ◌<◌, ◌≤◌}
use Rattle.bands.specs.Bands.{short_starts, short_begin}
use Rattle.requantize.proofs.fill.short_reach.Given as goal

abbrev pub invariant-loop-k : goal.invariant-loop-k
invariant-loop-k l = (l.from ≤ l.k) × (l.k ≤ 13) × ((j : ℕ) → l.from ≤ j → j < l.k → short_begin (short_starts l.fn.table.number) j < l.count1)
