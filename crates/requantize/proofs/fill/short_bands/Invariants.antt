-- The loop's invariant: the positions before band k are done. Assumes nothing.
use Prim.Native.Nat.{◌≤◌}
use Rattle.laws.proofs.Lists.{Fills}
use Rattle.bands.specs.Bands.{short_starts, short_begin}
use Rattle.requantize.proofs.Walk.{rule}
use Rattle.requantize.proofs.fill.short_bands.Given as goal

abbrev pub invariant-loop-k : goal.invariant-loop-k
invariant-loop-k l =
    (l.from ≤ l.k) × (l.k ≤ 13) × Fills 576 (rule l.fn.table.number l.side l.from l.numbers) (short_begin (short_starts l.fn.table.number) l.k) l.out
