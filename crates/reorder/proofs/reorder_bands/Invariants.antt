-- The loop's invariant: the positions below `begin` are as the rule says, and the others as they were; band k begins there. Assumes nothing.
use mathlib.Core.Path.{◌≡◌}
use Prim.Native.Nat.{◌≤◌}
use Rattle.laws.proofs.Lists.{Filling}
use Rattle.bands.specs.Bands.{short_starts, short_begin}
use Rattle.reorder.specs.Reorder.{reordered_from}
use Rattle.reorder.proofs.reorder_bands.Given as goal

abbrev pub invariant-loop-k : goal.invariant-loop-k
invariant-loop-k l = (l.k ≤ 13) × (l.begin ≡ short_begin (short_starts l.table.number) l.k) × Filling l.initial.samples (reordered_from l.last l.first (short_starts l.table.number) l.count1 l.initial.samples) l.begin l.samples
