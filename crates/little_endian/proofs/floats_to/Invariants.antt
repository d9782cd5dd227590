-- The loop fills `to` by the rule, four places a turn. Assumes nothing.
use Prim.Native.Nat.{◌*◌, ◌≤◌}
use Rattle.laws.proofs.Lists.{Filling}
use Rattle.little_endian.specs.Bytes.{float_byte}
use Rattle.little_endian.proofs.floats_to.Given as goal

abbrev pub invariant-loop-i : goal.invariant-loop-i
invariant-loop-i l = (l.i ≤ l.count) × Filling l.initial.to (float_byte l.from) (4 * l.i) l.to
