-- Assumes nothing.
use Prim.Native.Nat.{◌+◌, ◌*◌}
use Rattle.little_endian.specs.Bytes.{float_at}
use Rattle.little_endian.proofs.Filled.{ReadIn}
use Rattle.little_endian.proofs.floats_from.Given as goal

abbrev pub invariant-loop-i : goal.invariant-loop-i
invariant-loop-i l = ReadIn (λ k. float_at l.s (l.at + 4 * k)) l.initial.to l.i l.to
