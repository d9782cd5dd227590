-- Assumes nothing.
use Prim.Native.Nat.{◌+◌, ◌*◌}
use Rattle.little_endian.specs.Bytes.{signed_at}
use Rattle.little_endian.proofs.Filled.{ReadIn}
use Rattle.little_endian.proofs.signeds_from.Given as goal

abbrev pub invariant-loop-i : goal.invariant-loop-i
invariant-loop-i l = ReadIn (λ k. signed_at l.s (l.at + 2 * k)) l.initial.to l.i l.to
