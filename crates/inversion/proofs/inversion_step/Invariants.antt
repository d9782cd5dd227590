-- The loop's invariant: the odd subbands whose numbers modulo 4 are below the next are done. Assumes nothing.
use Prim.Native.Nat.{◌+◌, ◌*◌, ◌≤◌}
use Rattle.inversion.proofs.Negated.{Done, Odds}
use Rattle.inversion.proofs.inversion_step.Given as goal

abbrev pub invariant-loop-sb : goal.invariant-loop-sb
invariant-loop-sb l = (l.sb-index ≤ 2) × Done l.initial.samples (Odds (1 + 2 * l.sb-index)) l.samples
