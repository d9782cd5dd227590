-- The loop's invariant: from sb on no subband is used. Assumes nothing.
use Rattle.std.proofs.Common.{◌≡◌, not}
use Rattle.silence.specs.Silence.{past_last, silent_subband, used_subbands}
use Rattle.silence.proofs.used_subbands.Given as goal

abbrev pub invariant-loop-sb : goal.invariant-loop-sb
invariant-loop-sb l = used_subbands l.samples ≡ past_last l.sb (λ k. not (silent_subband l.samples k))
