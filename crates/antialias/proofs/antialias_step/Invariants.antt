-- The loop's invariant: the boundaries below sb are done. Assumes nothing.
use mathlib.Core.Path.{◌≡◌}
use Rattle.laws.specs.Lists.{tab}
use Rattle.antialias.specs.Antialias.{antialiased_at}
use Rattle.antialias.proofs.antialias_step.Given as goal

abbrev pub invariant-loop-sb : goal.invariant-loop-sb
invariant-loop-sb l = l.samples ≡ tab 576 (antialiased_at l.sb l.initial.samples)
