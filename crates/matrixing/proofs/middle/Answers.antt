-- A finite sum at place 0 leaves +0.0 in the middle. Assumes nothing.
use mathlib.Core.Path.{sym, ap, ◌∙◌}
use Rattle.laws.specs.Finite.{finite}
use Rattle.matrixing.specs.Matrixing.{slot_samples}
use Rattle.matrixing.proofs.Mirrored.{middle-none}
use Rattle.matrixing.proofs.middle.Goals as goal

pub returns-then-is_finite : goal.returns-then-is_finite
returns-then-is_finite c = middle-none (slot_samples c.args.samples.now c.args.n) (ap finite (sym c.requires.0) ∙ sym c.is_finite.ensures ∙ c.if-is_finite.true)
