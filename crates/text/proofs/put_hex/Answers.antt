-- Assumes nothing.
use mathlib.Core.Path.{◌∙◌}
use Rattle.text.specs.Digits.{hex}
use Rattle.text.proofs.put_hex.Goals as goal

pub returns-clause-text : goal.returns-clause-text
unfolding hex
returns-clause-text c = c.put_digits.ensures.text ∙ rw c.from.ensures
