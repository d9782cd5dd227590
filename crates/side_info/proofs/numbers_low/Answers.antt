-- Between -4103 and 4103: sizes up to 4103. Assumes nothing.
use mathlib.Core.Path.{◌∙◌}
use Rattle.side_info.proofs.Within.{all-within}
use Rattle.side_info.proofs.numbers_low.Goals as goal

pub returns : goal.returns
returns c = c.numbers_within.ensures ∙ all-within 4102 c.args.spectrum.now
