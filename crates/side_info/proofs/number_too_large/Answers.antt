-- Between -8206 and 8206: sizes up to 8206. Assumes nothing.
use mathlib.Core.Path.{ap, ◌∙◌}
use mathlib.Core.Bool.{not}
use Rattle.side_info.proofs.Within.{all-within}
use Rattle.side_info.proofs.number_too_large.Goals as goal

pub returns : goal.returns
returns c = ap not (c.numbers_within.ensures ∙ all-within 8205 c.args.spectrum.now)
