-- Between -255 and 255: sizes up to 255. Assumes nothing.
use mathlib.Core.Path.{◌∙◌}
use Rattle.side_info.proofs.Within.{all-within}
use Rattle.side_info.proofs.numbers_small.Goals as goal

pub returns : goal.returns
returns c = c.numbers_within.ensures ∙ all-within 254 c.args.spectrum.now
