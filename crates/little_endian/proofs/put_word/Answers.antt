-- Assumes nothing.
use mathlib.Core.Path.{◌∙◌}
use Rattle.little_endian.proofs.Filled.{word_stored}
use Rattle.little_endian.proofs.put_word.Goals as goal

pub returns : goal.returns
returns c = word_stored c.args.word c.args.at c.args.to.now (c.copy_from_slice.ensures.after ∙ c.to_le_bytes.ensures) c.requires
