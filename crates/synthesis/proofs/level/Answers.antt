-- Assumes nothing.
use mathlib.Core.Path.{sym, subst}
use mathlib.Core.Bool.{Bool, not}
use lib.Dec.{T}
use Rattle.synthesis.proofs.level.Goals as goal

pub float_to_bits-bits : goal.float_to_bits-bits
float_to_bits-bits c = subst (λ (b : Bool). T (not b)) (sym (c.requires c.if-number.true)) tt
