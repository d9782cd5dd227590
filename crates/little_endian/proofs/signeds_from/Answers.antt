use mathlib.Core.Path.{◌∙◌}
use mir.Syntax.{w16}
use mir.ValLaws.{to_z-of_z}
use native.Mathlib.Omega.{arith}
use Rattle.little_endian.specs.Bytes.{signeds_from}
use Rattle.little_endian.proofs.Filled.{read_none, read_more, read_all}
use Rattle.little_endian.proofs.signeds_from.Goals as goal

pub loop-i-init : goal.loop-i-init
unfolding signeds_from
loop-i-init c = read_none _ _

pub loop-i-preserved : goal.loop-i-preserved
unfolding signeds_from
loop-i-preserved c = read_more c.loop-i.invariant (omega arith) (to_z-of_z w16 _ (record { sfits = c.signed_at.type_inv }) ∙ c.signed_at.ensures)

pub returns : goal.returns
unfolding signeds_from
returns c = read_all c.loop-i.invariant (omega arith)
