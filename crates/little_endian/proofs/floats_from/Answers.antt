use native.Mathlib.Omega.{arith}
use Rattle.little_endian.specs.Bytes.{floats_from}
use Rattle.little_endian.proofs.Filled.{read_none, read_more, read_all}
use Rattle.little_endian.proofs.floats_from.Goals as goal

pub loop-i-init : goal.loop-i-init
unfolding floats_from
loop-i-init c = read_none _ _

pub loop-i-preserved : goal.loop-i-preserved
unfolding floats_from
loop-i-preserved c = read_more c.loop-i.invariant (omega arith) c.float_at.ensures

pub returns : goal.returns
unfolding floats_from
returns c = read_all c.loop-i.invariant (omega arith)
