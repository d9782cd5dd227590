use native.Mathlib.Omega.{arith}
use Rattle.inversion.proofs.Negated.{subbands_more, subbands-end}
use Rattle.inversion.proofs.eight_subbands.Goals as goal

pub loop-j-preserved : goal.loop-j-preserved
loop-j-preserved c =
    let l = c.loop-j in
    (omega arith, subbands_more c.args.samples.now c.told-samples c.args.sb l.j c.requires l.invariant.1 c.one_subband.ensures)

pub returns : goal.returns
returns c = subbands-end c.args.samples.now c.told-samples c.args.sb c.loop-j.j (omega arith) c.loop-j.invariant.1
