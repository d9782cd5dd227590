use mathlib.Core.Path.{refl, sym, ◌∙◌}
use native.Mathlib.Omega.{arith}
use lib.Ieee.{nan}
use lib.ListN.{length, replicate, length-replicate, get_or-replicate}
use Rattle.laws.specs.Sum.{zero_f}
use Rattle.laws.proofs.Lists.{tab-at, tab-same, filling-none, filling_more, filling-all}
use Rattle.hybrid.proofs.silent.Goals as goal

pub loop-i-init : goal.loop-i-init
loop-i-init c = (omega arith, filling-none _ _)

pub loop-i-preserved : goal.loop-i-preserved
loop-i-preserved c = let l = c.loop-i in (omega arith, filling_more l.invariant.1 (omega arith) refl)

pub returns : goal.returns
returns c =
    let n = length c.args.overlap.now in
    let zeros = c.fill.ensures.after (λ y e. e) ∙ sym (tab-at n (replicate n zero_f) nan (length-replicate n zero_f)) in
    (filling-all c.loop-i.invariant.1 (omega arith) (omega arith), zeros ∙ tab-same n _ _ (λ i h. get_or-replicate n i zero_f nan h))
