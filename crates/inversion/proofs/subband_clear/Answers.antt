-- Assumes nothing.
use mathlib.Core.Path.{sym, ◌∙◌}
use Prim.Native.Nat.{◌*◌}
use native.Mathlib.Omega.{arith}
use borrow.Author.Tests.{not-true}
use Rattle.inversion.proofs.Clear.{seventeen}
use Rattle.inversion.proofs.subband_clear.Goals as goal

pub returns-then-sixteen_clear : goal.returns-then-sixteen_clear
returns-then-sixteen_clear c e =
    let a = c.args in
    seventeen a.samples.now (18 * a.sb) a.from c.left_over.result (omega arith) (omega arith) c.left_over.ensures
    (c.sixteen_clear.ensures c.if-sixteen_clear.true) (sym c.is_nan.ensures.value ∙ not-true _ e)
