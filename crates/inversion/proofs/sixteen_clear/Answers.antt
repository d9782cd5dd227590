use mathlib.Core.Path.{◌≡◌, sym, ◌∙◌}
use mathlib.Core.Bool.{true, false}
use mathlib.Core.Logic.{◌⊎◌, inl, inr}
use native.Mathlib.Omega.{arith}
use Rattle.laws.proofs.Flag.{flag-none, flag_turn, flag-end}
use Rattle.inversion.proofs.Clear.{both_clear, sixteen}
use Rattle.inversion.proofs.sixteen_clear.Goals as goal
use Rattle.inversion.proofs.sixteen_clear.Goals.{then-is_nan, then-is_nan-via-then-is_nan, then-is_nan-via-else-is_nan+then-is_nan-2, else-is_nan+else-is_nan-2}

pub loop-i-init : goal.loop-i-init
loop-i-init c = (omega arith, flag-none _)

pub loop-i-preserved : goal.loop-i-preserved
loop-i-preserved c =
    let l = c.loop-i in
    let a = c.args in
    let first = sym c.is_nan.ensures.value in
    let branch : ((both_clear a.samples.now a.n l.i ≡ false) × (c.if-is_nan.bad ≡ 1)) ⊎ ((both_clear a.samples.now a.n l.i ≡ true) × (c.if-is_nan.bad ≡ l.bad)) =
    elim c.if-is_nan.branch [
      | then-is_nan w ↦ elim w.then-is_nan.branch [
        | then-is_nan-via-then-is_nan v ↦ inl (rw (first ∙ v.if-is_nan.true), w.bad-is)
        | then-is_nan-via-else-is_nan+then-is_nan-2 v ↦ inl (rw (first ∙ v.if-is_nan.false, sym v.is_nan-else-is_nan.ensures.value ∙ v.if-is_nan-2.true), w.bad-is)
      ]
      | else-is_nan+else-is_nan-2 w ↦ inr (rw (first ∙ w.if-is_nan.false, sym w.is_nan-else-is_nan.ensures.value ∙ w.if-is_nan-2.false), w.bad-is)
    ] in
    (omega arith, flag_turn _ l.i l.invariant.1 (λ e. e) (λ e. e) branch)

pub returns : goal.returns
returns c e = let l = c.loop-i in sixteen c.args.samples.now c.args.n (sym (flag-end _ 8 l.i l.invariant.1 (omega arith) (omega arith)) ∙ e)
