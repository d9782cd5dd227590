use mathlib.Core.Path.{◌≡◌, sym, ap, ◌∙◌}
use mathlib.Core.Bool.{Bool, not}
use Prim.Native.Nat.{ℕ, ◌+◌, ◌-◌}
use native.Mathlib.Omega.{arith}
use Rattle.silence.specs.Silence.{past_last, silent_subband}
use Rattle.silence.proofs.Silent.{past_none, past_here, past_before, part-silent}
use Rattle.silence.proofs.used_subbands.Goals as goal

pub returns-then-not-all_zero : goal.returns-then-not-all_zero
returns-then-not-all_zero c =
    let l = c.loop-sb in
    let whole : l.sb - 1 + 1 ≡ l.sb = omega arith in
    let seen = sym (part-silent c.args.samples.now (l.sb - 1) (omega arith)) ∙ sym c.all_zero.ensures in
    whole ∙ sym (l.invariant ∙ past_here l.sb _ (omega arith) (ap not (seen ∙ c.if-not-all_zero.true)))

pub loop-sb-preserved : goal.loop-sb-preserved
loop-sb-preserved c =
    let l = c.loop-sb in
    let seen = sym (part-silent c.args.samples.now (l.sb - 1) (omega arith)) ∙ sym c.all_zero.ensures in
    l.invariant ∙ past_before l.sb _ (omega arith) (ap not (seen ∙ c.if-not-all_zero.false))

pub returns : goal.returns
returns c =
    let l = c.loop-sb in
    let p : ℕ → Bool = λ sb. not (silent_subband c.args.samples.now sb) in
    let e : l.sb ≡ 0 = omega arith in
    sym (l.invariant ∙ ap (λ (k : ℕ). past_last k p) e ∙ past_none p)
