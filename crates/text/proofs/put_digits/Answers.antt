use mathlib.Core.Path.{◌≡◌, refl, sym, ap, ◌∙◌}
use Prim.Native.Nat.{ℕ, ◌+◌, ◌-◌, ◌/◌}
use native.Mathlib.Nat.{pow-zero, div-one}
use native.Mathlib.Omega.{arith}
use lib.ListN.{length-set}
use Rattle.text.proofs.Digits.{div_more, digits-none, digits-front-stored}
use Rattle.text.proofs.Texts.{stored-none}
use Rattle.text.proofs.put_digits.Goals as goal

pub loop-place-init : goal.loop-place-init
loop-place-init c =
    let none : c.args.at + c.args.count - (c.args.at + c.args.count) ≡ 0 = omega arith in
    (omega arith, omega arith, rw (none, pow-zero, div-one), refl, sym (rw (none, digits-none) (stored-none _ _)))

pub loop-place-preserved : goal.loop-place-preserved
loop-place-preserved c =
    let l = c.loop-place in
    let a = c.args in
    let end = a.at + a.count in
    let i = end - l.place in
    let more : end - (l.place - 1) ≡ i + 1 = omega arith in
    let here = rw l.invariant.2 at c.character.ensures in (
      omega arith,
      omega arith,
      ap (λ (q : ℕ). q / a.base) l.invariant.2 ∙ div_more a.n a.base i ∙ rw more,
      simp length-set l.invariant.3,
      rw (l.invariant.4, here, more) (digits-front-stored a.base a.n i (l.place - 1) l.place a.to.now (omega arith) (omega arith)),
    )
