-- There are as many digits as were counted. Assumes nothing.
use mathlib.Core.Path.{◌≡◌, sym, ap, ◌∙◌}
use mathlib.Core.List.{List}
use Prim.Native.Nat.{ℕ, ◌+◌}
use native.Mathlib.Omega.{arith}
use lib.ListN.{length}
use Rattle.text.specs.Digits.{digits, digit_count, decimal}
use Rattle.text.specs.Line.{stored}
use Rattle.text.proofs.Digits.{length-decimal}
use Rattle.text.proofs.put_decimal.Goals as goal

counted : (n at : ℕ) (to : List ℕ) {count r : ℕ} {out : List ℕ} → count ≡ digit_count n → (r ≡ at + count) × (out ≡ stored (digits 10 count n) at to)
    → (r ≡ at + length (decimal n)) × (out ≡ stored (decimal n) at to)
unfolding decimal
counted n at to e v = (v.0 ∙ ap (λ (m : ℕ). at + m) (e ∙ sym (length-decimal n)), v.1 ∙ ap (λ (m : ℕ). stored (digits 10 m n) at to) e)

pub put_digits-requires : goal.put_digits-requires
put_digits-requires c = (omega arith, omega arith, omega (arith, length-decimal c.args.n, c.digit_count.ensures))

pub returns : goal.returns
returns c =
    let a = c.args in
    let told = c.put_digits.ensures in
    let both = counted a.n a.at a.to.now c.digit_count.ensures (told.place, told.text) in
    record { place = both.0; text = both.1 }
