-- A pattern above an infinity's, the sign's bit dropped, is a NaN's, and no other is. Assumes nothing.
use mathlib.Core.Path.{◌≡◌, refl, sym, subst, ◌∙◌}
use mathlib.Core.Bool.{Bool, true, not, true≢false}
use lib.Dec.{T}
use lib.Ieee.{Float, nan, inf, fin, binary32, of_bits, is_nan, div}
use lib.Ieee.Bits.{nan_bits_above, nan_bits_is}
use borrow.Author.Tests.{lt-ltb, le-ltb}
use Rattle.laws.proofs.float_of.Goals as goal

is-nan : (x : Float) → is_nan x ≡ true → nan ≡ x
unfolding is_nan
is-nan nan e = refl
is-nan (inf s) e = absurd (true≢false (sym e))
is-nan (fin s m k) e = absurd (true≢false (sym e))

zero_by_zero : div binary32 (of_bits binary32 0) (of_bits binary32 0) ≡ nan
unfolding div of_bits
zero_by_zero = refl

pub returns-then-size-gt2139095040 : goal.returns-then-size-gt2139095040
returns-then-size-gt2139095040 c =
    zero_by_zero ∙ is-nan (of_bits binary32 c.args.bits) (sym (nan_bits_is binary32 c.args.bits) ∙ nan_bits_above binary32 c.args.bits ∙ lt-ltb _ _ c.if-size-gt2139095040.true)

pub float_from_bits-result : goal.float_from_bits-result
float_from_bits-result c = subst (λ (t : Bool). T (not t)) (sym (nan_bits_above binary32 c.args.bits ∙ le-ltb _ _ c.if-size-gt2139095040.false)) tt
