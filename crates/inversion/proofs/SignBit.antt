-- A number's highest bit turned over, or kept. Assumes nothing.
use mathlib.Core.Path.{◌≡◌, refl, sym, subst, ap, ◌∙◌}
use mathlib.Core.Bool.{Bool, true, false, not, cond, true≢false}
use lib.Bits.{bit_xor, xor_zero_r}
use lib.Dec.{T}
use lib.Ieee.{Float, nan, inf, fin, binary32, is_nan, nan_bits, fits, neg, to_bits, of_bits}
use lib.Ieee.Bits.{to_bits-lt, of_bits-to_bits, nan_bits_is}
use Rattle.laws.proofs.Bits.{neg_turned}

module _ (x : Float) (turn : Bool) (f : fits binary32 x ≡ true) where
  held : T (fits binary32 x)
  held = subst T (sym f) tt

  pub turned_bits : of_bits binary32 (bit_xor (to_bits binary32 x) (cond turn 2147483648 0)) ≡ cond turn (neg x) x
  turned_bits = go turn
    where
      go : (t : Bool) → of_bits binary32 (bit_xor (to_bits binary32 x) (cond t 2147483648 0)) ≡ cond t (neg x) x
      go true = neg_turned (to_bits binary32 x) (to_bits-lt binary32 x held) ∙ ap neg (of_bits-to_bits binary32 x held)
      go false = ap (of_bits binary32) (xor_zero_r (to_bits binary32 x)) ∙ of_bits-to_bits binary32 x held

  pub turned_no_nan : is_nan x ≡ false → T (not (nan_bits binary32 (bit_xor (to_bits binary32 x) (cond turn 2147483648 0))))
  unfolding is_nan neg
  turned_no_nan e =
      subst (λ (b : Bool). T (not b)) (sym (nan_bits_is binary32 (bit_xor (to_bits binary32 x) (cond turn 2147483648 0)) ∙ ap is_nan turned_bits ∙ still turn x ∙ e)) tt
    where
      still : (t : Bool) (y : Float) → is_nan (cond t (neg y) y) ≡ is_nan y
      still true nan = refl
      still true (inf s) = refl
      still true (fin s m e) = refl
      still false y = refl

pub nan_negated : (x : Float) → is_nan x ≡ true → neg x ≡ x
unfolding is_nan neg
nan_negated nan e = refl
nan_negated (inf s) e = absurd (true≢false (sym e))
nan_negated (fin s m k) e = absurd (true≢false (sym e))
