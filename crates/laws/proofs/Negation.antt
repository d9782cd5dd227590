-- Negation: twice it restores every number; it goes through rounding and through products. Assumes nothing.
use mathlib.Core.Path.{◌≡◌, refl, ap, ◌∙◌}
use mathlib.Core.Bool.{Bool, true, false, not, cond}
use Prim.Native.Nat.{ℕ, zero, suc, ◌+◌, ◌*◌, ◌^◌}
use lib.Dec.{eqb, ltb}
use lib.Ieee.{Float, nan, inf, fin, Format, prec, emax, low, up, down, unlike, odd, units, round, neg, mul}

pub neg_twice : (x : Float) → neg (neg x) ≡ x
unfolding neg
neg_twice nan = refl
neg_twice (inf true) = refl
neg_twice (inf false) = refl
neg_twice (fin true m k) = refl
neg_twice (fin false m k) = refl

pub odd_neg : (d : ℕ) (s : Bool) (q k l : ℕ) → odd d (not s) q k l ≡ neg (odd d s q k l)
unfolding odd neg
odd_neg d s zero k l = refl
odd_neg d s (suc q) k l = refl

pub cond-neg : (b : Bool) (x y : Float) {x' y' : Float} → x' ≡ neg x → y' ≡ neg y → cond b x' y' ≡ neg (cond b x y)
cond-neg true x y p q = p
cond-neg false x y p q = q

inf_neg : (s : Bool) → inf (not s) ≡ neg (inf s)
unfolding neg
inf_neg s = refl

nan_neg : nan ≡ neg nan
unfolding neg
nan_neg = refl

units-neg : (f : Format) (s : Bool) (q k : ℕ) → units f (not s) q k ≡ neg (units f s q k)
unfolding units
units-neg f s q k = cond-neg (ltb (q * 2 ^ k) (2 ^ (low f + suc (emax f)))) (odd (suc (prec f)) s q k (low f)) (inf s) (odd_neg (suc (prec f)) s q k (low f)) (inf_neg s)

pub round-neg : (f : Format) (s : Bool) (num den : ℕ) → round f (not s) num den ≡ neg (round f s num den)
unfolding round
round-neg f s num den = units-neg f s _ _

unlike-not : (s t : Bool) → unlike (not s) t ≡ not (unlike s t)
unlike-not true true = refl
unlike-not true false = refl
unlike-not false true = refl
unlike-not false false = refl

not-unlike : (s t : Bool) → unlike s (not t) ≡ not (unlike s t)
not-unlike true true = refl
not-unlike true false = refl
not-unlike false true = refl
not-unlike false false = refl

-- a product with a factor negated
pub mul-neg-left : (f : Format) (x y : Float) → mul f (neg x) y ≡ neg (mul f x y)
unfolding mul neg
mul-neg-left f nan y = refl
mul-neg-left f (inf s) nan = refl
mul-neg-left f (inf s) (inf t) = ap inf (unlike-not s t)
mul-neg-left f (inf s) (fin t n d) = cond-neg (eqb n 0) nan (inf (unlike s t)) nan_neg (ap inf (unlike-not s t) ∙ inf_neg (unlike s t))
mul-neg-left f (fin s m e) nan = refl
mul-neg-left f (fin s m e) (inf t) = cond-neg (eqb m 0) nan (inf (unlike s t)) nan_neg (ap inf (unlike-not s t) ∙ inf_neg (unlike s t))
mul-neg-left f (fin s m e) (fin t n d) =
    ap (λ (b : Bool). round f b (m * up e * (n * up d)) (down e * down d)) (unlike-not s t) ∙ round-neg f (unlike s t) _ _

pub mul-neg-right : (f : Format) (x y : Float) → mul f x (neg y) ≡ neg (mul f x y)
unfolding mul neg
mul-neg-right f nan y = refl
mul-neg-right f (inf s) nan = refl
mul-neg-right f (inf s) (inf t) = ap inf (not-unlike s t)
mul-neg-right f (inf s) (fin t n d) = cond-neg (eqb n 0) nan (inf (unlike s t)) nan_neg (ap inf (not-unlike s t) ∙ inf_neg (unlike s t))
mul-neg-right f (fin s m e) nan = refl
mul-neg-right f (fin s m e) (inf t) = cond-neg (eqb m 0) nan (inf (unlike s t)) nan_neg (ap inf (not-unlike s t) ∙ inf_neg (unlike s t))
mul-neg-right f (fin s m e) (fin t n d) =
    ap (λ (b : Bool). round f b (m * up e * (n * up d)) (down e * down d)) (not-unlike s t) ∙ round-neg f (unlike s t) _ _
