-- One times a float is that float, for every float of 32 bits. Assumes nothing.
use mathlib.Core.Path.{◌≡◌, refl, sym, ap, ◌∙◌}
use mathlib.Core.Bool.{Bool, true, false}
use Prim.Native.Nat.{ℕ, zero, suc, ◌*◌}
use native.Mathlib.Nat.{one-mul, zero-mul, mul-pos}
use lib.Dec.{T, lit<}
use lib.IntN.{ℤ, pos}
use lib.Ieee.{Float, nan, inf, fin, binary32, up, down, round, mul, fits}
use lib.Ieee.Fits.{down_pos}
use Rattle.laws.proofs.Mirror.{zero_exp}
use Rattle.laws.proofs.Rounding.{rounds_to}
use Rattle.laws.proofs.Zeros.{zero-round}

-- 1.0
abbrev pub one : Float
one = fin false 1 (pos 0)

-- the product of the parts of one and of a float that is finite, rounded
rounded : (s : Bool) (n : ℕ) (e : ℤ) → T (fits binary32 (fin s n e)) → round binary32 s (1 * (n * up e)) (1 * down e) ≡ fin s n e
rounded s zero e h = zero-round s _ _ (one-mul (0 * up e) ∙ zero-mul (up e)) (mul-pos (lit< tt) (down_pos e)) ∙ ap (fin s 0) (sym (zero_exp s e h))
rounded s (suc m) e h = ap (λ (n : ℕ). round binary32 s n (1 * down e)) (one-mul (suc m * up e)) ∙ ap (round binary32 s (suc m * up e)) (one-mul (down e)) ∙ rounds_to s m e h

pub one-times : (x : Float) → T (fits binary32 x) → mul binary32 one x ≡ x
unfolding mul
one-times nan h = refl
one-times (inf true) h = refl
one-times (inf false) h = refl
one-times (fin true n e) h = rounded true n e h
one-times (fin false n e) h = rounded false n e h
