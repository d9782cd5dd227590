-- Levels: the sign does not count, and an infinite number and a NaN have theirs. The peak is the largest of the 576 levels. Assumes nothing.
use mathlib.Core.Path.{◌≡◌, refl, sym, ap, ◌∙◌}
use mathlib.Core.Bool.{Bool, true, false}
use mathlib.Core.List.{List}
use Prim.Native.Nat.{ℕ, ◌+◌, ◌<◌}
use native.Mathlib.Omega.{arith}
use lib.ListN.{take}
use lib.Seq.{get_or-take}
use lib.Ieee.{Float, nan, inf, fin, neg, to_bits}
use Rattle.laws.specs.Largest.{Largest}
use Rattle.laws.specs.Lists.{at, filled}
use Rattle.laws.specs.Patterns.{size}
use Rattle.laws.proofs.Largest.{largest-same, largest-is}
use Rattle.laws.proofs.Lists.{filled_at}
use Rattle.synthesis.specs.Synthesis.{level, peak_of}

without : (a b : ℕ) → size (2147483648 + a + b) ≡ size (0 + a + b)
without a b = omega arith

-- the sign does not count
pub either_sign : (x : Float) → level (neg x) ≡ level x
unfolding to_bits neg
either_sign nan = refl
either_sign (inf true) = refl
either_sign (inf false) = refl
either_sign (fin true m e) = sym (without _ _)
either_sign (fin false m e) = without _ _

-- an infinite output has its pattern, and a NaN the one that the logic has
pub infinite_level : (negative : Bool) → level (inf negative) ≡ 2139095040
unfolding to_bits
infinite_level true = refl
infinite_level false = refl

pub nan_level : level nan ≡ 2143289344
unfolding to_bits
nan_level = refl

-- the 576 outputs in front, one by one
pub front-at : (xs : List Float) (p : ℕ) → p < 576 → at (take 576 xs) p ≡ at xs p
front-at xs p h = get_or-take 576 xs p nan h

-- at least each, and one of them
pub peak_is : (f : ℕ → Float) → Largest 576 (λ p. level (f p)) (peak_of f)
unfolding peak_of
peak_is f = largest-is 575 (λ p. level (f p))

-- equal outputs have one peak
pub peak_same : (f g : ℕ → Float) → ((p : ℕ) → p < 576 → f p ≡ g p) → peak_of f ≡ peak_of g
unfolding peak_of
peak_same f g e = largest-same 576 (λ p. level (f p)) (λ p. level (g p)) (λ p h. ap level (e p h))

-- so `peak` answers that of the outputs with which a room was filled
pub filled_peak : (f : ℕ → Float) (room : List Float) {xs : List Float} → xs ≡ filled 576 f room → peak_of (at xs) ≡ peak_of f
filled_peak f room {xs} e = peak_same (at xs) f (λ p k. ap (λ (ys : List Float). at ys p) e ∙ filled_at 576 f room p nan k)
