-- Numbers between two bounds: the tests as the machine makes them, and the sizes that they hold to. Assumes nothing.
use mathlib.Core.Path.{◌≡◌, refl, sym, ap, ◌∙◌}
use mathlib.Core.Bool.{Bool, true, false, not, ◌&&◌, and-true, and-false}
use mathlib.Core.List.{List}
use Prim.Native.Nat.{ℕ, suc}
use lib.Dec.{leb, ltb, leb-suc-suc}
use lib.IntN.{ℤ, pos, negsuc, nat_abs}
use lib.ListN.{get_or}
use lib.Signed.{lt_z, le_z}
use borrow.Author.Tests.{ltb-true, ltb-false, le-leb, lt-leb}
use Rattle.laws.specs.Checks.{all_to}
use Rattle.laws.proofs.Checks.{all_same}

-- a test of order, the other way round
turned : (a b : ℕ) → leb b a ≡ not (ltb a b)
turned a b = go (ltb a b) refl
  where
    go : (t : Bool) → ltb a b ≡ t → leb b a ≡ not t
    go true e = lt-leb b a (ltb-true a b e)
    go false e = le-leb b a (ltb-false a b e)

flipped : (x y : ℤ) → le_z y x ≡ not (lt_z x y)
flipped (pos a) (pos b) = turned a b
flipped (pos a) (negsuc b) = refl
flipped (negsuc a) (pos b) = refl
flipped (negsuc a) (negsuc b) = turned b a

-- what a number x fails and passes, by the two tests of a turn
module _ (low x high : ℤ) where
  abbrev pub between : Bool
  between = le_z low x && le_z x high

  pub too_low : lt_z x low ≡ true → between ≡ false
  too_low e = ap (λ (b : Bool). b && le_z x high) (flipped x low ∙ ap not e)

  pub too_high : lt_z high x ≡ true → between ≡ false
  too_high e = ap (λ (b : Bool). le_z low x && b) (flipped high x ∙ ap not e) ∙ and-false (le_z low x)

  pub neither : lt_z x low ≡ false → lt_z high x ≡ false → between ≡ true
  neither e f = ap (λ (b : Bool). b && le_z x high) (flipped x low ∙ ap not e) ∙ flipped high x ∙ ap not f

-- from -(m + 1) to m + 1: sizes up to m + 1
pub within : (m : ℕ) (x : ℤ) → (le_z (negsuc m) x && le_z x (pos (suc m))) ≡ leb (nat_abs x) (suc m)
within m (pos n) = refl
within m (negsuc n) = and-true (leb n m) ∙ sym (leb-suc-suc n m)

pub all-within : (m : ℕ) (xs : List ℤ) → all_to 576 (λ i. le_z (negsuc m) (get_or xs i (pos 0)) && le_z (get_or xs i (pos 0)) (pos (suc m)))
    ≡ all_to 576 (λ i. leb (nat_abs (get_or xs i (pos 0))) (suc m))
all-within m xs =
    all_same 576 (λ i. le_z (negsuc m) (get_or xs i (pos 0)) && le_z (get_or xs i (pos 0)) (pos (suc m))) (λ i. leb (nat_abs (get_or xs i (pos 0))) (suc m))
    (λ i l. within m (get_or xs i (pos 0)))
