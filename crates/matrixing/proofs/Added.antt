-- A row of terms added to a list part after part, each of which was lent and came back. Assumes nothing.
use mathlib.Core.Path.{◌≡◌, ap, ◌∙◌}
use mathlib.Core.List.{List, ◌++◌}
use Prim.Native.Nat.{ℕ, ◌+◌}
use native.Mathlib.Omega.{arith}
use lib.ListN.{length, take, drop}
use lib.Ieee.{Float, nan, binary32, mul}
use Rattle.laws.specs.Lists.{at, tab}
use Rattle.laws.proofs.Lists.{Filling, filling-none, filling-whole}
use Rattle.laws.proofs.Parts.{part, part_at}
use Rattle.laws.proofs.Sums.{plus, plus-part}
use Rattle.matrixing.specs.Halves.{half_place}

-- ---- a sample times the entries at places 0 to 15, and then at places 48 to 63

module _ (sums r : List Float) (x : Float) (long : length sums ≡ 32) where
  abbrev pub products : ℕ → Float
  products i = mul binary32 x (at r (half_place i))

  pub front_part :
      {ys : List Float} → ys ≡ tab (length (part 0 16 sums)) (plus (part 0 16 sums) (λ i. mul binary32 x (at (part 0 16 r) i)))
      → Filling sums (plus sums products) 16 (take 0 sums ++ (ys ++ drop 16 (drop 0 sums)))
  front_part e =
      plus-part products _ 0 16 (filling-none sums (plus sums products)) (omega arith) (omega arith) e
      (λ i h. let p : 0 + i ≡ half_place (0 + i) = omega arith in ap (mul binary32 x) (part_at 0 16 r i nan h ∙ ap (at r) p))

  pub back_part :
      {l zs : List Float} → Filling sums (plus sums products) 16 l
      → zs ≡ tab (length (part 16 32 l)) (plus (part 16 32 l) (λ i. mul binary32 x (at (part 48 64 r) i)))
      → take 16 l ++ (zs ++ drop 16 (drop 16 l)) ≡ tab 32 (plus sums products)
  back_part w e =
      filling-whole
      (plus-part products _ 16 32 w (omega arith) (omega arith) e
      (λ i h. let p : 48 + i ≡ half_place (16 + i) = omega arith in ap (mul binary32 x) (part_at 48 64 r i nan h ∙ ap (at r) p)))
      long (omega arith) (omega arith)
