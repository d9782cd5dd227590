-- A row of terms is added to parts of the sums, each of which was lent and came back. Assumes nothing.
use mathlib.Core.Path.{◌≡◌, ap, ◌∙◌}
use mathlib.Core.List.{List, ◌++◌}
use Prim.Native.Nat.{ℕ, ◌+◌, ◌-◌, ◌<◌, ◌≤◌}
use native.Mathlib.Omega.{arith}
use lib.ListN.{length, take, drop, length-append, length-drop}
use lib.Ieee.{Float, nan, binary32, add, mul}
use borrow.Author.Tests.{lt-ltb, le-ltb}
use Rattle.laws.specs.Lists.{at, row, tab}
use Rattle.laws.proofs.Lists.{length-tab, tab-same, Filling, filling-none, filling-whole}
use Rattle.laws.proofs.Parts.{part, part_length, part_at}
use Rattle.laws.proofs.Sums.{plus, plus-part}
use Rattle.imdct.specs.Halves.{half_place}

-- a row of a table that was lent
pub row-long : {t u : List (List Float)} {n : ℕ} (m : ℕ) → t ≡ u → length (row u m) ≡ n → length (row t m) ≡ n
row-long m e l = rw e l

-- x times the part from a on of a row r, added to n sums
pub part_added :
    {ys r₀ : List Float} (x : Float) (l r : List Float) (a e n : ℕ) → r₀ ≡ r → length l ≡ n → n ≤ e - a
    → ys ≡ tab (length l) (plus l (λ i. mul binary32 x (at (part a e r₀) i))) → ys ≡ tab n (plus l (λ i. mul binary32 x (at r (a + i))))
part_added x l r a e n s long h ey =
    (rw (s, long) at ey) ∙ tab-same n _ _ (λ i q. ap (λ (y : Float). add binary32 (at l i) (mul binary32 x y)) (part_at a e r i nan (omega arith)))

-- 18 sums, of which the first 9 were lent and came back as ys
abbrev halfway : List Float → List Float → List Float
halfway l ys = take 0 l ++ (ys ++ drop 9 (drop 0 l))

pub halfway-long : {ys : List Float} (l : List Float) (f : ℕ → Float) → length l ≡ 18 → ys ≡ tab (length (part 0 9 l)) f → length (halfway l ys) ≡ 18
halfway-long l f e ey = let n = part_length 0 9 l (omega arith) in simp (length-append, length-drop, ey, length-tab) (omega (arith, n))

-- x times the row r at the places that others mirror, added to 18 sums: first to one half of them, then to the other
module _ (x : Float) (r : List Float) where
  abbrev product : ℕ → Float
  product p = mul binary32 x (at r (half_place p))

  first : (i : ℕ) → i < 9 → mul binary32 x (at (part 0 9 r) i) ≡ product (0 + i)
  first i h = let z : 0 + i ≡ i = omega arith in ap (mul binary32 x) (part_at 0 9 r i nan h ∙ rw (z, lt-ltb i 9 h))

  second : (i : ℕ) → i < 9 → mul binary32 x (at (part 18 27 r) i) ≡ product (9 + i)
  second i h =
      let z : 18 + i ≡ 9 + (9 + i) = omega arith in
      ap (mul binary32 x) (part_at 18 27 r i nan h ∙ rw (le-ltb (9 + i) 9 (omega arith), z))

  -- the row that was lent is r
  pub halves-added :
      (l ys zs : List Float) {r₀ : List Float} → r₀ ≡ r → length l ≡ 18 → ys ≡ tab (length (part 0 9 l)) (plus (part 0 9 l) (λ i. mul binary32 x (at (part 0 9 r₀) i)))
      → zs ≡ tab (length (part 9 18 (halfway l ys))) (plus (part 9 18 (halfway l ys)) (λ i. mul binary32 x (at (part 18 27 r₀) i)))
      → take 9 (halfway l ys) ++ (zs ++ drop 9 (drop 9 (halfway l ys))) ≡ tab 18 (plus l product)
  halves-added l ys zs e long ey ez =
      let v : Filling l (plus l product) 9 (halfway l ys) = plus-part product _ 0 9 (filling-none l (plus l product)) (omega arith) (omega arith) (rw e at ey) first in
      filling-whole (plus-part product _ 9 18 v (omega arith) (omega arith) (rw e at ez) second) long (omega arith) (omega arith)
