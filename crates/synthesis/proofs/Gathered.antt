-- Where the places of u come from: the first 32 of block 2i, the last 32 of block 2i + 1. Assumes nothing.
use mathlib.Core.Path.{◌≡◌, ap, ◌∙◌}
use mathlib.Core.List.{List}
use Prim.Native.Nat.{ℕ, ◌+◌, ◌*◌, ◌/◌, ◌%◌, ◌<◌}
use native.Mathlib.Decide.{dec_lt}
use native.Mathlib.Omega.{arith}
use borrow.Author.Tests.{lt-ltb, le-ltb}
use lib.Ieee.{Float, binary32, mul}
use Rattle.laws.specs.Lists.{at, tab}
use Rattle.laws.proofs.Lists.{tab-same}
use Rattle.laws.proofs.Sums.{plus, Sums, sums_more}
use Rattle.synthesis_tables.specs.Window.{window}
use Rattle.synthesis.specs.Synthesis.{gathered, windowed_at}

-- the paper's words, for any i
module _ (i j : ℕ) (h : j < 32) where
  pub first-half : gathered (64 * i + j) ≡ 128 * i + j
  first-half =
      let d : (64 * i + j) / 64 ≡ i = omega arith in
      let m : (64 * i + j) % 64 ≡ j = omega arith in
      rw (d, m, lt-ltb j 32 h)

  pub second_half : gathered (64 * i + 32 + j) ≡ 128 * i + 96 + j
  second_half =
      let d : (64 * i + 32 + j) / 64 ≡ i = omega arith in
      let m : (64 * i + 32 + j) % 64 ≡ 32 + j = omega arith in
      rw (d, m, le-ltb (32 + j) 32 (omega arith)) (omega arith)

-- the 32 places from 32j on come from block j: its first half where j is even, its second where j is odd
pub gathered-row : (j k : ℕ) → k < 32 → gathered (32 * j + k) ≡ 64 * j + 32 * (j % 2) + k
gathered-row j k h = split (dec_lt (j % 2) 1)
  where
    split : Dec (j % 2 < 1) → gathered (32 * j + k) ≡ 64 * j + 32 * (j % 2) + k
    split (yes e) =
        let p : 32 * j + k ≡ 64 * (j / 2) + k = omega arith in
        ap gathered p ∙ first-half (j / 2) k h ∙ omega arith
    split (no e) =
        let p : 32 * j + k ≡ 64 * (j / 2) + 32 + k = omega arith in
        ap gathered p ∙ second_half (j / 2) k h ∙ omega arith

-- the 32 sums of a slot, as both are added to them, each times its part of the window w
abbrev pub terms : List Float → ℕ → ℕ → Float
terms v k j = windowed_at v (32 * j + k)

module _ {sums l : List Float} (v w : List Float) (i : ℕ) (e : w ≡ window) where
  pub first_added : Sums 32 (terms v) (2 * i) sums → l ≡ tab 32 (plus sums (λ k. mul binary32 (at v (128 * i + k)) (at w (64 * i + k)))) → Sums 32 (terms v) (2 * i + 1) l
  first_added s d = sums_more s (d ∙ tab-same 32 _ _ (λ k h. let p : 32 * (2 * i) + k ≡ 64 * i + k = omega arith in rw (e, p, first-half i k h)))

  pub second_added :
      Sums 32 (terms v) (2 * i + 1) sums → l ≡ tab 32 (plus sums (λ k. mul binary32 (at v (128 * i + 96 + k)) (at w (64 * i + 32 + k)))) → Sums 32 (terms v) (2 * (i + 1)) l
  second_added s d =
      let next : 2 * (i + 1) ≡ 2 * i + 1 + 1 = omega arith in
      rw next (sums_more s (d ∙ tab-same 32 _ _ (λ k h. let p : 32 * (2 * i + 1) + k ≡ 64 * i + 32 + k = omega arith in rw (e, p, second_half i k h))))
