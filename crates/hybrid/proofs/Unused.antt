-- The subbands that are not used: each of their places is +0.0, so that +0.0 plus the overlap and an overlap of +0.0 are what is left. Assumes nothing.
use mathlib.Core.Path.{◌≡◌, sym, ap, subst, ◌∙◌}
use mathlib.Core.List.{List, ◌++◌}
use Prim.Native.Nat.{ℕ, ◌+◌, ◌-◌, ◌*◌, ◌/◌, ◌%◌, ◌<◌, ◌≤◌}
use native.Mathlib.Omega.{arith}
use lib.Ieee.{Float, nan, binary32, add, mul}
use lib.ListN.{length, take, drop}
use Rattle.laws.specs.Lists.{at, tab, filled}
use Rattle.laws.specs.Sum.{zero_f}
use Rattle.laws.proofs.Lists.{get_d_tab, Filling, filling-whole, filled-filling}
use Rattle.laws.proofs.Parts.{part, part_length, filling_run, filling_ahead}
use Rattle.laws.proofs.Zeros.{Zero}
use Rattle.side_info.specs.declared.BlockType.{BlockType}
use Rattle.side_info.specs.declared.Edition.{Edition}
use Rattle.silence.specs.Silence.{used_subbands}
use Rattle.silence.proofs.Zero.{zero-times-finite}
use Rattle.silence.proofs.Silent.{used_most, unused_zero}
use Rattle.imdct.specs.Imdct.{place_of}
use Rattle.imdct.proofs.Silent.{Silent, silent-place}
use Rattle.hybrid.specs.Hybrid.{window_kind, subband_of, places_of, hybrid_at, overlap_at, hybrid, overlap_after}
use Rattle.hybrid.proofs.Windows.{kind-small}

module _ (xs : List Float) where
  subband_silent : (sb : ℕ) → used_subbands xs ≤ sb → sb < 32 → Silent (subband_of xs sb)
  unfolding subband_of
  subband_silent sb u h i l y f =
      subst (λ (x : Float). Zero (mul binary32 x y)) (sym (get_d_tab 18 (λ i. at xs (18 * sb + i)) i nan l))
      (zero-times-finite (at xs (18 * sb + i)) y (unused_zero xs (18 * sb + i) (omega arith) (omega arith)) f)

  place-silent : (edition : Edition) (kind : BlockType) (sb p : ℕ) → used_subbands xs ≤ sb → sb < 32 → p < 36 → at (places_of edition kind xs sb) p ≡ zero_f
  unfolding places_of
  place-silent edition kind sb p u h l =
      get_d_tab 36 (place_of edition (window_kind kind sb) (subband_of xs sb)) p nan l
      ∙ silent-place (subband_of xs sb) (subband_silent sb u h) edition (window_kind kind sb) p (kind-small kind sb) l

  module _ (edition : Edition) (kind : BlockType) (k : ℕ) (u : 18 * used_subbands xs ≤ k) (h : k < 576) where
    hybrid-silent : (os : List Float) → add binary32 zero_f (at os k) ≡ hybrid_at edition kind xs os k
    hybrid-silent os = ap (λ (x : Float). add binary32 x (at os k)) (sym (place-silent edition kind (k / 18) (k % 18) (omega arith) (omega arith) (omega arith)))

    overlap-silent : zero_f ≡ overlap_at edition kind xs k
    overlap-silent = sym (place-silent edition kind (k / 18) (k % 18 + 18) (omega arith) (omega arith) (omega arith))

pub used_small : {n : ℕ} (xs : List Float) → n ≡ used_subbands xs → n ≤ 32
used_small xs e = rw e (used_most xs)

-- the used subbands are done, in the samples l and the overlap o; then the rest of both was lent as silent and came back
module _ (edition : Edition) (kind : BlockType) (xs os l o : List Float) (n : ℕ) (used : n ≡ used_subbands xs) (long : length xs ≡ 576) (lasting : length os ≡ 576)
    (el : l ≡ filled (18 * n) (hybrid_at edition kind xs os) xs) (eo : o ≡ filled (18 * n) (overlap_at edition kind xs) os) where
  few : 18 * n ≤ 576
  few = let u = used_small xs used in omega (arith, u)

  samples_done : Filling xs (hybrid_at edition kind xs os) (18 * n) l
  samples_done = filled-filling (18 * n) (rw long few) el

  overlap-done : Filling os (overlap_at edition kind xs) (18 * n) o
  overlap-done = filled-filling (18 * n) (rw lasting few) eo

  beyond : (i : ℕ) → 18 * used_subbands xs ≤ 18 * n + i
  beyond i = rw (← used) (omega arith)

  pub samples_all :
      {ys : List Float} → ys ≡ tab (length (part (18 * n) 576 l)) (λ i. add binary32 zero_f (at (part (18 * n) 576 o) i))
      → take (18 * n) l ++ (ys ++ drop (576 - 18 * n) (drop (18 * n) l)) ≡ hybrid edition kind xs os
  unfolding hybrid
  samples_all ey =
      let w = samples_done.long ∙ long in
      let v = overlap-done.long ∙ lasting in
      filling-whole
      (filling_run (18 * n) 576 samples_done (omega (arith, few)) (omega (arith, w)) (rw (part_length (18 * n) 576 l (omega (arith, w))) at ey)
      (λ i q.
      ap (add binary32 zero_f) (filling_ahead nan overlap-done (576 - 18 * n) i (omega (arith, v, w)))
      ∙ hybrid-silent xs edition kind (18 * n + i) (beyond i) (omega (arith, w)) os))
      long (omega (arith, w)) (omega (arith, w))

  pub overlap-all :
      {zs : List Float} → zs ≡ tab (length (part (18 * n) 576 o)) (λ i. zero_f)
      → take (18 * n) o ++ (zs ++ drop (576 - 18 * n) (drop (18 * n) o)) ≡ overlap_after edition kind xs
  unfolding overlap_after
  overlap-all ez =
      let v = overlap-done.long ∙ lasting in
      filling-whole
      (filling_run (18 * n) 576 overlap-done (omega (arith, few)) (omega (arith, v)) (rw (part_length (18 * n) 576 o (omega (arith, v))) at ez)
      (λ i q. overlap-silent xs edition kind (18 * n + i) (beyond i) (omega (arith, v))))
      lasting (omega (arith, v)) (omega (arith, v))
