-- Hybrid synthesis, subband by subband: what a subband's two halves are to the whole. Assumes nothing.
use mathlib.Core.Path.{◌≡◌, ap, ◌∙◌}
use mathlib.Core.List.{List}
use Prim.Native.Nat.{ℕ, ◌+◌, ◌*◌, ◌/◌, ◌%◌, ◌<◌}
use native.Mathlib.Omega.{arith}
use lib.ListN.{length}
use lib.Ieee.{Float, nan, binary32, add}
use Rattle.laws.specs.Lists.{at, tab}
use Rattle.laws.proofs.Lists.{length-tab, tab-place, tab-same, Filling}
use Rattle.laws.proofs.Parts.{filling-rest}
use Rattle.side_info.specs.declared.BlockType.{BlockType}
use Rattle.side_info.specs.declared.Edition.{Edition}
use Rattle.imdct.specs.Imdct.{place_of}
use Rattle.hybrid.specs.Hybrid.{window_kind, subband_of, places_of, hybrid_at, overlap_at}

module _ (edition : Edition) (kind : BlockType) (sb : ℕ) where
  -- a subband is transformed as it was, whatever became of those before it
  pub places_kept : {xs l : List Float} {f : ℕ → Float} → Filling xs f (18 * sb) l → places_of edition kind l sb ≡ places_of edition kind xs sb
  unfolding places_of subband_of
  places_kept {xs} {l} w =
      ap (λ (s : List Float). tab 36 (place_of edition (window_kind kind sb) s))
      (tab-same 18 (λ i. at l (18 * sb + i)) (λ i. at xs (18 * sb + i)) (λ i h. filling-rest nan w (18 * sb + i) (omega arith)))

  pub places_long : {places : List Float} (xs : List Float) → places ≡ places_of edition kind xs sb → length places ≡ 36
  unfolding places_of
  places_long xs e = ap length e ∙ length-tab 36 (place_of edition (window_kind kind sb) (subband_of xs sb))

  module _ {l places : List Float} {f : ℕ → Float} (xs : List Float) (w : Filling xs f (18 * sb) l) (e : places ≡ places_of edition kind l sb) (i : ℕ) (h : i < 18) where
    -- the first half, added to the overlap, which is still what it was there
    pub first-half :
        {os kept sums : List Float} {g : ℕ → Float} → Filling os g (18 * sb) kept → sums ≡ tab 18 (λ i. add binary32 (at places i) (at kept (18 * sb + i)))
        → at sums (0 + i) ≡ hybrid_at edition kind xs os (18 * sb + i)
    first-half {kept = kept} v t =
        let q : (18 * sb + i) / 18 ≡ sb = omega arith in
        let r : (18 * sb + i) % 18 ≡ i = omega arith in
        let z : 0 + i ≡ i = omega arith in
        rw (z, tab-place 18 (λ i. add binary32 (at places i) (at kept (18 * sb + i))) i nan t h, q, r, e, places_kept w, filling-rest nan v (18 * sb + i) (omega arith))

    -- the second half
    pub second_half : at places (18 + i) ≡ overlap_at edition kind xs (18 * sb + i)
    second_half =
        let q : (18 * sb + i) / 18 ≡ sb = omega arith in
        let r : (18 * sb + i) % 18 ≡ i = omega arith in
        let z : 18 + i ≡ i + 18 = omega arith in
        rw (z, q, r, e, places_kept w)
