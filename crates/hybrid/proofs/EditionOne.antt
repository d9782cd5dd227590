-- Edition 1 is hybrid synthesis as it was before there were editions. Assumes nothing.
use mathlib.Core.Path.{◌≡◌, refl}
use mathlib.Core.List.{List}
use Prim.Native.Nat.{ℕ}
use lib.Ieee.{Float}
use Rattle.side_info.specs.declared.BlockType.{BlockType}
use Rattle.side_info.specs.declared.Edition.TheVariants.{First}
use Rattle.hybrid.specs.Hybrid.{places_of, hybrid, overlap_after, HybridAnswer}
use Rattle.hybrid.specs.EditionOne as before

module _ (kind : BlockType) (xs os : List Float) where
  pub edition-one_samples : hybrid First kind xs os ≡ before.hybrid kind xs os
  unfolding hybrid before.hybrid places_of before.places_of
  edition-one_samples = refl

  pub edition-one-overlap : overlap_after First kind xs ≡ before.overlap_after kind xs
  unfolding overlap_after before.overlap_after places_of before.places_of
  edition-one-overlap = refl

  -- what the entry point answers at edition 1 is what it answered, and the other way round
  module _ {k : ℕ} {ys : List Float × List Float} where
    pub answer_as_one : HybridAnswer 1 kind xs os k ys → before.HybridAnswer kind xs os k ys
    unfolding hybrid before.hybrid overlap_after before.overlap_after places_of before.places_of
    answer_as_one w = record { number = w.number; leaves = w.leaves }

    pub as_one_answer : before.HybridAnswer kind xs os k ys → HybridAnswer 1 kind xs os k ys
    unfolding hybrid before.hybrid overlap_after before.overlap_after places_of before.places_of
    as_one_answer w = record { number = w.number; leaves = w.leaves }
