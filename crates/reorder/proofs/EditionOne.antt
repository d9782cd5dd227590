-- Edition 1 is reorder as it was before there were editions. Assumes nothing.
use mathlib.Core.Path.{◌≡◌, refl}
use mathlib.Core.List.{List}
use Prim.Native.Nat.{ℕ}
use lib.Ieee.{Float}
use Rattle.side_info.specs.declared.BlockType.{BlockType}
use Rattle.side_info.specs.declared.Edition.TheVariants.{First}
use Rattle.reorder.specs.Reorder.{reordered, ReorderAnswer}
use Rattle.reorder.specs.EditionOne as before

module _ (t : ℕ) (kind : BlockType) (count : ℕ) (xs : List Float) where
  pub edition-one : reordered First t kind count xs ≡ before.reordered t kind count xs
  unfolding reordered before.reordered
  edition-one = refl

  -- what the entry point answers at edition 1 is what it answered, and the other way round
  module _ {k : ℕ} {ys : List Float} where
    pub answer_as_one : ReorderAnswer 1 t kind count xs k ys → before.ReorderAnswer t kind count xs k ys
    unfolding reordered before.reordered
    answer_as_one w = record { number = w.number; leaves = w.leaves }

    pub as_one_answer : before.ReorderAnswer t kind count xs k ys → ReorderAnswer 1 t kind count xs k ys
    unfolding reordered before.reordered
    as_one_answer w = record { number = w.number; leaves = w.leaves }
