-- Any two answers that reorder's promise allows are equal: its number, and what it leaves in lent memory. Assumes nothing.
use mathlib.Core.Path.{◌≡◌}
use mathlib.Core.List.{List}
use Prim.Native.Nat.{ℕ}
use lib.Ieee.{Float}
use Rattle.laws.proofs.Determined.{determined}
use Rattle.side_info.specs.declared.BlockType.{BlockType}
use Rattle.reorder.specs.Reorder.{ReorderAnswer}

pub reorder_determined :
    (n t : ℕ) (kind : BlockType) (count : ℕ) (xs : List Float) {r u : ℕ} {l m : List Float} → ReorderAnswer n t kind count xs r l → ReorderAnswer n t kind count xs u m
    → (r ≡ u) × (l ≡ m)
reorder_determined n t kind count xs a b = determined a b
