-- Any two answers that hybrid synthesis's promise allows are equal: its number, and what it leaves in lent memory. Assumes nothing.
use mathlib.Core.Path.{◌≡◌}
use mathlib.Core.List.{List}
use Prim.Native.Nat.{ℕ}
use lib.Ieee.{Float}
use Rattle.laws.proofs.Determined.{determined}
use Rattle.side_info.specs.declared.BlockType.{BlockType}
use Rattle.hybrid.specs.Hybrid.{HybridAnswer}

pub hybrid_determined :
    (n : ℕ) (kind : BlockType) (xs os : List Float) {k j : ℕ} {l m : List Float × List Float} → HybridAnswer n kind xs os k l → HybridAnswer n kind xs os j m
    → (k ≡ j) × (l ≡ m)
hybrid_determined n kind xs os a b = determined a b
