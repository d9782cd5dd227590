-- Any two answers that antialias's promise allows are equal: its number, and what it leaves in lent memory. Assumes nothing.
use mathlib.Core.Path.{◌≡◌}
use mathlib.Core.List.{List}
use Prim.Native.Nat.{ℕ}
use lib.Ieee.{Float}
use Rattle.laws.proofs.Determined.{determined}
use Rattle.side_info.specs.declared.BlockType.{BlockType}
use Rattle.antialias.specs.Antialias.{AntialiasAnswer}

pub antialias_determined :
    (kind : BlockType) (xs : List Float) {r t : ℕ} {l m : List Float} → AntialiasAnswer kind xs r l → AntialiasAnswer kind xs t m → (r ≡ t) × (l ≡ m)
antialias_determined kind xs a b = determined a b
