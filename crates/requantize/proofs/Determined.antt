-- Any two answers that requantize's promise allows are equal: its number, and what it leaves in lent memory. Assumes nothing.
use mathlib.Core.Path.{◌≡◌}
use mathlib.Core.List.{List}
use Prim.Native.Nat.{ℕ}
use lib.IntN.{ℤ}
use lib.Ieee.{Float}
use Rattle.laws.proofs.Determined.{determined}
use Rattle.side_info.specs.declared.SideInfo.{SideInfo}
use Rattle.requantize.specs.Requantize.{RequantizeAnswer}

pub requantize_determined :
    (t : ℕ) (s : SideInfo) (xs : List ℤ) (old : List Float) {r u : ℕ} {l m : List Float} → RequantizeAnswer t s xs old r l → RequantizeAnswer t s xs old u m
    → (r ≡ u) × (l ≡ m)
requantize_determined t s xs old a b = determined a b
