-- Any two answers that synthesis's promise allows are equal: its number, its peak, and what it leaves in lent memory. Assumes nothing.
use mathlib.Core.Path.{◌≡◌}
use mathlib.Core.List.{List}
use Prim.Native.Nat.{ℕ}
use lib.Ieee.{Float}
use Rattle.laws.proofs.Determined.{determined}
use Rattle.synthesis.specs.Synthesis.{SynthesisAnswer}

pub synthesis_determined :
    (xs v room : List Float) {k j : ℕ} {l m : ℕ × List Float × List Float} → SynthesisAnswer xs v room k l → SynthesisAnswer xs v room j m → (k ≡ j) × (l ≡ m)
synthesis_determined xs v room a b = determined a b
