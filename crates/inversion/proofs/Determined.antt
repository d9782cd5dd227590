-- Any two answers that inversion's promise allows are equal: its number, and what it leaves in lent memory. Assumes nothing.
use mathlib.Core.Path.{◌≡◌}
use mathlib.Core.List.{List}
use Prim.Native.Nat.{ℕ}
use lib.Ieee.{Float}
use Rattle.laws.proofs.Determined.{determined}
use Rattle.inversion.specs.Inversion.{InversionAnswer}

pub inversion_determined : (xs : List Float) {r t : ℕ} {l m : List Float} → InversionAnswer xs r l → InversionAnswer xs t m → (r ≡ t) × (l ≡ m)
inversion_determined xs a b = determined a b
