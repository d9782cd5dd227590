-- The ratios of intensity positions 0 to 5, left and right, and the root of one half: each the nearest f32. tools/tables.py writes this file. Assumes nothing.
use Rattle.std.specs.Prelude.{List, [], ◌∷◌, ℕ, Float}
use Rattle.std.specs.Float.{binary32}
use Rattle.std.specs.Float.Ieee.{of_bits}
use Rattle.laws.specs.Patterns.{rows}

unfoldable pub intensity_ratios_bits : List (List ℕ)
intensity_ratios_bits =
    (0 ∷ 1065353216 ∷ [])
    ∷ (1045980556 ∷ 1061807773 ∷ [])
    ∷ (1052469167 ∷ 1059212329 ∷ [])
    ∷ (1056964608 ∷ 1056964608 ∷ [])
    ∷ (1059212329 ∷ 1052469167 ∷ [])
    ∷ (1061807773 ∷ 1045980556 ∷ [])
    ∷ []

unfoldable pub intensity_ratios : List (List Float)
intensity_ratios = rows intensity_ratios_bits

unfoldable pub half_root : Float
half_root = of_bits binary32 1060439283
