-- The widths of the scale factor bands by ISO/IEC 11172-3, tables B.8: 21 long bands and the rest up to 576, 12 short ones and the rest up to 192; 44.1, 48 and 32 kHz. Assumes nothing.
use Rattle.std.specs.Prelude.{List, [], ◌∷◌, ℕ, ◌+◌}

unfoldable pub long_widths : List (List ℕ)
long_widths =
    (4 ∷ 4 ∷ 4 ∷ 4 ∷ 4 ∷ 4 ∷ 6 ∷ 6 ∷ 8 ∷ 8 ∷ 10 ∷ 12 ∷ 16 ∷ 20 ∷ 24 ∷ 28 ∷ 34 ∷ 42 ∷ 50 ∷ 54 ∷ 76 ∷ 158 ∷ [])
    ∷ (4 ∷ 4 ∷ 4 ∷ 4 ∷ 4 ∷ 4 ∷ 6 ∷ 6 ∷ 6 ∷ 8 ∷ 10 ∷ 12 ∷ 16 ∷ 18 ∷ 22 ∷ 28 ∷ 34 ∷ 40 ∷ 46 ∷ 54 ∷ 54 ∷ 192 ∷ [])
    ∷ (4 ∷ 4 ∷ 4 ∷ 4 ∷ 4 ∷ 4 ∷ 6 ∷ 6 ∷ 8 ∷ 10 ∷ 12 ∷ 16 ∷ 20 ∷ 24 ∷ 30 ∷ 38 ∷ 46 ∷ 56 ∷ 68 ∷ 84 ∷ 102 ∷ 26 ∷ [])
    ∷ []

unfoldable pub short_widths : List (List ℕ)
short_widths =
    (4 ∷ 4 ∷ 4 ∷ 4 ∷ 6 ∷ 8 ∷ 10 ∷ 12 ∷ 14 ∷ 18 ∷ 22 ∷ 30 ∷ 56 ∷ [])
    ∷ (4 ∷ 4 ∷ 4 ∷ 4 ∷ 6 ∷ 6 ∷ 10 ∷ 12 ∷ 14 ∷ 16 ∷ 20 ∷ 26 ∷ 66 ∷ [])
    ∷ (4 ∷ 4 ∷ 4 ∷ 4 ∷ 6 ∷ 8 ∷ 12 ∷ 16 ∷ 20 ∷ 26 ∷ 34 ∷ 42 ∷ 12 ∷ [])
    ∷ []

-- where the bands of such widths start, the first at s, and where the last ends
abbrev pub running : ℕ → List ℕ → List ℕ
running s [] = s ∷ []
running s (w ∷ ws) = s ∷ running (s + w) ws
