-- The band starts of document 01, for 44.1, 48 and 32 kHz, and what preflag adds to each long band's factor. tools/tables.py writes this file. Assumes nothing.
use Rattle.std.specs.Prelude.{List, [], ◌∷◌, ℕ}

unfoldable pub long_tables : List (List ℕ)
long_tables =
    (0 ∷ 4 ∷ 8 ∷ 12 ∷ 16 ∷ 20 ∷ 24 ∷ 30 ∷ 36 ∷ 44 ∷ 52 ∷ 62 ∷ 74 ∷ 90 ∷ 110 ∷ 134 ∷ 162 ∷ 196 ∷ 238 ∷ 288 ∷ 342 ∷ 418 ∷ 576 ∷ [])
    ∷ (0 ∷ 4 ∷ 8 ∷ 12 ∷ 16 ∷ 20 ∷ 24 ∷ 30 ∷ 36 ∷ 42 ∷ 50 ∷ 60 ∷ 72 ∷ 88 ∷ 106 ∷ 128 ∷ 156 ∷ 190 ∷ 230 ∷ 276 ∷ 330 ∷ 384 ∷ 576 ∷ [])
    ∷ (0 ∷ 4 ∷ 8 ∷ 12 ∷ 16 ∷ 20 ∷ 24 ∷ 30 ∷ 36 ∷ 44 ∷ 54 ∷ 66 ∷ 82 ∷ 102 ∷ 126 ∷ 156 ∷ 194 ∷ 240 ∷ 296 ∷ 364 ∷ 448 ∷ 550 ∷ 576 ∷ [])
    ∷ []

unfoldable pub short_tables : List (List ℕ)
short_tables =
    (0 ∷ 4 ∷ 8 ∷ 12 ∷ 16 ∷ 22 ∷ 30 ∷ 40 ∷ 52 ∷ 66 ∷ 84 ∷ 106 ∷ 136 ∷ 192 ∷ [])
    ∷ (0 ∷ 4 ∷ 8 ∷ 12 ∷ 16 ∷ 22 ∷ 28 ∷ 38 ∷ 50 ∷ 64 ∷ 80 ∷ 100 ∷ 126 ∷ 192 ∷ [])
    ∷ (0 ∷ 4 ∷ 8 ∷ 12 ∷ 16 ∷ 22 ∷ 30 ∷ 42 ∷ 58 ∷ 78 ∷ 104 ∷ 138 ∷ 180 ∷ 192 ∷ [])
    ∷ []

unfoldable pub pretab : List ℕ
pretab =
    0 ∷ 0 ∷ 0 ∷ 0 ∷ 0 ∷ 0 ∷ 0 ∷ 0 ∷ 0 ∷ 0 ∷ 0 ∷ 1 ∷ 1 ∷ 1 ∷ 1 ∷ 2 ∷ 2 ∷ 3 ∷ 3 ∷ 3 ∷ 2 ∷ 0 ∷ []
