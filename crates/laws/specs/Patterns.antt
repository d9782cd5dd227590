-- How a table's copy is read: it holds the bit patterns of f32 numbers. Assumes nothing.
use Rattle.std.specs.Prelude.{List, map, ℕ, ◌/◌, ◌%◌, get_or, Float}
use Rattle.std.specs.Float.{binary32}
use Rattle.std.specs.Float.Ieee.{of_bits}

-- the numbers that a list of patterns stands for
abbrev pub floats : List ℕ → List Float
floats = map (of_bits binary32)

-- the same of a table of rows
abbrev pub rows : List (List ℕ) → List (List Float)
rows = map floats

-- the pattern at a place; beyond the end one that stands for no number
abbrev pub place : List ℕ → ℕ → ℕ
place r i = get_or r i 2143289344

-- what a pattern is without its sign
abbrev pub size : ℕ → ℕ
size b = b % 2147483648

-- 0 where the number is positive, 1 where it is negative
abbrev pub sign : ℕ → ℕ
sign b = b / 2147483648
