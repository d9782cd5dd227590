-- The line for a refused record, `record N refused K`, as ASCII codes. Assumes nothing.
use Rattle.std.specs.Prelude.{List, [], ◌∷◌, ◌++◌, ℕ, ◌+◌, length, take, drop}
use Rattle.text.specs.Digits.{decimal}

-- "record ", " refused " and the line's end
abbrev pub word_record : List ℕ
word_record = 114 ∷ 101 ∷ 99 ∷ 111 ∷ 114 ∷ 100 ∷ 32 ∷ []

abbrev pub word_refused : List ℕ
word_refused = 32 ∷ 114 ∷ 101 ∷ 102 ∷ 117 ∷ 115 ∷ 101 ∷ 100 ∷ 32 ∷ []

-- "`record N refused K` on descriptor 2 (N from 0)"
unfoldable pub refusal_line : ℕ → ℕ → List ℕ
refusal_line n k = word_record ++ decimal n ++ word_refused ++ decimal k ++ 10 ∷ []

-- a list with a text stored in it from a place on
unfoldable pub stored : List ℕ → ℕ → List ℕ → List ℕ
stored text at l = take at l ++ (text ++ drop (at + length text) l)
