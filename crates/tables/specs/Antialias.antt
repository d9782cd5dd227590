-- The eight pairs of alias constants, as puremp3 prints them. tools/tables.py writes this file. Assumes nothing.
use Rattle.std.specs.Prelude.{List, [], ◌∷◌, ℕ, Float}
use Rattle.laws.specs.Patterns.{floats}

unfoldable pub cs_bits : List ℕ
cs_bits =
    1062962345 ∷ 1063369176 ∷ 1064508131 ∷ 1065073288 ∷ 1065278021 ∷ 1065339140 ∷ 1065351522 ∷ 1065353099 ∷ []

unfoldable pub cs : List Float
cs = floats cs_bits

unfoldable pub ca_bits : List ℕ
ca_bits =
    3204691459 ∷ 3203499739 ∷ 3198186227 ∷ 3191490407 ∷ 3183587331 ∷ 3173501943 ∷ 3160974060 ∷ 3144842163 ∷ []

unfoldable pub ca : List Float
ca = floats ca_bits
