-- Inversion: odd places of odd subbands negated. From document 01, "Inversion". Its refusal is antialias's. Assumes nothing.
use Rattle.std.specs.Prelude.{cond, List, ℕ, ◌/◌, ◌%◌, eqb, Float}
use Rattle.std.specs.Float.Ieee.{neg}
use Rattle.laws.specs.Checks.{Answered}
use Rattle.laws.specs.Lists.{at, tab}
use Rattle.antialias.specs.Antialias.{samples_check}

-- "Negates odd i in odd subbands"
abbrev pub inverted_at : List Float → ℕ → Float
inverted_at xs k = cond (eqb (k / 18 % 2) 1) (cond (eqb (k % 18 % 2) 1) (neg (at xs k)) (at xs k)) (at xs k)

unfoldable pub inverted : List Float → List Float
inverted xs = tab 576 (inverted_at xs)

-- a part of it: place k by the rule where u gives it the number v, and as it was elsewhere
abbrev pub turned_where : (ℕ → ℕ) → ℕ → List Float → ℕ → Float
turned_where u v xs k = cond (eqb (u k) v) (cond (eqb (k % 18 % 2) 1) (neg (at xs k)) (at xs k)) (at xs k)

-- ---- the stage

-- what `frequency_inversion` answers: its number, and what it leaves in the samples xs
abbrev pub InversionAnswer : List Float → ℕ → List Float → Type 0
InversionAnswer xs = Answered (samples_check xs) xs (inverted xs)
