-- Reorder as it was before there were editions. From document 01, "Reorder". Assumes nothing.
use Rattle.std.specs.Prelude.{Bool, not, cond, ◌&&◌, List, [], ◌∷◌, ℕ, ltb, leb, Float}
use Rattle.laws.specs.Checks.{Check, check, Answered}
use Rattle.laws.specs.Finite.{all_finite}
use Rattle.laws.specs.Lists.{at, tab}
use Rattle.side_info.specs.declared.BlockType.{BlockType}
use Rattle.bands.specs.Bands.{table_too_high, short_starts, short_band}
use Rattle.side_info.specs.Kinds.{by_kind}
use Rattle.side_info.specs.Side.{count_too_high}
use Rattle.reorder.specs.Reorder.{reached, source}

-- "band 12 never"
abbrev pub reorders : ℕ → List ℕ → ℕ → ℕ → Bool
reorders first starts count k = leb first k && (ltb k 12 && reached first starts count k)

-- the bands from `first` on
abbrev pub reordered_from : ℕ → List ℕ → ℕ → List Float → ℕ → Float
reordered_from first starts count xs i = cond (reorders first starts count (short_band starts i)) (at xs (source starts i)) (at xs i)

-- "Short from band 0, Mixed from 3"; "Other block types unchanged"
abbrev pub reordered_at : ℕ → BlockType → ℕ → List Float → ℕ → Float
reordered_at t kind count xs i = by_kind kind (at xs i) (reordered_from 0 (short_starts t) count xs i) (reordered_from 3 (short_starts t) count xs i)

unfoldable pub reordered : ℕ → BlockType → ℕ → List Float → List Float
reordered t kind count xs = tab 576 (reordered_at t kind count xs)

-- "reorder 3, 4 and 9"
abbrev pub reorder_checks : ℕ → ℕ → List Float → List Check
reorder_checks t count xs = check 3 (table_too_high t) ∷ check 4 (count_too_high count) ∷ check 9 (not (all_finite xs)) ∷ []

-- what `reorder` answers: its number, and what it leaves in the samples xs
abbrev pub ReorderAnswer : ℕ → BlockType → ℕ → List Float → ℕ → List Float → Type 0
ReorderAnswer t kind count xs = Answered (reorder_checks t count xs) xs (reordered t kind count xs)
