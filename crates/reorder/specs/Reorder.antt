-- Reorder: a short block's numbers, window by window within a band, laid out in triples, one number of each window. From document 01, "Reorder", and document 02, request 5. Assumes nothing.
use Rattle.std.specs.Prelude.{Bool, not, cond, ◌&&◌, ◌||◌, List, [], ◌∷◌, ℕ, ◌+◌, ◌*◌, ◌/◌, ◌%◌, ltb, leb, eqb, Float}
use Rattle.laws.specs.Checks.{Check, check, Answered}
use Rattle.laws.specs.Finite.{all_finite}
use Rattle.laws.specs.Lists.{at, tab}
use Rattle.side_info.specs.declared.BlockType.{BlockType}
use Rattle.side_info.specs.declared.Edition.{Edition}
use Rattle.bands.specs.Bands.{table_too_high, short_starts, width, short_band, short_begin, short_offset}
use Rattle.side_info.specs.Editions.{wrong_edition, edition_of, by_edition}
use Rattle.side_info.specs.Kinds.{by_kind}
use Rattle.side_info.specs.Side.{count_too_high}

-- "The first band always; a later band only if 3 × its start is below `count1`"
abbrev pub reached : ℕ → List ℕ → ℕ → ℕ → Bool
reached first starts count k = eqb k first || ltb (short_begin starts k) count

-- "band 12 never"; in edition 2 "reorder also does band 12, under the same `count1` test as other later bands"
abbrev pub reordered_bands : Edition → ℕ
reordered_bands e = by_edition e 12 13

-- of the bands from `first` on and below `last`, those that are reached
abbrev pub reorders : (last first : ℕ) → List ℕ → ℕ → ℕ → Bool
reorders last first starts count k = leb first k && (ltb k last && reached first starts count k)

-- "Position win × w + j of a band goes to 3j + win": so what comes to 3j + win is from win × w + j
abbrev pub source : List ℕ → ℕ → ℕ
source starts i =
    let k = short_band starts i in
    let o = short_offset starts i in
    short_begin starts k + (o % 3 * width starts k + o / 3)

-- and where position i goes to: number j of window win to place win of triple j
abbrev pub target : List ℕ → ℕ → ℕ
target starts i =
    let k = short_band starts i in
    let o = short_offset starts i in
    short_begin starts k + (3 * (o % width starts k) + o / width starts k)

-- what comes to place i
abbrev pub reordered_from : (last first : ℕ) → List ℕ → ℕ → List Float → ℕ → Float
reordered_from last first starts count xs i = cond (reorders last first starts count (short_band starts i)) (at xs (source starts i)) (at xs i)

-- "Short from band 0, Mixed from 3"; "Other block types unchanged"
abbrev pub reordered_at : Edition → ℕ → BlockType → ℕ → List Float → ℕ → Float
reordered_at e t kind count xs i =
    let last = reordered_bands e in
    by_kind kind (at xs i) (reordered_from last 0 (short_starts t) count xs i) (reordered_from last 3 (short_starts t) count xs i)

-- ---- the stage

unfoldable pub reordered : Edition → ℕ → BlockType → ℕ → List Float → List Float
reordered e t kind count xs = tab 576 (reordered_at e t kind count xs)

-- "reorder 3, 4 and 9", and 18 first; n is the edition's number
abbrev pub reorder_checks : (n t : ℕ) → ℕ → List Float → List Check
reorder_checks n t count xs =
    check 18 (wrong_edition n) ∷ check 3 (table_too_high t) ∷ check 4 (count_too_high count) ∷ check 9 (not (all_finite xs)) ∷ []

-- what `reorder` answers: its number, and what it leaves in the samples xs
abbrev pub ReorderAnswer : (n t : ℕ) → BlockType → ℕ → List Float → ℕ → List Float → Type 0
ReorderAnswer n t kind count xs = Answered (reorder_checks n t count xs) xs (reordered (edition_of n) t kind count xs)
