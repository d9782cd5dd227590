-- Antialias: butterflies at the boundaries between subbands. From document 01, "Antialias". Assumes nothing.
use Rattle.std.specs.Prelude.{not, cond, List, [], ◌∷◌, ℕ, ◌+◌, ◌-◌, ◌*◌, ◌/◌, ◌%◌, ◌<◌, ◌≤◌, ltb, Float}
use Rattle.std.specs.Float.{binary32}
use Rattle.std.specs.Float.Ieee.{add, sub, mul}
use Rattle.laws.specs.Checks.{Check, check, Answered}
use Rattle.laws.specs.Finite.{all_finite}
use Rattle.laws.specs.Lists.{at, tab}
use Rattle.tables.specs.Antialias.{cs, ca}
use Rattle.side_info.specs.declared.BlockType.{BlockType}
use Rattle.side_info.specs.Kinds.{by_kind}

-- "Short: nothing. Mixed: boundary 1 only. Else boundaries 1 to 31": the boundaries from 1 that lie below this
abbrev pub boundaries : BlockType → ℕ
boundaries kind = by_kind kind 32 1 2

-- "At boundary sb, for i in 0 to 7: a at 18sb-1-i, b at 18sb+i"
abbrev pub lower : ℕ → ℕ → ℕ
lower sb i = 18 * sb - 1 - i

abbrev pub upper : ℕ → ℕ → ℕ
upper sb i = 18 * sb + i

-- place k is one of the n before boundary sb or of the n after it
abbrev pub Near : ℕ → ℕ → ℕ → Type 0
Near sb n k = (18 * sb ≤ k + n) × (k < 18 * sb + n)

-- "a becomes a·CS - b·CA, b becomes b·CS + a·CA with old values"
abbrev pub lower_after : List Float → ℕ → ℕ → Float
lower_after xs sb i = sub binary32 (mul binary32 (at xs (lower sb i)) (at cs i)) (mul binary32 (at xs (upper sb i)) (at ca i))

abbrev pub upper_after : List Float → ℕ → ℕ → Float
upper_after xs sb i = add binary32 (mul binary32 (at xs (upper sb i)) (at cs i)) (mul binary32 (at xs (lower sb i)) (at ca i))

-- Place k with its boundaries from 1 to lim - 1: the first 8 places of a subband lie above the boundary below it, the last 8 below the boundary above it, and
-- the two between at none
abbrev pub antialiased_at : ℕ → List Float → ℕ → Float
antialiased_at lim xs k =
    cond (ltb (k % 18) 8) (cond (ltb 0 (k / 18)) (cond (ltb (k / 18) lim) (upper_after xs (k / 18) (k % 18)) (at xs k)) (at xs k))
    (cond (ltb (k % 18) 10) (at xs k) (cond (ltb (k / 18 + 1) lim) (lower_after xs (k / 18 + 1) (17 - k % 18)) (at xs k)))

-- ---- the stage

unfoldable pub antialiased : BlockType → List Float → List Float
antialiased kind xs = tab 576 (antialiased_at (boundaries kind) xs)

-- "antialias and inversion 9"
abbrev pub samples_check : List Float → List Check
samples_check xs = check 9 (not (all_finite xs)) ∷ []

-- what `antialias` answers: its number, and what it leaves in the samples xs
abbrev pub AntialiasAnswer : BlockType → List Float → ℕ → List Float → Type 0
AntialiasAnswer kind xs = Answered (samples_check xs) xs (antialiased kind xs)
