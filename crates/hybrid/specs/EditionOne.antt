-- Hybrid synthesis as it was before there were editions. From document 01, "Hybrid". Assumes nothing.
-- xs are the samples, os the stored overlap.
use Rattle.std.specs.Prelude.{not, cond, List, [], ◌∷◌, ℕ, ◌+◌, ◌/◌, ◌%◌, eqb, Float}
use Rattle.std.specs.Float.{binary32}
use Rattle.std.specs.Float.Ieee.{add}
use Rattle.laws.specs.Checks.{Check, check, Answered}
use Rattle.laws.specs.Finite.{all_finite}
use Rattle.laws.specs.Lists.{at, row, tab}
use Rattle.tables.specs.Cosines.{imdct_win}
use Rattle.side_info.specs.declared.BlockType.{BlockType}
use Rattle.imdct.specs.Imdct.{long_place, overwritten_place}
use Rattle.hybrid.specs.Hybrid.{window_kind, subband_of}

-- place p of a kind: 2 is the short one, the others are long
abbrev pub place_of : ℕ → List Float → ℕ → Float
place_of kind s p = cond (eqb kind 2) (overwritten_place (row imdct_win 2) s p) (long_place (row imdct_win kind) s p)

unfoldable pub places_of : BlockType → List Float → ℕ → List Float
places_of kind xs sb = tab 36 (place_of (window_kind kind sb) (subband_of xs sb))

-- ---- the stage: "Output is first half plus stored overlap; the overlap becomes the second half"

abbrev pub hybrid_at : BlockType → List Float → List Float → ℕ → Float
hybrid_at kind xs os k = add binary32 (at (places_of kind xs (k / 18)) (k % 18)) (at os k)

abbrev pub overlap_at : BlockType → List Float → ℕ → Float
overlap_at kind xs k = at (places_of kind xs (k / 18)) (k % 18 + 18)

unfoldable pub hybrid : BlockType → List Float → List Float → List Float
hybrid kind xs os = tab 576 (hybrid_at kind xs os)

unfoldable pub overlap_after : BlockType → List Float → List Float
overlap_after kind xs = tab 576 (overlap_at kind xs)

-- "hybrid 9 and 10"
abbrev pub hybrid_checks : List Float → List Float → List Check
hybrid_checks xs os = check 9 (not (all_finite xs)) ∷ check 10 (not (all_finite os)) ∷ []

-- what `hybrid_synthesis` answers: its number, and what it leaves in the samples xs and the overlap os
abbrev pub HybridAnswer : BlockType → List Float → List Float → ℕ → List Float × List Float → Type 0
HybridAnswer kind xs os = Answered (hybrid_checks xs os) (xs, os) (hybrid kind xs os, overlap_after kind xs)
