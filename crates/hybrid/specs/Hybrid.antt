-- Hybrid synthesis: the windowed transform of each subband, and the overlap. From document 01, "Hybrid", and document 02, request 5. Assumes nothing.
-- xs are the samples, os the stored overlap.
use Rattle.std.specs.Prelude.{not, cond, List, [], ◌∷◌, ℕ, ◌+◌, ◌*◌, ◌/◌, ◌%◌, ltb, Float}
use Rattle.std.specs.Float.{binary32}
use Rattle.std.specs.Float.Ieee.{add}
use Rattle.laws.specs.Checks.{Check, check, Answered}
use Rattle.laws.specs.Finite.{all_finite}
use Rattle.laws.specs.Lists.{at, tab}
use Rattle.side_info.specs.declared.BlockType.{BlockType}
use Rattle.side_info.specs.declared.BlockType.TheVariants.{Long, Short, Mixed, Start, End}
use Rattle.side_info.specs.declared.Edition.{Edition}
use Rattle.side_info.specs.Editions.{wrong_edition, edition_of}
use Rattle.imdct.specs.Imdct.{place_of}

-- "Window kinds: Long 0, Start 1, Short 2, End 3; Mixed 0 for subbands 0 and 1, else 2"
abbrev pub window_kind : BlockType → ℕ → ℕ
window_kind Long sb = 0
window_kind Start sb = 1
window_kind Short sb = 2
window_kind End sb = 3
window_kind Mixed sb = cond (ltb sb 2) 0 2

-- subband sb of the samples, and its 36 places
unfoldable pub subband_of : List Float → ℕ → List Float
subband_of xs sb = tab 18 (λ i. at xs (18 * sb + i))

unfoldable pub places_of : Edition → BlockType → List Float → ℕ → List Float
places_of e kind xs sb = tab 36 (place_of e (window_kind kind sb) (subband_of xs sb))

-- ---- the stage: "Output is first half plus stored overlap; the overlap becomes the second half"

abbrev pub hybrid_at : Edition → BlockType → List Float → List Float → ℕ → Float
hybrid_at e kind xs os k = add binary32 (at (places_of e kind xs (k / 18)) (k % 18)) (at os k)

abbrev pub overlap_at : Edition → BlockType → List Float → ℕ → Float
overlap_at e kind xs k = at (places_of e kind xs (k / 18)) (k % 18 + 18)

unfoldable pub hybrid : Edition → BlockType → List Float → List Float → List Float
hybrid e kind xs os = tab 576 (hybrid_at e kind xs os)

unfoldable pub overlap_after : Edition → BlockType → List Float → List Float
overlap_after e kind xs = tab 576 (overlap_at e kind xs)

-- "hybrid 9 and 10", and 18 first; n is the edition's number
abbrev pub hybrid_checks : ℕ → List Float → List Float → List Check
hybrid_checks n xs os = check 18 (wrong_edition n) ∷ check 9 (not (all_finite xs)) ∷ check 10 (not (all_finite os)) ∷ []

-- what `hybrid_synthesis` answers: its number, and what it leaves in the samples xs and the overlap os
abbrev pub HybridAnswer : ℕ → BlockType → List Float → List Float → ℕ → List Float × List Float → Type 0
HybridAnswer n kind xs os = Answered (hybrid_checks n xs os) (xs, os) (hybrid (edition_of n) kind xs os, overlap_after (edition_of n) kind xs)
