-- Subband synthesis, slot by slot. From document 01, "Synthesis". Assumes nothing.
-- xs are the 576 samples, v the 1,024 numbers of a channel's blocks: sixteen of 64, the newest in front.
use Rattle.std.specs.Prelude.{not, cond, List, [], ◌∷◌, ℕ, zero, suc, ◌+◌, ◌-◌, ◌*◌, ◌/◌, ◌%◌, ltb, length, Float, Result, Ok, Err}
use Rattle.std.specs.Float.{binary32}
use Rattle.std.specs.Float.Ieee.{mul, to_bits}
use Rattle.laws.specs.Checks.{Check, check, Answered}
use Rattle.laws.specs.Finite.{all_finite}
use Rattle.laws.specs.Largest.{largest}
use Rattle.laws.specs.Lists.{at, tab, filled}
use Rattle.laws.specs.Patterns.{size}
use Rattle.laws.specs.Sum.{sum_to}
use Rattle.refusals.specs.declared.Refusal.{Refusal}
use Rattle.synthesis_tables.specs.Window.{window}
use Rattle.matrixing.specs.Matrixing.{slot_samples, matrixed}

-- "the 1,024 numbers move up by 64"
abbrev pub pushed_at : List Float → List Float → ℕ → Float
pushed_at front v i = cond (ltb i 64) (at front i) (at v (i - 64))

unfoldable pub pushed : List Float → List Float → List Float
pushed s v = tab 1024 (pushed_at (matrixed s) v)

-- "u takes, for i from 0 to 7, the first 32 of block 2i and the last 32 of block 2i+1": where place p of u comes from. Places 64i to 64i + 31 are from 128i on, places 64i + 32 to
-- 64i + 63 from 128i + 96 on
abbrev pub gathered : ℕ → ℕ
gathered p = 128 * (p / 64) + cond (ltb (p % 64) 32) (p % 64) (p % 64 + 64)

-- "u times window"
abbrev pub windowed_at : List Float → ℕ → Float
windowed_at v p = mul binary32 (at v (gathered p)) (at window p)

-- "output k sums u at 32j + k, j ascending"
unfoldable pub slot_output : List Float → ℕ → Float
slot_output v k = sum_to 16 (λ j. windowed_at v (32 * j + k))

-- "For slot 0 to 17": the blocks after the first n slots
unfoldable pub blocks_after : List Float → List Float → ℕ → List Float
blocks_after xs v zero = v
blocks_after xs v (suc n) = pushed (slot_samples xs n) (blocks_after xs v n)

-- ---- the stage: output p is output p % 32 of slot p / 32

abbrev pub output_at : List Float → List Float → ℕ → Float
output_at xs v p = slot_output (blocks_after xs v (p / 32 + 1)) (p % 32)

-- "Room beyond 576 is untouched"
abbrev pub synthesized : List Float → List Float → List Float → List Float
synthesized xs v room = filled 576 (output_at xs v) room

-- ---- the peak: document 02, request 4

-- one of the "output bit patterns with the sign bit cleared, read as a whole number"
abbrev pub level : Float → ℕ
level x = size (to_bits binary32 x)

-- "the largest of its 576", for outputs by a rule
unfoldable pub peak_of : (ℕ → Float) → ℕ
peak_of f = largest 576 (λ p. level (f p))

-- ---- the entry point

-- "synthesis 9 to 11"
abbrev pub synthesis_checks : List Float → List Float → List Float → List Check
synthesis_checks xs v room = check 9 (not (all_finite xs)) ∷ check 10 (not (all_finite v)) ∷ check 11 (ltb (length room) 576) ∷ []

-- the peak that is answered, 0 at a refusal
abbrev pub peak_answered : Result ℕ Refusal → ℕ
peak_answered (Ok peak) = peak
peak_answered (Err r) = 0

-- what `subband_synthesis` answers: its number, and its peak with what it leaves in the blocks v and the room. "A refusal .. answers peak 0"
abbrev pub SynthesisAnswer : List Float → List Float → List Float → ℕ → ℕ × List Float × List Float → Type 0
SynthesisAnswer xs v room = Answered (synthesis_checks xs v room) (0, v, room) (peak_of (output_at xs v), blocks_after xs v 18, synthesized xs v room)
