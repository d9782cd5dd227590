-- What a record's single bytes say, as document 01 ("The record program") lays them out, and the answers of the reader's fields. Assumes nothing.
use Rattle.std.specs.Prelude.{Bool, cond, not, ◌||◌, List, ℕ, ◌+◌, eqb, ltb, length, Result, Ok, Err}
use Rattle.refusals.specs.declared.Refusal.{Refusal}
use Rattle.refusals.specs.declared.Refusal.TheVariants.{WrongChannels, WrongByte, RecordCutOff}
use Rattle.side_info.specs.Kinds.{block_type_of}
use Rattle.little_endian.specs.Bytes.{byte_at, half_at}
use Rattle.records.specs.declared.read.Top.{Top}
use Rattle.records.specs.declared.read.Head.{Head}
use Rattle.granule.specs.declared.Part.{Part}
use Rattle.granule.specs.declared.Granule.{Granule}
use Rattle.granule.specs.Granule.{wrong_channels}

-- "stereo flags (1 intensity, 2 mid-side)", "flags (1 scale, 2 preflag)": a flag byte has the flag 1, the flag 2, or both
abbrev pub has_one : ℕ → Bool
has_one flags = eqb flags 1 || eqb flags 3

abbrev pub has_two : ℕ → Bool
has_two flags = eqb flags 2 || eqb flags 3

-- 1: "channel count is not 1 or 2"
abbrev pub wrong_count : List ℕ → Bool
wrong_count s = wrong_channels (byte_at s 1)

-- 12, in the first four bytes: "a reserved byte is not 0, or a flag byte is above 3"
abbrev pub wrong_top : List ℕ → Bool
wrong_top s = ltb 3 (byte_at s 2) || not (eqb (byte_at s 3) 0)

-- 12, in a channel's part at a place: "a record's block type byte is above 4, a reserved byte is not 0, or a flag byte is above 3"
abbrev pub wrong_part : List ℕ → ℕ → Bool
wrong_part s place = ltb 4 (byte_at s place) || (ltb 3 (byte_at s (place + 2)) || not (eqb (byte_at s (place + 67)) 0))

-- ---- "each field's answer (number and next place, or refusal) is an enum": 13 where the record ends before the field

-- a byte of any value
abbrev pub byte_read : List ℕ → ℕ → Result (ℕ × ℕ) Refusal
byte_read s place = cond (ltb place (length s)) (Ok (byte_at s place, place + 1)) (Err RecordCutOff)

-- a byte of at most `most`: one above it is refusal k
abbrev pub limited : (most : ℕ) (k : Refusal) → Result (ℕ × ℕ) Refusal → Result (ℕ × ℕ) Refusal
limited most k (Ok read) = cond (ltb most read.0) (Err k) (Ok read)
limited most k (Err j) = Err j

abbrev pub field_at : List ℕ → ℕ → ℕ → Refusal → Result (ℕ × ℕ) Refusal
field_at s place most k = limited most k (byte_read s place)

-- a number of two bytes, of any value
abbrev pub half_read : List ℕ → ℕ → Result (ℕ × ℕ) Refusal
half_read s place = cond (ltb (place + 1) (length s)) (Ok (half_at s place, place + 2)) (Err RecordCutOff)

-- what the first four bytes say, and the answer of reading them: 1 before 12
abbrev pub top_at : List ℕ → Top
top_at s = record { table = byte_at s 0; channels = byte_at s 1; stereo = byte_at s 2 }

abbrev pub top_read : List ℕ → Result Top Refusal
top_read s = cond (wrong_count s) (Err WrongChannels) (cond (wrong_top s) (Err WrongByte) (Ok (top_at s)))

-- what a part says beside its arrays, and the answer of reading it
abbrev pub head_at : List ℕ → ℕ → Head
head_at s place = record { kind = block_type_of (byte_at s place); gain = byte_at s (place + 1); flags = byte_at s (place + 2); count1 = half_at s (place + 68) }

abbrev pub head_read : List ℕ → ℕ → Result Head Refusal
head_read s place = cond (wrong_part s place) (Err WrongByte) (Ok (head_at s place))

-- a granule of an edition, the first bytes and two parts
abbrev pub granule_of : ℕ → Top → Part → Part → Granule
granule_of n t l r = record {
  edition = n;
  table = t.table;
  channels = t.channels;
  mid_side = has_two t.stereo;
  intensity = has_one t.stereo;
  left = l;
  right = r;
}
