-- A record by places, as document 01 ("The record program") lays it out: byte k of the record is .. Assumes nothing.
use Rattle.std.specs.Prelude.{Bool, cond, ◌&&◌, ◌||◌, List, [], ◌∷◌, ℕ, ◌+◌, eqb, ltb, length, Result, Ok, Err}
use Rattle.laws.specs.Checks.{Check, check}
use Rattle.refusals.specs.declared.Refusal.{Refusal}
use Rattle.refusals.specs.declared.Refusal.TheVariants.{WrongByte}
use Rattle.little_endian.specs.Bytes.{byte_at, half_at, bytes_from, signeds_from}
use Rattle.side_info.specs.declared.SideInfo.{SideInfo}
use Rattle.side_info.specs.Editions.{wrong_edition}
use Rattle.side_info.specs.Kinds.{block_type_of}
use Rattle.granule.specs.declared.Part.{Part}
use Rattle.granule.specs.declared.Granule.{Granule}
use Rattle.granule.specs.Granule.{silent_part}
use Rattle.records.specs.Fields.{has_one, has_two, wrong_count, wrong_top, wrong_part, top_at, granule_of}

-- ---- what a record says

-- a channel's part, from its place on: "block type, gain, flags (1 scale, 2 preflag), 3 subblock gains, 22 long and 39 short factors (band, then window), 0, `count1` u16, 576 i16"
unfoldable pub side_info_at : List ℕ → ℕ → SideInfo
side_info_at s place = record {
  block_type = block_type_of (byte_at s place);
  global_gain = byte_at s (place + 1);
  scalefac_scale = has_one (byte_at s (place + 2));
  preflag = has_two (byte_at s (place + 2));
  subblock_gain = bytes_from s (place + 3) 3;
  scalefac_l = bytes_from s (place + 6) 22;
  scalefac_s = bytes_from s (place + 28) 39;
  count1 = half_at s (place + 68);
}

unfoldable pub part_at : List ℕ → ℕ → Part
part_at s place = record { side = side_info_at s place; spectrum = signeds_from s (place + 70) 576 }

-- "With one channel the second part isn't read": a silent part stands for it
abbrev pub two_channels : List ℕ → Bool
two_channels s = eqb (byte_at s 1) 2

unfoldable pub second_part : List ℕ → Part
second_part s = cond (two_channels s) (part_at s 1226) silent_part

-- ---- "A record is read as a whole value or a refusal with its number": so is each part

abbrev pub part_read : List ℕ → ℕ → Result Part Refusal
part_read s place = cond (wrong_part s place) (Err WrongByte) (Ok (part_at s place))

abbrev pub second_read : List ℕ → Result Part Refusal
second_read s = cond (two_channels s && wrong_part s 1226) (Err WrongByte) (Ok (second_part s))

-- "table, channel count, stereo flags (1 intensity, 2 mid-side), 0; then twice 1,222 bytes"; document 02, request 5: "The caller names the edition with each granule", n
unfoldable pub granule_at : ℕ → List ℕ → Granule
granule_at n s = granule_of n (top_at s) (part_at s 4) (second_part s)

-- ---- its refusals: 13 ("1 to 2,447 bytes"; where a record is handed over, no bytes too), then 18 of the edition, 1, and 12 over all that is read

abbrev pub wrong_byte : List ℕ → Bool
wrong_byte s = wrong_top s || (wrong_part s 4 || (two_channels s && wrong_part s 1226))

abbrev pub record_checks : ℕ → List ℕ → List Check
record_checks n s = check 13 (ltb (length s) 2448) ∷ check 18 (wrong_edition n) ∷ check 1 (wrong_count s) ∷ check 12 (wrong_byte s) ∷ []

-- ---- the refusals that end a run: n whole records have been read, and what comes next has so many bytes

-- 14: "65,535 records have been read and another byte follows"; 13: "the last record has 1 to 2,447 bytes"
abbrev pub end_checks : (n bytes : ℕ) → List Check
end_checks n bytes = check 14 (ltb 0 bytes && eqb n 65535) ∷ check 13 (ltb 0 bytes && ltb bytes 2448) ∷ []
