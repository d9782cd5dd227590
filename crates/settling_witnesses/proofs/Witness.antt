-- The settling theorem's assumption can be met by two histories that differ in both channels, with one channel and with two, at both doors, each granule at either edition; and records
-- that are refused for themselves stand among the later calls. Assumes nothing.
use mathlib.Core.Path.{◌≡◌, refl, sym, ap, ◌∙◌}
use mathlib.Core.Bool.{Bool, true, false, true≢false, cond, ◌&&◌}
use mathlib.Core.List.{List, [], ◌∷◌, ◌++◌}
use Prim.Native.Nat.{ℕ, zero, suc, ◌+◌, ◌-◌, ◌*◌, ◌/◌, ◌%◌, ◌<◌, ◌≤◌}
use native.Mathlib.Omega.{arith}
use borrow.Author.Tests.{le-ltb}
use lib.Dec.{eqb, lit<}
use lib.IntN.{ℤ, pos}
use lib.ListN.{length, set, get_or, replicate, get_or-replicate}
use lib.Seq.{get_or-set_same}
use lib.Ieee.{Float, nan, inf, fin, binary32, of_bits, of_int}
use Rattle.laws.specs.Checks.{Check, first, all_to}
use Rattle.laws.specs.Finite.{finite, all_finite}
use Rattle.laws.specs.Lists.{at, tab}
use Rattle.laws.specs.Sum.{zero_f}
use Rattle.laws.proofs.Lists.{length-tab, tab-same}
use Rattle.laws.proofs.Zeros.{Zero, signed, Zeros, zeros_tab, zeros_replicate, zeros_finite, replicate-finite}
use Rattle.side_info.specs.declared.BlockType.TheVariants.{Long}
use Rattle.side_info.specs.declared.Edition.{Edition}
use Rattle.side_info.specs.declared.Edition.TheVariants.{First, Second}
use Rattle.side_info.specs.Editions.{wrong_edition}
use Rattle.side_info.specs.Kinds.{block_type_of}
use Rattle.requantize.specs.Requantize.{requantized_at, requantized}
use Rattle.reorder.specs.Reorder.{reordered_at, reordered}
use Rattle.intensity.specs.Intensity.{position_refused}
use Rattle.stereo.specs.Stereo.{stereo_left, stereo_right, mid_side_left, mid_side_right}
use Rattle.antialias.specs.Antialias.{antialiased}
use Rattle.hybrid.specs.Hybrid.{hybrid, overlap_after}
use Rattle.matrixing.specs.Matrixing.{slot_samples}
use Rattle.synthesis.proofs.Blocks.{blocks-long, blocks-new}
use Rattle.history.specs.declared.Channel.{Channel}
use Rattle.history.specs.declared.History.{History}
use Rattle.history.specs.History.{fresh_channel, fresh_history}
use Rattle.granule.specs.declared.Part.{Part}
use Rattle.granule.specs.declared.Granule.{Granule}
use Rattle.granule.specs.Granule.{silent_part, two, input_checks, state_checks}
use Rattle.backend.specs.Whole.{edition_in, part_samples, left_samples, right_samples, subbands, channel_after, history_after}
use Rattle.backend.specs.Calls.{lent, Answer, refusing, answer}
use Rattle.little_endian.specs.Bytes.{byte_at, half_at, bytes_from, signeds_from}
use Rattle.records.specs.Fields.{has_one, has_two}
use Rattle.records.specs.Record.{record_checks, granule_at, part_at, side_info_at, second_part}
use Rattle.render_record.specs.RecordAnswer.{record_answer}
use Rattle.settling.specs.Settling.{Named, granules, records, Call, lending, history_next, replies, Taken, UseNoOther, none, call, Accepted}
use Rattle.settling.specs.Overflow.{channel_of}
use Rattle.settling.proofs.Doors.{granules_lawful, answer-number, given_passes}
use Rattle.settling.proofs.Settled.{leaves}
use Rattle.settling_witnesses.proofs.Silence.{alias_zeros, overlap_zeros, inverted-zero, hybrid-zero, matrixed_zeros}

-- ---- silence: a long block of 576 zeros in one channel, or in each of two, at an edition

unfoldable pub number_of : Edition → ℕ
number_of First = 1
number_of Second = 2

not-refused : (e : Edition) → wrong_edition (number_of e) ≡ false
unfolding number_of
not-refused First = refl
not-refused Second = refl

unfoldable pub silent : Edition → Bool → Granule
silent e both = record { edition = number_of e; table = 0; channels = cond both 2 1; mid_side = false; intensity = false; left = silent_part; right = silent_part }

pub room : Bool → List Float
room both = replicate (cond both 1152 576) zero_f

abbrev pub silence : Edition → Bool → Call granules
silence e both = lending granules (silent e both) (room both)

abbrev raw : ℕ → Float
raw = requantized_at 0 silent_part.side silent_part.spectrum

raw-zero : (k : ℕ) → k < 576 → Zero (raw k)
unfolding silent_part of_int
raw-zero k l = rw (le-ltb k 0 (omega arith), get_or-replicate 576 k (pos 0) (pos 0) l) (signed false)

part_zeros : (e : Edition) → Zeros 576 (part_samples e 0 silent_part)
unfolding silent_part part_samples reordered requantized
part_zeros e = zeros_tab 576 (reordered_at e 0 Long 0 (tab 576 raw)) (zeros_tab 576 raw raw-zero)

-- stereo, with neither flag set, leaves them
module _ (e : Edition) where
  abbrev part : List Float
  part = part_samples (edition_in (silent e true)) 0 silent_part

  pub left_zeros : (both : Bool) → Zeros 576 (left_samples (silent e both))
  unfolding left_samples silent stereo_left
  left_zeros false = part_zeros _
  left_zeros true = zeros_tab 576 (mid_side_left 0 part part) (λ k l. rw (le-ltb k 0 (omega arith)) (part_zeros _ k l))

  pub right_zeros : Zeros 576 (right_samples (silent e true))
  unfolding right_samples silent stereo_right
  right_zeros = zeros_tab 576 (mid_side_right 0 part part) (λ k l. rw (le-ltb k 0 (omega arith)) (part_zeros _ k l))

-- ---- it is accepted from every history that is finite in the channels that it uses

pub record Finite (c : Channel) : Type 0 where
  pub overlap : all_finite c.overlap ≡ true
  pub blocks : all_finite c.blocks ≡ true

-- nothing of the granule itself is refused
pub passes : (e : Edition) (both : Bool) → first (input_checks (silent e both)) ≡ 0
unfolding silent silent_part all_to position_refused
passes e false = rw (not-refused e)
passes e true = rw (not-refused e)

module _ (e : Edition) (h : History) where
  state_passes : (both : Bool) → Finite h.left → (both ≡ true → Finite h.right) → first (state_checks (silent e both) h (length (room both))) ≡ 0
  unfolding silent room
  state_passes false l r = rw (l.overlap, l.blocks)
  state_passes true l r = rw (l.overlap, l.blocks, (r refl).overlap, (r refl).blocks)

  pub accepted : (both : Bool) → Finite h.left → (both ≡ true → Finite h.right) → Taken granules (silence e both) h
  accepted both l r =
      answer-number granules granules_lawful (silent e both) (room both) h
      ∙ given_passes granules granules_lawful (silent e both) (room both) h (passes e both)
      ∙ state_passes both l r

-- ---- what it leaves of a channel whose overlap is zeros: xs are the channel's samples, zeros too

abbrev pub slots : Edition → List Float → Channel → List Float
slots e xs = subbands e Long xs

module _ (e : Edition) (xs : List Float) (z : Zeros 576 xs) (c : Channel) where
  -- what synthesis takes of it, where the overlap has a zero
  pub quiet_at : (k : ℕ) → k < 576 → Zero (at c.overlap k) → Zero (at (slots e xs c) k)
  unfolding subbands
  quiet_at k l o =
      let samples = antialiased Long xs in
      inverted-zero (hybrid e Long samples c.overlap) k l (hybrid-zero e samples c.overlap (alias_zeros xs z) k l o)

  module _ (o : Zeros 576 c.overlap) where
    pub slot_zeros : (n : ℕ) → n < 18 → Zeros 32 (slot_samples (slots e xs c) n)
    unfolding slot_samples
    slot_zeros n h = zeros_tab 32 (λ j. at (slots e xs c) (j * 18 + n)) (λ j l. quiet_at (j * 18 + n) (omega arith) (o (j * 18 + n) (omega arith)))

    pub blocks_zeros : Zeros 1024 (channel_after e Long xs c).blocks
    unfolding channel_after
    blocks_zeros k l =
        let n = 17 - k / 64 in
        rw (blocks-new (slots e xs c) c.blocks 18 k (omega arith) l) (matrixed_zeros (slot_samples (slots e xs c) n) (slot_zeros n (omega arith)) (k % 64) (omega arith))

    finite_after : Finite (channel_after e Long xs c)
    unfolding channel_after overlap_after
    finite_after = record {
      overlap = zeros_finite 576 (overlap_after e Long (antialiased Long xs)) (length-tab 576 _) (overlap_zeros e (antialiased Long xs) (alias_zeros xs z));
      blocks = zeros_finite 1024 (channel_after e Long xs c).blocks (blocks-long (slots e xs c) c.blocks 18 (omega arith)) blocks_zeros;
    }

-- ---- the witness: a fresh history, and one with another number in the blocks of both channels

unfoldable pub one : Float
one = of_bits binary32 0x3f80_0000

other_blocks : List Float
other_blocks = set (replicate 1024 zero_f) 0 one

other_channel : Channel
other_channel = record { overlap = replicate 576 zero_f; blocks = other_blocks }

pub other : History
other = record { left = other_channel; right = other_channel }

pub fresh_is : Finite fresh_channel
fresh_is = record { overlap = replicate-finite 576; blocks = replicate-finite 1024 }

other_is : Finite other_channel
unfolding other_channel other_blocks one all_to finite of_bits
other_is = record { overlap = refl; blocks = refl }

-- the digits of a number: 0 exactly for a zero
unfoldable pub digits : Float → ℕ
digits nan = 0
digits (inf s) = 0
digits (fin s m e) = m

pub zero-digits : {x : Float} → Zero x → digits x ≡ 0
unfolding digits
zero-digits (signed s) = refl

-- a history of which both channels are alike
pub both_alike : (c : Channel) (right : Bool) → channel_of right (record { left = c; right = c }) ≡ c
both_alike c true = refl
both_alike c false = refl

pub different : (right : Bool) → channel_of right other ≡ channel_of right fresh_history → ⊥
unfolding other other_channel other_blocks one of_bits digits
different right e = clash (sym (both_alike other_channel right) ∙ e ∙ both_alike fresh_channel right)
  where
    clash : other_channel ≡ fresh_channel → ⊥
    clash e =
        let set-one = get_or-set_same (replicate 1024 zero_f) 0 one nan (lit< tt) in
        let q : ◌≡◌ {A = ℕ} 1 0 = ap digits (sym set-one ∙ ap (λ (c : Channel). at c.blocks 0) e) in
        omega arith

-- silence twice, at any two editions, from a history whose channels are finite and whose overlaps are zeros
module _ (e f : Edition) (both : Bool) (h : History) (l : Finite h.left) (r : Finite h.right) (o : Zeros 576 h.left.overlap) (p : Zeros 576 h.right.overlap) where
  first_taken : Taken granules (silence e both) h
  first_taken = accepted e h both l (λ _. r)

  second_taken : Taken granules (silence f both) (history_next granules (silence e both) h)
  unfolding history_after silent silent_part
  second_taken = rw (leaves granules granules_lawful (silence e both) h first_taken) (accepted f (history_after (silent e both) h) both left (right both))
    where
      left : Finite (history_after (silent e both) h).left
      left = finite_after (edition_in (silent e both)) (left_samples (silent e both)) (left_zeros e both) h.left o

      right : (both : Bool) → both ≡ true → Finite (history_after (silent e both) h).right
      right true q = finite_after (edition_in (silent e true)) (right_samples (silent e true)) (right_zeros e) h.right p
      right false q = absurd (true≢false (sym q))

pub can_be_met : (e f : Edition) (both : Bool) → Accepted granules (silent e both) (silent f both) fresh_history other (room both) (room both) (room both) (room both)
unfolding other other_channel silent
can_be_met e f both =
    let zeros : Zeros 576 (replicate 576 zero_f) = zeros_replicate 576 in
    record {
      same_channels = refl;
      first_of_h = first_taken e f both fresh_history fresh_is fresh_is zeros zeros;
      second_of_h = second_taken e f both fresh_history fresh_is fresh_is zeros zeros;
      first_of_k = first_taken e f both other other_is other_is zeros zeros;
      second_of_k = second_taken e f both other other_is other_is zeros zeros;
    }

-- so it is where the second granule names another edition than the first
pub mixed_can_be_met : (both : Bool) → Accepted granules (silent First both) (silent Second both) fresh_history other (room both) (room both) (room both) (room both)
mixed_can_be_met = can_be_met First Second

-- ---- the same as records: zeros but for the channel count

pub silent_bytes : Bool → List ℕ
silent_bytes both = 0 ∷ cond both 2 1 ∷ replicate 2446 0

-- a record's bytes, at an edition
abbrev pub named : Edition → List ℕ → Named
named e s = record { edition = number_of e; bytes = s }

abbrev silence_read : Edition → Bool → Call records
silence_read e both = lending records (named e (silent_bytes both)) (room both)

-- a part of its bytes
part_of : (kind gain flags : ℕ) (subblock long short : List ℕ) (count : ℕ) (numbers : List ℤ) → Part
part_of kind gain flags subblock long short count numbers = record {
  side = record {
    block_type = block_type_of kind;
    global_gain = gain;
    scalefac_scale = has_one flags;
    preflag = has_two flags;
    subblock_gain = subblock;
    scalefac_l = long;
    scalefac_s = short;
    count1 = count;
  };
  spectrum = numbers;
}

part-of : (s : List ℕ) (place : ℕ)
    → part_at s place ≡ part_of (byte_at s place) (byte_at s (place + 1)) (byte_at s (place + 2)) (bytes_from s (place + 3) 3) (bytes_from s (place + 6) 22) (bytes_from s (place + 28) 39)
    (half_at s (place + 68)) (signeds_from s (place + 70) 576)
unfolding part_at side_info_at part_of
part-of s place = refl

nothing_is_silent : part_of 0 0 0 (tab 3 (λ i. 0)) (tab 22 (λ i. 0)) (tab 39 (λ i. 0)) 0 (tab 576 (λ i. pos 0)) ≡ silent_part
unfolding part_of silent_part tab
nothing_is_silent = refl

nothing_in : (n k : ℕ) → ◌≡◌ {A = ℕ} (get_or (replicate n 0) k 0) 0
nothing_in zero k = refl
nothing_in (suc n) zero = refl
nothing_in (suc n) (suc k) = nothing_in n k

module _ (both : Bool) where
  -- each byte after the channel count is 0
  byte_is : (k : ℕ) → 2 ≤ k → byte_at (silent_bytes both) k ≡ 0
  unfolding silent_bytes
  byte_is zero h = absurd (omega arith)
  byte_is (suc zero) h = absurd (omega arith)
  byte_is (suc (suc k)) h = nothing_in 2446 k

  half_is : (k : ℕ) → 2 ≤ k → half_at (silent_bytes both) k ≡ 0
  half_is k h = rw (byte_is k h, byte_is (k + 1) (omega arith))

  module _ (place : ℕ) (h : 2 ≤ place) where
    bytes_are : (n : ℕ) → bytes_from (silent_bytes both) place n ≡ tab n (λ i. 0)
    unfolding bytes_from
    bytes_are n = tab-same n _ _ (λ i l. byte_is (place + i) (omega arith))

    signeds_are : (n : ℕ) → signeds_from (silent_bytes both) place n ≡ tab n (λ i. pos 0)
    unfolding signeds_from
    signeds_are n = tab-same n _ _ (λ i l. rw (half_is (place + 2 * i) (omega arith)))

  part-is : (place : ℕ) → 2 ≤ place → part_at (silent_bytes both) place ≡ silent_part
  part-is place h =
      part-of (silent_bytes both) place
      ∙ rw (
        byte_is place h,
        byte_is (place + 1) (omega arith),
        byte_is (place + 2) (omega arith),
        bytes_are (place + 3) (omega arith) 3,
        bytes_are (place + 6) (omega arith) 22,
        bytes_are (place + 28) (omega arith) 39,
        half_is (place + 68) (omega arith),
        signeds_are (place + 70) (omega arith) 576,
      ) nothing_is_silent

says : (e : Edition) (both : Bool) → granule_at (number_of e) (silent_bytes both) ≡ silent e both
unfolding granule_at second_part silent_bytes silent
says e true = rw (part-is true 4 (omega arith), part-is true 1226 (omega arith))
says e false = rw (part-is false 4 (omega arith))

read : (e : Edition) (both : Bool) → first (record_checks (number_of e) (silent_bytes both)) ≡ 0
unfolding silent_bytes
read e true = rw (not-refused e)
read e false = rw (not-refused e)

module _ (e : Edition) (both : Bool) (h : History) where
  -- so a call with it is answered as one with the granule
  as_granule : record_answer (number_of e) (silent_bytes both) (room both) h ≡ answer (lent (silent e both) (room both)) h
  as_granule = rw (read e both, says e both)

  record-taken : Taken granules (silence e both) h → Taken records (silence_read e both) h
  record-taken t = ap (λ (a : Answer). a.reply.number) as_granule ∙ t

  record-next : history_next records (silence_read e both) h ≡ history_next granules (silence e both) h
  record-next = ap (λ (a : Answer). a.history) as_granule

pub records_can_be_met : (e f : Edition) (both : Bool)
    → Accepted records (named e (silent_bytes both)) (named f (silent_bytes both)) fresh_history other (room both) (room both) (room both) (room both)
unfolding granule_at
records_can_be_met e f both =
    let met = can_be_met e f both in
    record {
      same_channels = refl;
      first_of_h = record-taken e both fresh_history met.first_of_h;
      second_of_h = rw (record-next e both fresh_history) (record-taken f both (history_next granules (silence e both) fresh_history) met.second_of_h);
      first_of_k = record-taken e both other met.first_of_k;
      second_of_k = rw (record-next e both other) (record-taken f both (history_next granules (silence e both) other) met.second_of_k);
    }

pub mixed_records_can_be_met : (both : Bool)
    → Accepted records (named First (silent_bytes both)) (named Second (silent_bytes both)) fresh_history other (room both) (room both) (room both) (room both)
mixed_records_can_be_met = records_can_be_met First Second

-- ---- records that are refused for themselves use no channel: no bytes at all (13), and a flag byte of 4 in a record of two channels (12)

flagged : List ℕ
flagged = 0 ∷ 2 ∷ 4 ∷ replicate 2445 0

-- whatever is tested after its own checks
flagged_refused : (f : Edition) (cs : List Check) → first (record_checks (number_of f) flagged ++ cs) ≡ 12
unfolding flagged
flagged_refused f cs = rw (not-refused f)

pub damaged : Edition → Edition → List (Call records)
damaged e f = lending records (named e []) (room true) ∷ lending records (named f flagged) (room true) ∷ []

pub damaged_among : (e f : Edition) (both : Bool) → UseNoOther records both (damaged e f)
unfolding damaged flagged
damaged_among e f both =
    let unused = ap (λ (k : ℕ). eqb k 0 && two (granule_at (number_of f) flagged)) (flagged_refused f (input_checks (granule_at (number_of f) flagged))) in
    call _ _ (λ u. absurd (true≢false (sym u))) (call _ _ (λ u. absurd (true≢false (sym u ∙ unused))) none)

pub damaged_answers : (e f : Edition) (h : History) → replies records (damaged e f) h ≡ (refusing 13 (room true) h).reply ∷ (refusing 12 (room true) h).reply ∷ []
unfolding damaged flagged
damaged_answers e f h =
    let second : record_answer (number_of f) flagged (room true) h ≡ refusing 12 (room true) h = rw (flagged_refused f []) in
    ap (λ (a : Answer). (refusing 13 (room true) h).reply ∷ a.reply ∷ []) second
