-- One granule is not enough, and neither output 479 nor the peak of the second is settled by two: two histories that differ in one number of the overlap differ in their blocks after one
-- granule, and in that output and the peak of the second, in each channel, each granule at either edition. Assumes nothing.
use mathlib.Core.Path.{◌≡◌, refl, sym, ap, subst, ◌∙◌}
use mathlib.Core.Bool.{Bool, true, false, true≢false, cond}
use mathlib.Core.List.{List}
use Prim.Native.Nat.{ℕ, zero, suc, ◌+◌, ◌-◌, ◌*◌, ◌/◌, ◌%◌, ◌<◌, ◌≤◌}
use native.Mathlib.Decide.{dec_lt}
use native.Mathlib.Omega.{arith}
use lib.Dec.{T, eqb, eqb→eq, lit<, lit≤}
use lib.IntN.{pos}
use lib.ListN.{set, replicate}
use lib.Seq.{get_or-set_same, get_or-set_other}
use lib.Ieee.{Float, nan, fin, binary32, fits, of_bits, to_bits, add, mul}
use lib.Ieee.Bits.{of_bits-to_bits, of_bits-fits, is_true}
use lib.Ieee.Fits.{add-fits, mul-fits}
use Rattle.laws.specs.Checks.{all_to}
use Rattle.laws.specs.Finite.{finite, all_finite}
use Rattle.laws.specs.Lists.{at, row}
use Rattle.laws.specs.Sum.{zero_f, sum_to}
use Rattle.laws.proofs.Checks.{all_pass, all_if}
use Rattle.laws.proofs.Lists.{get_d_tab, length-tab}
use Rattle.laws.proofs.Zeros.{Zero, signed, zero_is, zero-finite, zero-sum, zero-mul-left, Zeros, zeros_replicate, zeros_finite, replicate-finite}
use Rattle.synthesis_tables.specs.Matrixing.{matrixing, matrixing_bits}
use Rattle.synthesis_tables.specs.Window.{window, window_bits}
use Rattle.side_info.specs.declared.BlockType.TheVariants.{Long}
use Rattle.side_info.specs.declared.Edition.{Edition}
use Rattle.antialias.specs.Antialias.{antialiased}
use Rattle.hybrid.specs.Hybrid.{hybrid, hybrid_at, overlap_after}
use Rattle.inversion.specs.Inversion.{inverted_at, inverted}
use Rattle.matrixing.specs.Matrixing.{slot_samples, matrixed_at, matrixed}
use Rattle.history.specs.declared.Channel.{Channel}
use Rattle.history.specs.declared.History.{History}
use Rattle.history.specs.History.{fresh_channel, fresh_history}
use Rattle.granule.specs.Granule.{silent_part}
use Rattle.backend.specs.declared.Peaks.{Peaks}
use Rattle.backend.specs.Whole.{edition_in, left_samples, right_samples, subbands, channel_after, channel_output, history_after, granule_room, granule_peaks}
use Rattle.synthesis.specs.Synthesis.{windowed_at, slot_output, blocks_after, level, peak_of}
use Rattle.synthesis.proofs.Gathered.{gathered-row}
use Rattle.synthesis.proofs.Blocks.{blocks-long, blocks-new, blocks-old}
use Rattle.synthesis.proofs.Levels.{peak_is}
use Rattle.settling.specs.Settling.{granules, reply, history_next, output_of, Taken}
use Rattle.settling.specs.Overflow.{channel_of}
use Rattle.settling.proofs.Doors.{granules_lawful}
use Rattle.settling.proofs.Settled.{leaves, fills, sounds, left-at, right-at}
use Rattle.settling_witnesses.proofs.Silence.{alias_zeros, overlap_zeros, places_zeros, matrixed_zeros}
use Rattle.matrixing.proofs.Slot.{entry-finite}
use Rattle.settling_witnesses.proofs.Witness.{silent, room, silence, left_zeros, right_zeros, Finite, accepted, can_be_met, slots, quiet_at, slot_zeros, blocks_zeros, both_alike, one, digits, zero-digits}

-- ---- a history with a 1.0 in each overlap at place 17, which slot 17 of subband 0 takes

late_overlap : List Float
late_overlap = set (replicate 576 zero_f) 17 one

late_channel : Channel
late_channel = record { overlap = late_overlap; blocks = replicate 1024 zero_f }

pub late : History
late = record { left = late_channel; right = late_channel }

late_finite : all_finite late_overlap ≡ true
unfolding late_overlap one all_to finite of_bits
late_finite = refl

pub late_accepted : (e : Edition) (both : Bool) → Taken granules (silence e both) late
unfolding late late_channel
late_accepted e both =
    let is : Finite late_channel = record { overlap = late_finite; blocks = replicate-finite 1024 } in
    accepted e late both is (λ _. is)

late_zero : (k : ℕ) → (k ≡ 17 → ⊥) → k < 576 → Zero (at late_overlap k)
unfolding late_overlap
late_zero k apart l = rw (get_or-set_other (replicate 576 zero_f) 17 k one nan apart) (zeros_replicate 576 k l)

late_one : at late_overlap 17 ≡ one
unfolding late_overlap
late_one = get_or-set_same (replicate 576 zero_f) 17 one nan (lit< tt)

-- ---- a number that a zero of either sign, before it or after it, leaves as it is: by a test of its bits

nought : Bool → Float
nought s = fin s 0 (pos 0)

test : Bool → Bool → Float → Bool
test before s x = eqb (to_bits binary32 (cond before (add binary32 (nought s) x) (add binary32 x (nought s)))) (to_bits binary32 x)

abbrev Stable : Float → Type 0
Stable x = (before s : Bool) → T (test before s x)

module _ (x : Float) (f : T (fits binary32 x)) (t : Stable x) where
  same : (y : Float) → T (fits binary32 y) → to_bits binary32 y ≡ to_bits binary32 x → y ≡ x
  same y g e = sym (of_bits-to_bits binary32 y g) ∙ ap (of_bits binary32) e ∙ of_bits-to_bits binary32 x f

  after_nothing : {z : Float} → Zero z → add binary32 z x ≡ x
  unfolding test nought
  after_nothing (signed s) = same (add binary32 (nought s) x) (add-fits binary32 (nought s) x) (eqb→eq _ _ (t true s))

  before_nothing : {z : Float} → Zero z → add binary32 x z ≡ x
  unfolding test nought
  before_nothing (signed s) = same (add binary32 x (nought s)) (add-fits binary32 x (nought s)) (eqb→eq _ _ (t false s))

  -- a sum whose first term it is, or whose last, and whose others are zeros
  sum_first : (n : ℕ) (g : ℕ → Float) → g 0 ≡ x → ((k : ℕ) → 0 < k → k < suc n → Zero (g k)) → sum_to (suc n) g ≡ x
  unfolding sum_to
  sum_first zero g e z = rw e (after_nothing zero_is)
  sum_first (suc n) g e z = rw (sum_first n g e (λ k h l. z k h (omega arith))) (before_nothing (z (suc n) (omega arith) (omega arith)))

  sum-last : (n : ℕ) (g : ℕ → Float) → g n ≡ x → ((k : ℕ) → k < n → Zero (g k)) → sum_to (suc n) g ≡ x
  unfolding sum_to
  sum-last n g e z = rw e (after_nothing (zero-sum n g z))

-- 1.0 is one
one-fits : T (fits binary32 one)
unfolding one
one-fits = of_bits-fits binary32 0x3f80_0000

one_stable : Stable one
unfolding test nought one of_bits to_bits add
one_stable true true = tt
one_stable true false = tt
one_stable false true = tt
one_stable false false = tt

-- ---- what the first granule leaves of such a channel: xs are its samples, zeros

-- the front block is 1.0 times the first row of matrixing
front : ℕ → Float
front i = mul binary32 one (at (row matrixing 0) i)

front-tests : (before s : Bool) → T (all_to 64 (λ i. test before s (front i)))
unfolding test nought front one matrixing matrixing_bits all_to of_bits to_bits add mul
front-tests true true = tt
front-tests true false = tt
front-tests false true = tt
front-tests false false = tt

front-finite : T (all_to 64 (λ i. finite (front i)))
unfolding front one matrixing matrixing_bits all_to finite of_bits mul
front-finite = tt

module _ (i : ℕ) (l : i < 64) where
  front_fits : T (fits binary32 (front i))
  unfolding front
  front_fits = mul-fits binary32 one (at (row matrixing 0) i)

  front_stable : Stable (front i)
  front_stable before s = all_pass 64 (λ i. test before s (front i)) (front-tests before s) i l

module _ (e : Edition) (xs : List Float) (z : Zeros 576 xs) where
  -- what synthesis takes: 1.0 of subband 0 in slot 17, and else zeros
  loud_at : at (slots e xs late_channel) 17 ≡ one
  unfolding subbands inverted hybrid late_channel
  loud_at =
      let samples = antialiased Long xs in
      get_d_tab 576 (inverted_at (hybrid e Long samples late_overlap)) 17 nan (lit< tt)
      ∙ get_d_tab 576 (hybrid_at e Long samples late_overlap) 17 nan (lit< tt)
      ∙ rw late_one (zero_and_one (places_zeros e samples (alias_zeros xs z) 0 (lit< tt) 17 (lit< tt)))
    where
      zero_and_one : {x : Float} → Zero x → add binary32 x one ≡ one
      zero_and_one (signed s) = after_nothing one one-fits one_stable (signed s)

  quiet : (k : ℕ) → (k ≡ 17 → ⊥) → k < 576 → Zero (at (slots e xs late_channel) k)
  unfolding late_channel
  quiet k apart l = quiet_at e xs z late_channel k l (late_zero k apart l)

  slot_at : (n j : ℕ) → j < 32 → at (slot_samples (slots e xs late_channel) n) j ≡ at (slots e xs late_channel) (j * 18 + n)
  unfolding slot_samples
  slot_at n j l = get_d_tab 32 (λ j. at (slots e xs late_channel) (j * 18 + n)) j nan l

  -- the front block, and the others
  front-is : (i : ℕ) → i < 64 → at (matrixed (slot_samples (slots e xs late_channel) 17)) i ≡ front i
  unfolding matrixed front
  front-is i l =
      get_d_tab 64 (matrixed_at (slot_samples (slots e xs late_channel) 17)) i nan l
      ∙ sum_first (front i) (front_fits i l) (front_stable i l) 31 (λ j. mul binary32 (at (slot_samples (slots e xs late_channel) 17) j) (at (row matrixing j) i))
      (rw (slot_at 17 0 (lit< tt), loud_at))
      (λ j h m. zero-mul-left (rw (slot_at 17 j m) (quiet (j * 18 + 17) (λ q. omega arith) (omega arith))) (at (row matrixing j) i) (entry-finite j i m l))

  others_are : (n : ℕ) → n < 17 → Zeros 64 (matrixed (slot_samples (slots e xs late_channel) n))
  others_are n h = matrixed_zeros (slot_samples (slots e xs late_channel) n) (λ j l. rw (slot_at n j l) (quiet (j * 18 + n) (λ q. omega arith) (omega arith)))

  after : Channel
  after = channel_after e Long xs late_channel

  block_at : (k : ℕ) → k < 1024 → at after.blocks k ≡ at (matrixed (slot_samples (slots e xs late_channel) (17 - k / 64))) (k % 64)
  unfolding after channel_after late_channel
  block_at k l = blocks-new (slots e xs late_channel) (replicate 1024 zero_f) 18 k (omega arith) l

  -- it is finite, with an overlap of zeros
  after_overlap : Zeros 576 after.overlap
  unfolding after channel_after
  after_overlap = overlap_zeros e (antialiased Long xs) (alias_zeros xs z)

  after_finite : Finite after
  unfolding after channel_after overlap_after
  after_finite = record {
    overlap = zeros_finite 576 after.overlap (length-tab 576 _) after_overlap;
    blocks = rw (blocks-long (slots e xs late_channel) late_channel.blocks 18 (omega arith)) (all_if 1024 (λ i. finite (at after.blocks i)) (λ k l. each k l (dec_lt k 64)));
  }
    where
      each : (k : ℕ) → k < 1024 → Dec (k < 64) → finite (at after.blocks k) ≡ true
      each k l (yes h) =
          let first : 17 - k / 64 ≡ 17 = omega arith in
          rw (block_at k l, first, front-is (k % 64) (omega arith)) (is_true (finite (front (k % 64))) (all_pass 64 (λ i. finite (front i)) front-finite (k % 64) (omega arith)))
      each k l (no h) = rw (block_at k l) (zero-finite (others_are (17 - k / 64) (omega arith) (k % 64) (omega arith)))

-- ---- so the channel differs from one with no such number

front_loud : Zero (front 63) → ⊥
unfolding front one matrixing matrixing_bits of_bits mul digits
front_loud z = let q : ◌≡◌ {A = ℕ} 12431097 0 = zero-digits z in omega arith

module _ (e : Edition) (xs : List Float) (z : Zeros 576 xs) where
  apart : channel_after e Long xs fresh_channel ≡ channel_after e Long xs late_channel → ⊥
  unfolding after
  apart q =
      let here = blocks_zeros e xs z fresh_channel (zeros_replicate 576) 63 (lit< tt) in
      front_loud (subst Zero (ap (λ (c : Channel). at c.blocks 63) q ∙ block_at e xs z 63 (lit< tt) ∙ front-is e xs z 63 (lit< tt)) here)

-- ---- and so does output 479 of the second granule, which takes the front block that the first one left: it stands last among the sixteen when slot 14 is made

-- the window's entries are finite
window-test : T (all_to 512 (λ p. finite (at window p)))
unfolding window window_bits all_to finite of_bits
window-test = tt

window-finite : (p : ℕ) → p < 512 → finite (at window p) ≡ true
window-finite p l = is_true (finite (at window p)) (all_pass 512 (λ p. finite (at window p)) window-test p l)

-- what it then gives of that block
echo : Float
echo = mul binary32 (front 63) (at window 511)

echo_fits : T (fits binary32 echo)
unfolding echo
echo_fits = mul-fits binary32 (front 63) (at window 511)

echo_stable : Stable echo
unfolding test nought echo front one window window_bits matrixing matrixing_bits of_bits to_bits add mul
echo_stable true true = tt
echo_stable true false = tt
echo_stable false true = tt
echo_stable false false = tt

echo_loud : Zero echo → ⊥
unfolding echo front one window window_bits matrixing matrixing_bits of_bits mul digits
echo_loud z = let q : ◌≡◌ {A = ℕ} 12431269 0 = zero-digits z in omega arith

-- a channel whose overlap is zeros, and what slot 14 finds of its blocks
module _ (e : Edition) (xs : List Float) (z : Zeros 576 xs) (c : Channel) (o : Zeros 576 c.overlap) where
  found : ℕ → Float
  found j = windowed_at (blocks_after (slots e xs c) c.blocks 15) (32 * j + 31)

  found_zero : (j : ℕ) → j < 15 → Zero (found j)
  unfolding found
  found_zero j h =
      let p = 64 * j + 32 * (j % 2) + 31 in
      rw (gathered-row j 31 (lit< tt), blocks-new (slots e xs c) c.blocks 15 p (omega arith) (omega arith))
      (zero-mul-left (matrixed_zeros (slot_samples (slots e xs c) (14 - p / 64)) (slot_zeros e xs z c o (14 - p / 64) (omega arith)) (p % 64) (omega arith))
      (at window (32 * j + 31)) (window-finite (32 * j + 31) (omega arith)))

  found_last : found 15 ≡ mul binary32 (at c.blocks 63) (at window 511)
  unfolding found
  found_last = rw (blocks-old (slots e xs c) c.blocks 15 1023 (lit≤ tt) (lit< tt))

  output-is : channel_output e Long xs c 479 ≡ sum_to 16 found
  unfolding channel_output slot_output found
  output-is = refl

-- where the blocks are zeros too, so are they after each slot, and with them all outputs
module _ (e : Edition) (xs : List Float) (z : Zeros 576 xs) (c : Channel) (o : Zeros 576 c.overlap) (v : Zeros 1024 c.blocks) where
  blocks_quiet : (n i : ℕ) → n ≤ 18 → i < 1024 → Zero (at (blocks_after (slots e xs c) c.blocks n) i)
  blocks_quiet n i h l = split (dec_lt i (64 * n))
    where
      split : Dec (i < 64 * n) → Zero (at (blocks_after (slots e xs c) c.blocks n) i)
      split (yes q) =
          let slot = n - 1 - i / 64 in
          rw (blocks-new (slots e xs c) c.blocks n i q l) (matrixed_zeros (slot_samples (slots e xs c) slot) (slot_zeros e xs z c o slot (omega arith)) (i % 64) (omega arith))
      split (no q) = rw (blocks-old (slots e xs c) c.blocks n i (omega arith) l) (v (i - 64 * n) (omega arith))

  outputs_quiet : (p : ℕ) → p < 576 → Zero (channel_output e Long xs c p)
  unfolding channel_output slot_output
  outputs_quiet p l = zero-sum 16 (λ j. windowed_at (blocks_after (slots e xs c) c.blocks (p / 32 + 1)) (32 * j + p % 32)) each
    where
      each : (j : ℕ) → j < 16 → Zero (windowed_at (blocks_after (slots e xs c) c.blocks (p / 32 + 1)) (32 * j + p % 32))
      each j h =
          rw (gathered-row j (p % 32) (omega arith))
          (zero-mul-left (blocks_quiet (p / 32 + 1) (64 * j + 32 * (j % 2) + p % 32) (omega arith) (omega arith)) (at window (32 * j + p % 32)) (window-finite (32 * j + p % 32) (omega arith)))

-- xs are the first granule's samples, ys the second one's
module _ (e f : Edition) (xs ys : List Float) (z : Zeros 576 xs) (w : Zeros 576 ys) where
  quiet_outputs : (p : ℕ) → p < 576 → Zero (channel_output f Long ys (channel_after e Long xs fresh_channel) p)
  unfolding channel_after
  quiet_outputs =
      outputs_quiet f ys w (channel_after e Long xs fresh_channel) (overlap_zeros e (antialiased Long xs) (alias_zeros xs z)) (blocks_zeros e xs z fresh_channel (zeros_replicate 576))

  loud_output : channel_output f Long ys (channel_after e Long xs late_channel) 479 ≡ echo
  unfolding after echo
  loud_output =
      let c = channel_after e Long xs late_channel in
      let o = after_overlap e xs z in
      let last : found f ys w c o 15 ≡ echo = found_last f ys w c o ∙ rw (block_at e xs z 63 (lit< tt), front-is e xs z 63 (lit< tt)) in
      output-is f ys w c o ∙ sum-last echo echo_fits echo_stable 15 (found f ys w c o) last (λ j h. found_zero f ys w c o j h)

-- ---- and so does its peak, since the one is silent and the other is not

zero-level : {x : Float} → Zero x → level x ≡ 0
unfolding to_bits
zero-level (signed true) = refl
zero-level (signed false) = refl

echo_heard : 0 < level echo
unfolding echo front one window window_bits matrixing matrixing_bits of_bits to_bits mul
echo_heard = lit< tt

silent_peak : (f : ℕ → Float) → ((p : ℕ) → p < 576 → Zero (f p)) → peak_of f ≡ 0
silent_peak f z = let l = peak_is f in sym l.one_of_them ∙ zero-level (z l.place l.among_them)

heard_peak : (f : ℕ → Float) → f 479 ≡ echo → 0 < peak_of f
heard_peak f e =
    let above = (peak_is f).at_least_each 479 (lit< tt) in
    let there : level (f 479) ≡ level echo = ap level e in
    omega (arith, above, there, echo_heard)

-- ---- the two channels, in granules that use them

-- the peak of channel 1 where `right`, else that of channel 0
abbrev pub peak_in : Bool → Peaks → ℕ
peak_in right p = cond right p.right p.left

samples : (e : Edition) (both right : Bool) → List Float
samples e both right = cond right (right_samples (silent e both)) (left_samples (silent e both))

-- what silence makes of such a channel, and its outputs
abbrev next : (e : Edition) (both right : Bool) → Channel → Channel
next e both right = channel_after (edition_in (silent e both)) Long (samples e both right)

abbrev output : (e : Edition) (both right : Bool) → Channel → ℕ → Float
output e both right = channel_output (edition_in (silent e both)) Long (samples e both right)

by-channel : (P : (right both : Bool) → Type 0) → ((both : Bool) → P false both) → P true true → (right both : Bool) → (right ≡ true → both ≡ true) → P right both
by-channel P of_left of_right false both u = of_left both
by-channel P of_left of_right true true u = of_right
by-channel P of_left of_right true false u = absurd (true≢false (sym (u refl)))

module _ (e : Edition) (both right : Bool) (used : right ≡ true → both ≡ true) where
  samples_zeros : Zeros 576 (samples e both right)
  unfolding samples
  samples_zeros = by-channel (λ right both. Zeros 576 (samples e both right)) (left_zeros e) (right_zeros e) right both used

  module _ (h : History) (t : Taken granules (silence e both) h) where
    channel-after : channel_of right (history_next granules (silence e both) h) ≡ next e both right (channel_of right h)
    unfolding history_after silent silent_part samples
    channel-after =
        rw (leaves granules granules_lawful (silence e both) h t)
        (by-channel (λ right both. channel_of right (history_after (silent e both) h) ≡ next e both right (channel_of right h)) (λ both. refl) refl right both used)

    output_after : output_of granules (silence e both) h (cond right (576 + 479) 479) ≡ output e both right (channel_of right h) 479
    unfolding silent silent_part samples
    output_after =
        rw (fills granules granules_lawful (silence e both) h t)
        (by-channel (λ right both. at (granule_room (silent e both) h (room both)) (cond right (576 + 479) 479) ≡ output e both right (channel_of right h) 479)
        (λ both. left-at (silent e both) (room both) h 479 (lit< tt)) (right-at (silent e true) (room true) h 479 (lit< tt) refl) right both used)

    peak_after : peak_in right (reply granules (silence e both) h).peaks ≡ peak_of (output e both right (channel_of right h))
    unfolding silent silent_part samples granule_peaks
    peak_after =
        rw (sounds granules granules_lawful (silence e both) h t)
        (by-channel (λ right both. peak_in right (granule_peaks (silent e both) h) ≡ peak_of (output e both right (channel_of right h))) (λ both. refl) refl right both used)

  from : (h : History) (c : Channel) → ((right : Bool) → channel_of right h ≡ c) → Taken granules (silence e both) h
      → channel_of right (history_next granules (silence e both) h) ≡ next e both right c
  from h c same t = channel-after h t ∙ ap (next e both right) (same right)

  from_fresh : channel_of right (history_next granules (silence e both) fresh_history) ≡ next e both right fresh_channel
  from_fresh = from fresh_history fresh_channel (λ right. both_alike fresh_channel right) (can_be_met e e both).first_of_h

  from_late : channel_of right (history_next granules (silence e both) late) ≡ next e both right late_channel
  unfolding late
  from_late = from late late_channel (λ right. both_alike late_channel right) (late_accepted e both)

  late_stays_finite : Finite (channel_of right (history_next granules (silence e both) late))
  unfolding after
  late_stays_finite = rw from_late (after_finite (edition_in (silent e both)) (samples e both right) samples_zeros)

-- the second granule is accepted in both runs
pub late_accepted_again : (e f : Edition) (both : Bool) → Taken granules (silence f both) (history_next granules (silence e both) late)
late_accepted_again e f both =
    accepted f (history_next granules (silence e both) late) both (late_stays_finite e both false (λ q. absurd (true≢false (sym q)))) (λ q. late_stays_finite e both true (λ _. q))

-- ---- the theorems: both runs accept both granules (`can_be_met`, `late_accepted`, `late_accepted_again`), at any two editions

-- each channel differs after one granule
pub one-is-not_enough : (e : Edition) (both right : Bool) → (right ≡ true → both ≡ true)
    → channel_of right (history_next granules (silence e both) fresh_history) ≡ channel_of right (history_next granules (silence e both) late)
    → ⊥
one-is-not_enough e both right used q =
    apart (edition_in (silent e both)) (samples e both right) (samples_zeros e both right used) (sym (from_fresh e both right used) ∙ q ∙ from_late e both right used)

module _ (e f : Edition) (both right : Bool) (used : right ≡ true → both ≡ true) where
  -- the second granule's outputs in each run
  abbrev after_fresh : ℕ → Float
  after_fresh = output f both right (next e both right fresh_channel)

  abbrev after_late : ℕ → Float
  after_late = output f both right (next e both right late_channel)

  all_quiet : (p : ℕ) → p < 576 → Zero (after_fresh p)
  all_quiet =
      quiet_outputs (edition_in (silent e both)) (edition_in (silent f both)) (samples e both right) (samples f both right) (samples_zeros e both right used) (samples_zeros f both right used)

  one_loud : after_late 479 ≡ echo
  one_loud =
      loud_output (edition_in (silent e both)) (edition_in (silent f both)) (samples e both right) (samples f both right) (samples_zeros e both right used) (samples_zeros f both right used)

  -- and its output 479 of the second
  pub not-from_479 :
      output_of granules (silence f both) (history_next granules (silence e both) fresh_history) (cond right (576 + 479) 479)
      ≡ output_of granules (silence f both) (history_next granules (silence e both) late) (cond right (576 + 479) 479)
      → ⊥
  not-from_479 q =
      let at-479 : Channel → Float = λ c. output f both right c 479 in
      let quiet = output_after f both right used (history_next granules (silence e both) fresh_history) (can_be_met e f both).second_of_h ∙ ap at-479 (from_fresh e both right used) in
      let loud = output_after f both right used (history_next granules (silence e both) late) (late_accepted_again e f both) ∙ ap at-479 (from_late e both right used) in
      echo_loud (subst Zero (sym quiet ∙ q ∙ loud ∙ one_loud) (all_quiet 479 (lit< tt)))

  -- and its peak of the second, which is over all 576 outputs
  pub second_peaks_differ :
      peak_in right (reply granules (silence f both) (history_next granules (silence e both) fresh_history)).peaks
      ≡ peak_in right (reply granules (silence f both) (history_next granules (silence e both) late)).peaks
      → ⊥
  second_peaks_differ q =
      let peak : Channel → ℕ = λ c. peak_of (output f both right c) in
      let quiet = peak_after f both right used (history_next granules (silence e both) fresh_history) (can_be_met e f both).second_of_h ∙ ap peak (from_fresh e both right used) in
      let loud = peak_after f both right used (history_next granules (silence e both) late) (late_accepted_again e f both) ∙ ap peak (from_late e both right used) in
      let none : peak_of after_fresh ≡ 0 = silent_peak _ all_quiet in
      let some : 0 < peak_of after_late = heard_peak _ one_loud in
      let same : peak_of after_fresh ≡ peak_of after_late = sym quiet ∙ q ∙ loud in
      omega arith
