-- One theorem: at each point the two editions give what the documents say of them, and not the same. Assumes nothing.
use mathlib.Core.Path.{◌≡◌, refl, ap, ◌∙◌}
use mathlib.Core.Bool.{true, false, not}
use mathlib.Core.List.{List, [], ◌∷◌}
use Prim.Native.Nat.{ℕ}
use borrow.Author.Tests.{eq-eqb}
use lib.Dec.{T, eqb, lit<}
use lib.IntN.{pos}
use lib.ListN.{replicate}
use lib.Ieee.{binary32, of_bits, to_bits, of_int, add, sub, mul}
use Rattle.laws.specs.Checks.{first, all_to}
use Rattle.laws.specs.Lists.{at, tab}
use Rattle.laws.specs.Sum.{zero_f, sum_to}
use Rattle.nearest.specs.Nearest.{units, pattern_from, nearest_root}
use Rattle.power_table.specs.Power.{power}
use Rattle.powers.specs.Powers.{gain}
use Rattle.bands.specs.Starts.{long_tables, short_tables}
use Rattle.bands.specs.Bands.{long_starts, short_starts, band_at}
use Rattle.tables.specs.Cosines.{cos_n12, cos_n12_bits, imdct_win, imdct_win_bits}
use Rattle.tables.specs.Stereo.{intensity_ratios, intensity_ratios_bits, half_root}
use Rattle.side_info.specs.declared.BlockType.TheVariants.{Long, Short}
use Rattle.side_info.specs.declared.Edition.{Edition}
use Rattle.side_info.specs.declared.Edition.TheVariants.{First, Second}
use Rattle.requantize.specs.Requantize.{requantized}
use Rattle.reorder.specs.Reorder.{reordered}
use Rattle.intensity.specs.Intensity.{position_refused}
use Rattle.stereo.specs.Stereo.{stereo_left, stereo_right}
use Rattle.antialias.specs.Antialias.{antialiased}
use Rattle.imdct.specs.Imdct.{added_to}
use Rattle.hybrid.specs.Hybrid.{subband_of}
use Rattle.history.specs.History.{fresh_channel}
use Rattle.granule.specs.Granule.{input_checks}
use Rattle.backend.specs.Whole.{part_samples, left_samples, right_samples, subbands}
use Rattle.paper_cases.specs.Cases.{Value, number, sample, whole}
use Rattle.paper_cases.specs.Editions.{Apart, AllApart, done, apart, factored, none, eight, single, crossed, positioned, answers}
use Rattle.paper_cases.specs.Editions.{halves_added, last_band, from_channel_one, windows_in_turn, also_skipped, mid_side_skips, seven_keeps, eight_left, eight_right, heard_elsewhere, points}
use Rattle.paper_cases.proofs.Places.{both, alone_at, both_at, part-is, left_is, right_is, taken_from, taken_at}
use Rattle.paper_cases.proofs.Outputs.{only, first_sample, number_is, heard}

-- ---- two lists of values differ where the bits of their first ones do

code : List Value → ℕ
code [] = 0
code (number n ∷ vs) = n
code (sample x ∷ vs) = to_bits binary32 x

differ : {vs ws : List Value} → T (not (eqb (code vs) (code ws))) → vs ≡ ws → ⊥
differ {vs} {ws} t e = rw (eq-eqb (code vs) (code ws) (ap code e)) at t

-- ---- short blocks alone

-- the first point's samples are 16 and zeros
sixteen : requantized 0 (factored Short 0 none 1) (eight 0) ≡ only 576 (whole 16)
unfolding requantized short_tables short_starts band_at power gain nearest_root pattern_from units tab of_bits of_int mul
sixteen = refl

stays : (e : Edition) → reordered e 0 Short 1 (only 576 (whole 16)) ≡ only 576 (whole 16)
unfolding reordered short_tables short_starts band_at tab
stays First = refl
stays Second = refl

short_alias : antialiased Short (only 576 (whole 16)) ≡ only 576 (whole 16)
unfolding antialiased tab
short_alias = refl

halves-at : (e : Edition) → at (subbands e Short (part_samples e 0 (single 1).left) fresh_channel) 12 ≡ taken_from e Short (only 576 (whole 16)) fresh_channel.overlap 12
halves-at e = rw (part-is e 0 (single 1).left sixteen (stays e)) (taken_at e Short (only 576 (whole 16)) fresh_channel 12 (lit< tt) ∙ rw short_alias)

halves-added : Apart halves_added
unfolding halves_added code left_samples subband_of cos_n12 cos_n12_bits imdct_win imdct_win_bits added_to sum_to tab of_bits of_int to_bits add mul
halves-added = record { one_is = rw (halves-at First); two_is = rw (halves-at Second); unlike = differ tt }

last-band : Apart last_band
unfolding last_band code short_tables short_starts band_at power gain nearest_root pattern_from units of_bits of_int to_bits mul
last-band = record {
  one_is = both (alone_at _ 409 409 tt tt (λ xs. refl) refl) (alone_at _ 411 411 tt tt (λ xs. refl) refl);
  two_is = both (alone_at _ 409 464 tt tt (λ xs. refl) refl) (alone_at _ 411 409 tt tt (λ xs. refl) refl);
  unlike = differ tt;
}

-- ---- stereo

from-channel-one : Apart from_channel_one
unfolding from_channel_one code long_tables long_starts band_at power gain nearest_root pattern_from units intensity_ratios intensity_ratios_bits of_bits of_int to_bits mul
from-channel-one = record {
  one_is = both_at _ 0 0 tt tt (λ xs. refl) (λ xs. refl) refl;
  two_is = both_at _ 0 0 tt tt (λ xs. refl) (λ xs. refl) refl;
  unlike = differ tt;
}

windows-in-turn : Apart windows_in_turn
unfolding windows_in_turn code short_tables short_starts band_at power gain nearest_root pattern_from units intensity_ratios intensity_ratios_bits of_bits of_int to_bits mul
windows-in-turn = record {
  one_is = both_at _ 1 4 tt tt (λ xs. refl) (λ xs. refl) refl;
  two_is = both_at _ 1 4 tt tt (λ xs. refl) (λ xs. refl) refl;
  unlike = differ tt;
}

also-skipped : Apart also_skipped
unfolding also_skipped code short_tables short_starts band_at intensity_ratios intensity_ratios_bits of_bits of_int to_bits mul
also-skipped = record {
  one_is = both_at _ 13 13 tt tt (λ xs. refl) (λ xs. refl) refl;
  two_is = both_at _ 13 13 tt tt (λ xs. refl) (λ xs. refl) refl;
  unlike = differ tt;
}

mid-side_skips : Apart mid_side_skips
unfolding mid_side_skips code long_tables long_starts band_at power gain nearest_root pattern_from units intensity_ratios intensity_ratios_bits half_root of_bits of_int to_bits add sub mul
mid-side_skips = record {
  one_is = both_at _ 0 0 tt tt (λ xs. refl) (λ xs. refl) refl;
  two_is = both_at _ 0 0 tt tt (λ xs. refl) (λ xs. refl) refl;
  unlike = differ tt;
}

seven-keeps : Apart seven_keeps
unfolding seven_keeps code long_tables long_starts band_at power gain nearest_root pattern_from units intensity_ratios intensity_ratios_bits half_root of_bits of_int to_bits add sub mul
seven-keeps = record {
  one_is = both_at _ 0 0 tt tt (λ xs. refl) (λ xs. refl) refl;
  two_is = both_at _ 0 0 tt tt (λ xs. refl) (λ xs. refl) refl;
  unlike = differ tt;
}

-- ---- refusal 8

refuses : (n p q k : ℕ) → first (input_checks (positioned p q n)) ≡ k → (answers (positioned p q n) ∷ []) ≡ (number k ∷ [])
refuses n p q k e = rw (number_is (positioned p q n) refl, e)

eight-left : Apart eight_left
unfolding eight_left code position_refused long_tables long_starts short_tables short_starts all_to
eight-left = record { one_is = refuses 1 8 0 8 refl; two_is = refuses 2 8 0 0 refl; unlike = differ tt }

eight-right : Apart eight_right
unfolding eight_right code position_refused long_tables long_starts short_tables short_starts all_to
eight-right = record { one_is = refuses 1 0 8 0 refl; two_is = refuses 2 0 8 8 refl; unlike = differ tt }

-- ---- outputs: the samples of the channels are 2 and zeros, or zeros

two-alone : requantized 0 (factored Long 6 none 1) (eight 0) ≡ only 576 (whole 2)
unfolding requantized long_tables long_starts band_at power gain nearest_root pattern_from units tab of_bits of_int mul
two-alone = refl

nothing : requantized 0 (factored Long 0 none 0) (replicate 576 (pos 0)) ≡ only 576 zero_f
unfolding requantized tab of_bits of_int
nothing = refl

module _ (e : Edition) where
  -- reorder leaves a long block
  first_part : part_samples e 0 (crossed 1).left ≡ only 576 (whole 2)
  unfolding reordered tab
  first_part = part-is e 0 (crossed 1).left two-alone refl

  second_part : part_samples e 0 (crossed 1).right ≡ only 576 zero_f
  unfolding reordered tab
  second_part = part-is e 0 (crossed 1).right nothing refl

-- at edition 1 it stays on the left, at edition 2 it goes to the right
left_one : left_samples (crossed 1) ≡ only 576 (first_sample true)
unfolding stereo_left long_tables long_starts band_at intensity_ratios intensity_ratios_bits tab of_bits of_int mul
left_one = left_is (crossed 1) (first_part First) (second_part First) refl ∙ refl

right-one : right_samples (crossed 1) ≡ only 576 (first_sample false)
unfolding stereo_right long_tables long_starts band_at intensity_ratios intensity_ratios_bits tab of_bits of_int mul
right-one = right_is (crossed 1) (first_part First) (second_part First) ∙ refl

left-two : left_samples (crossed 2) ≡ only 576 (first_sample false)
unfolding stereo_left long_tables long_starts band_at intensity_ratios intensity_ratios_bits tab of_bits of_int mul
left-two = left_is (crossed 2) (first_part Second) (second_part Second) refl ∙ refl

right-two : right_samples (crossed 2) ≡ only 576 (first_sample true)
unfolding stereo_right long_tables long_starts band_at intensity_ratios intensity_ratios_bits tab of_bits of_int mul
right-two = right_is (crossed 2) (first_part Second) (second_part Second) ∙ refl

accepted : (first (input_checks (crossed 1)) ≡ 0) × (first (input_checks (crossed 2)) ≡ 0)
unfolding position_refused long_tables long_starts short_tables short_starts all_to
accepted = (refl, refl)

heard-elsewhere : Apart heard_elsewhere
unfolding heard_elsewhere code of_bits to_bits
heard-elsewhere = record {
  one_is = heard (crossed 1) refl accepted.0 true false refl refl left_one right-one;
  two_is = heard (crossed 2) refl accepted.1 false true refl refl left-two right-two;
  unlike = differ tt;
}

pub all_apart : AllApart points
all_apart =
    apart _ _ halves-added
    (apart _ _ last-band
    (apart _ _ from-channel-one
    (apart _ _ windows-in-turn
    (apart _ _ also-skipped
    (apart _ _ mid-side_skips
    (apart _ _ seven-keeps
    (apart _ _ eight-left (apart _ _ eight-right (apart _ _ heard-elsewhere done)))))))))
