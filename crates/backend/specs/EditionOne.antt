-- The whole granule as it was before there were editions: the stages in the order that document 01 fixes, and what a call of `render` answers. Assumes nothing.
use Rattle.std.specs.Prelude.{cond, List, [], ◌∷◌, ◌++◌, ℕ, length, Float}
use Rattle.laws.specs.Checks.{Check, check, first, afterwards}
use Rattle.laws.specs.Lists.{filled}
use Rattle.requantize.specs.Requantize.{requantized}
use Rattle.reorder.specs.EditionOne.{reordered}
use Rattle.intensity.specs.EditionOne.{position_refused}
use Rattle.stereo.specs.EditionOne.{stereo_left, stereo_right}
use Rattle.antialias.specs.Antialias.{antialiased}
use Rattle.hybrid.specs.EditionOne.{hybrid, overlap_after}
use Rattle.inversion.specs.Inversion.{inverted}
use Rattle.synthesis.specs.Synthesis.{blocks_after, output_at, peak_of}
use Rattle.side_info.specs.declared.BlockType.{BlockType}
use Rattle.side_info.specs.Side.{count_too_high, factor_too_high, subblock_gain_too_high, number_too_large}
use Rattle.bands.specs.Bands.{table_too_high}
use Rattle.history.specs.declared.Channel.{Channel}
use Rattle.history.specs.declared.History.{History}
use Rattle.granule.specs.declared.Part.{Part}
use Rattle.granule.specs.declared.Granule.{Granule}
use Rattle.granule.specs.Granule.{two, output_count, any_part, wrong_channels, stereo_of_one, state_checks}
use Rattle.backend.specs.declared.Peaks.{Peaks}
use Rattle.backend.specs.Whole.{left_kind, right_kind, pair_at}
use Rattle.backend.specs.Calls.{Call, Answer, refusing}

-- ---- the samples of a channel

-- after requantize and reorder
unfoldable pub part_samples : ℕ → Part → List Float
part_samples t p = reordered t p.side.block_type p.side.count1 (requantized t p.side p.spectrum)

-- after stereo, which takes both channels; one channel has none
unfoldable pub left_samples : Granule → List Float
left_samples g =
    let l = part_samples g.table g.left in
    cond (two g) (stereo_left g.table g.mid_side g.intensity g.left.side g.right.side l (part_samples g.table g.right)) l

unfoldable pub right_samples : Granule → List Float
right_samples g =
    stereo_right g.table g.mid_side g.intensity g.left.side g.right.side (part_samples g.table g.left) (part_samples g.table g.right)

-- ---- from there each channel by itself, with its own block type: xs are its samples

-- after antialias, hybrid and inversion: what synthesis takes
unfoldable pub subbands : BlockType → List Float → Channel → List Float
subbands kind xs c = inverted (hybrid kind (antialiased kind xs) c.overlap)

-- the channel's history afterwards, and output p
unfoldable pub channel_after : BlockType → List Float → Channel → Channel
channel_after kind xs c = record { overlap = overlap_after kind (antialiased kind xs); blocks = blocks_after (subbands kind xs c) c.blocks 18 }

unfoldable pub channel_output : BlockType → List Float → Channel → ℕ → Float
channel_output kind xs c = output_at (subbands kind xs c) c.blocks

-- ---- the granule

-- "one channel means channel 0, and channel 1's part and history are neither tested nor changed"
abbrev pub right_after : Granule → Channel → Channel
right_after g c = cond (two g) (channel_after (right_kind g) (right_samples g) c) c

unfoldable pub history_after : Granule → History → History
history_after g h = record { left = channel_after (left_kind g) (left_samples g) h.left; right = right_after g h.right }

abbrev pub pair_output : Granule → History → ℕ → Float
pair_output g h = pair_at (channel_output (left_kind g) (left_samples g) h.left) (channel_output (right_kind g) (right_samples g) h.right)

-- "Room beyond 576 is untouched"; "and room beyond 1,152 is untouched"
unfoldable pub granule_room : Granule → History → List Float → List Float
granule_room g h room = cond (two g) (filled 1152 (pair_output g h) room) (filled 576 (channel_output (left_kind g) (left_samples g) h.left) room)

-- document 02, request 4: "the whole granule gives one per channel. .. an unused channel, answers peak 0"
unfoldable pub granule_peaks : Granule → History → Peaks
granule_peaks g h = record {
  left = peak_of (channel_output (left_kind g) (left_samples g) h.left);
  right = cond (two g) (peak_of (channel_output (right_kind g) (right_samples g) h.right)) 0;
}

-- ---- the refusals

-- 1 to 8, "tested in this order", which ask nothing of the history and the room; 4 to 7 each look at all used channels before the next is made
abbrev pub input_checks : Granule → List Check
input_checks g =
    check 1 (wrong_channels g.channels)
    ∷ check 2 (stereo_of_one g)
    ∷ check 3 (table_too_high g.table)
    ∷ check 4 (any_part g (λ p. count_too_high p.side.count1))
    ∷ check 5 (any_part g (λ p. factor_too_high p.side))
    ∷ check 6 (any_part g (λ p. subblock_gain_too_high p.side))
    ∷ check 7 (any_part g (λ p. number_too_large p.spectrum))
    ∷ check 8 (position_refused g.intensity g.table g.left.side g.right.side)
    ∷ []

abbrev pub granule_checks : Granule → History → ℕ → List Check
granule_checks g h n = input_checks g ++ state_checks g h n

-- ---- one call

abbrev pub rendering : Call → History → Answer
rendering c h = record {
  reply = record { number = 0; written = output_count c.granule; peaks = granule_peaks c.granule h; room = granule_room c.granule h c.room };
  history = history_after c.granule h;
}

-- the number of the first check that fails
abbrev pub refusal_of : Call → History → ℕ
refusal_of c h = first (granule_checks c.granule h (length c.room))

-- it refuses; where none fails the granule is rendered
abbrev pub answer : Call → History → Answer
answer c h = let k = refusal_of c h in afterwards k (refusing k c.room h) (rendering c h)
