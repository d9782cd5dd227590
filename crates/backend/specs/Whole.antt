-- The whole granule: the stages in the order that document 01 fixes ("Whole granule: requantize, reorder, stereo, antialias, hybrid, inversion, synthesis"). Assumes nothing.
use Rattle.std.specs.Prelude.{Bool, not, cond, ◌&&◌, ◌||◌, List, ℕ, ◌-◌, ltb, ℤ, Float}
use Rattle.laws.specs.Lists.{filled}
use Rattle.requantize.specs.Requantize.{requantized}
use Rattle.reorder.specs.Reorder.{reordered}
use Rattle.stereo.specs.Stereo.{stereo_left, stereo_right}
use Rattle.antialias.specs.Antialias.{antialiased}
use Rattle.hybrid.specs.Hybrid.{hybrid, overlap_after}
use Rattle.inversion.specs.Inversion.{inverted}
use Rattle.synthesis.specs.Synthesis.{blocks_after, output_at, peak_of}
use Rattle.side_info.specs.declared.BlockType.{BlockType}
use Rattle.side_info.specs.declared.Edition.{Edition}
use Rattle.side_info.specs.Editions.{edition_of}
use Rattle.side_info.specs.Side.{numbers_small, numbers_low}
use Rattle.history.specs.declared.Channel.{Channel}
use Rattle.history.specs.declared.History.{History}
use Rattle.granule.specs.declared.Part.{Part}
use Rattle.granule.specs.declared.Granule.{Granule}
use Rattle.granule.specs.Granule.{two}
use Rattle.backend.specs.declared.Peaks.{Peaks}

-- ---- the samples of a channel

-- whether the small table of powers has the numbers of each used channel: which table is taken shows in no answer
abbrev pub used_small : Bool → List ℤ → List ℤ → Bool
used_small both xs ys = numbers_small xs && (not both || numbers_small ys)

-- whether the first part of the whole table has the sizes of each used channel's numbers
abbrev pub used_low : Bool → List ℤ → List ℤ → Bool
used_low both xs ys = numbers_low xs && (not both || numbers_low ys)

-- the edition that a granule names
abbrev pub edition_in : Granule → Edition
edition_in g = edition_of g.edition

-- after requantize and reorder
unfoldable pub part_samples : Edition → ℕ → Part → List Float
part_samples e t p = reordered e t p.side.block_type p.side.count1 (requantized t p.side p.spectrum)

-- after stereo, which takes both channels; one channel has none
unfoldable pub left_samples : Granule → List Float
left_samples g =
    let e = edition_in g in
    let l = part_samples e g.table g.left in
    cond (two g) (stereo_left e g.table g.mid_side g.intensity g.left.side g.right.side l (part_samples e g.table g.right)) l

unfoldable pub right_samples : Granule → List Float
right_samples g =
    let e = edition_in g in
    stereo_right e g.table g.mid_side g.intensity g.left.side g.right.side (part_samples e g.table g.left) (part_samples e g.table g.right)

-- ---- from there each channel by itself, with its own block type: e is the edition, xs are its samples

-- after antialias, hybrid and inversion: what synthesis takes
unfoldable pub subbands : Edition → BlockType → List Float → Channel → List Float
subbands e kind xs c = inverted (hybrid e kind (antialiased kind xs) c.overlap)

-- the channel's history afterwards, and output p
unfoldable pub channel_after : Edition → BlockType → List Float → Channel → Channel
channel_after e kind xs c = record { overlap = overlap_after e kind (antialiased kind xs); blocks = blocks_after (subbands e kind xs c) c.blocks 18 }

unfoldable pub channel_output : Edition → BlockType → List Float → Channel → ℕ → Float
channel_output e kind xs c = output_at (subbands e kind xs c) c.blocks

-- ---- the granule

abbrev pub left_kind : Granule → BlockType
left_kind g = g.left.side.block_type

abbrev pub right_kind : Granule → BlockType
right_kind g = g.right.side.block_type

-- "one channel means channel 0, and channel 1's part and history are neither tested nor changed"
abbrev pub right_after : Granule → Channel → Channel
right_after g c = cond (two g) (channel_after (edition_in g) (right_kind g) (right_samples g) c) c

unfoldable pub history_after : Granule → History → History
history_after g h = record { left = channel_after (edition_in g) (left_kind g) (left_samples g) h.left; right = right_after g h.right }

-- "With two channels the right channel's 576 outputs begin at place 576": the left rule, and from there the right one
abbrev pub pair_at : (ℕ → Float) → (ℕ → Float) → ℕ → Float
pair_at left right p = cond (ltb p 576) (left p) (right (p - 576))

abbrev pub pair_output : Granule → History → ℕ → Float
pair_output g h = pair_at (channel_output (edition_in g) (left_kind g) (left_samples g) h.left) (channel_output (edition_in g) (right_kind g) (right_samples g) h.right)

-- "Room beyond 576 is untouched"; "and room beyond 1,152 is untouched"
unfoldable pub granule_room : Granule → History → List Float → List Float
granule_room g h room = cond (two g) (filled 1152 (pair_output g h) room) (filled 576 (channel_output (edition_in g) (left_kind g) (left_samples g) h.left) room)

-- document 02, request 4: "the whole granule gives one per channel. .. an unused channel, answers peak 0"
unfoldable pub granule_peaks : Granule → History → Peaks
granule_peaks g h = record {
  left = peak_of (channel_output (edition_in g) (left_kind g) (left_samples g) h.left);
  right = cond (two g) (peak_of (channel_output (edition_in g) (right_kind g) (right_samples g) h.right)) 0;
}
