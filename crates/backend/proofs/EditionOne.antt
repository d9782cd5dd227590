-- A call whose granule names edition 1 is answered as before there were editions. Assumes nothing.
use mathlib.Core.Path.{◌≡◌, refl, ap, ◌∙◌}
use mathlib.Core.List.{List}
use Prim.Native.Nat.{ℕ}
use lib.ListN.{length}
use lib.Ieee.{Float}
use Rattle.laws.specs.Checks.{first}
use Rattle.reorder.specs.Reorder as reorder
use Rattle.reorder.specs.EditionOne as reorder-before
use Rattle.intensity.specs.Intensity as intensity
use Rattle.intensity.specs.EditionOne as intensity-before
use Rattle.stereo.specs.Stereo as stereo
use Rattle.stereo.specs.EditionOne as stereo-before
use Rattle.hybrid.specs.Hybrid as hybrid
use Rattle.hybrid.specs.EditionOne as hybrid-before
use Rattle.side_info.specs.declared.BlockType.{BlockType}
use Rattle.side_info.specs.declared.Edition.{Edition}
use Rattle.side_info.specs.declared.Edition.TheVariants.{First}
use Rattle.side_info.specs.Editions.{edition_of}
use Rattle.history.specs.declared.Channel.{Channel}
use Rattle.history.specs.declared.History.{History}
use Rattle.granule.specs.declared.Granule.{Granule}
use Rattle.granule.specs.Granule.{granule_checks}
use Rattle.backend.specs.Whole.{edition_in, left_kind, right_kind, part_samples, left_samples, right_samples, subbands, channel_after, channel_output, history_after, granule_room, granule_peaks}
use Rattle.backend.specs.Calls.{Call, answer}
use Rattle.backend.specs.EditionOne as before

-- ---- one channel: xs are its samples

module _ (kind : BlockType) (xs : List Float) (c : Channel) where
  after_as_one : channel_after First kind xs c ≡ before.channel_after kind xs c
  unfolding channel_after before.channel_after subbands before.subbands hybrid.hybrid hybrid.overlap_after hybrid.places_of hybrid-before.hybrid hybrid-before.overlap_after hybrid-before.places_of
  after_as_one = refl

  output_as_one : channel_output First kind xs c ≡ before.channel_output kind xs c
  unfolding channel_output before.channel_output subbands before.subbands hybrid.hybrid hybrid.places_of hybrid-before.hybrid hybrid-before.places_of
  output_as_one = refl

-- ---- the granule

module _ (g : Granule) (e : g.edition ≡ 1) where
  left_as_one : left_samples g ≡ before.left_samples g
  unfolding left_samples before.left_samples part_samples before.part_samples reorder.reordered reorder-before.reordered stereo.stereo_left stereo-before.stereo_left
  left_as_one = rw e refl

  right_as_one : right_samples g ≡ before.right_samples g
  unfolding right_samples before.right_samples part_samples before.part_samples reorder.reordered reorder-before.reordered stereo.stereo_right stereo-before.stereo_right
  right_as_one = rw e refl

  first-edition : edition_in g ≡ First
  first-edition = ap edition_of e

  -- each channel by itself, from samples that are those of before
  module _ (kind : BlockType) (xs : List Float) {ys : List Float} (q : xs ≡ ys) (c : Channel) where
    after_is : channel_after (edition_in g) kind xs c ≡ before.channel_after kind ys c
    after_is =
        ap (λ (d : Edition). channel_after d kind xs c) first-edition ∙ ap (λ (zs : List Float). channel_after First kind zs c) q ∙ after_as_one kind ys c

    output-is : channel_output (edition_in g) kind xs c ≡ before.channel_output kind ys c
    output-is =
        ap (λ (d : Edition). channel_output d kind xs c) first-edition ∙ ap (λ (zs : List Float). channel_output First kind zs c) q ∙ output_as_one kind ys c

  module _ (h : History) where
    left-output : channel_output (edition_in g) (left_kind g) (left_samples g) h.left ≡ before.channel_output (left_kind g) (before.left_samples g) h.left
    left-output = output-is (left_kind g) (left_samples g) left_as_one h.left

    right-output : channel_output (edition_in g) (right_kind g) (right_samples g) h.right ≡ before.channel_output (right_kind g) (before.right_samples g) h.right
    right-output = output-is (right_kind g) (right_samples g) right_as_one h.right

    history_as_one : history_after g h ≡ before.history_after g h
    unfolding history_after before.history_after
    history_as_one = rw (after_is (left_kind g) (left_samples g) left_as_one h.left, after_is (right_kind g) (right_samples g) right_as_one h.right) refl

    room_as_one : (room : List Float) → granule_room g h room ≡ before.granule_room g h room
    unfolding granule_room before.granule_room
    room_as_one room = rw (left-output, right-output) refl

    peaks_as_one : granule_peaks g h ≡ before.granule_peaks g h
    unfolding granule_peaks before.granule_peaks
    peaks_as_one = rw (left-output, right-output) refl

    refused_as_one : (n : ℕ) → first (granule_checks g h n) ≡ first (before.granule_checks g h n)
    unfolding intensity.position_refused intensity-before.position_refused
    refused_as_one n = rw e refl

pub answer_as_one : (c : Call) (h : History) → c.granule.edition ≡ 1 → answer c h ≡ before.answer c h
answer_as_one c h e =
    let g = c.granule in
    rw (refused_as_one g e h (length c.room), history_as_one g e h, room_as_one g e h c.room, peaks_as_one g e h) refl
