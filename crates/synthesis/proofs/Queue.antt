-- The queue of all blocks, the newest in front and the lent blocks after them: the blocks after each slot are a part of it. Assumes nothing.
use mathlib.Core.Path.{◌≡◌, sym, ap, ◌∙◌}
use mathlib.Core.List.{List, ◌++◌}
use Prim.Native.Nat.{ℕ, ◌+◌, ◌-◌, ◌*◌, ◌/◌, ◌%◌, ◌<◌, ◌≤◌}
use native.Mathlib.Decide.{dec_lt}
use native.Mathlib.Omega.{arith}
use lib.ListN.{length, take, drop, length-append, get_or-append}
use lib.Seq.{length-take-le, get_or-append-add, get_or-take, get_or-drop, ext_get_or}
use lib.Ieee.{Float, nan}
use Rattle.laws.specs.Lists.{at, tab, filled}
use Rattle.laws.proofs.Lists.{length-tab, get_d_tab, tab-same}
use Rattle.matrixing.proofs.Queue.{blocks_at}
use Rattle.synthesis.specs.Synthesis.{slot_output, blocks_after, output_at, synthesized}
use Rattle.synthesis.proofs.Blocks.{blocks-long, blocks-new, blocks-old, same_slot}

module _ (xs v : List Float) where
  -- the new blocks, and after them the lent ones
  abbrev pub queued : List Float
  queued = tab 1152 (blocks_at xs) ++ v

  -- the blocks after n slots stand from block 18 - n on
  queue_part : (n i : ℕ) → n ≤ 18 → i < 1024 → at queued (64 * (18 - n) + i) ≡ at (blocks_after xs v n) i
  queue_part n i h k = split (dec_lt i (64 * n))
    where
      split : Dec (i < 64 * n) → at queued (64 * (18 - n) + i) ≡ at (blocks_after xs v n) i
      split (yes q) =
          let slot : 17 - (64 * (18 - n) + i) / 64 ≡ n - 1 - i / 64 = omega arith in
          let place : (64 * (18 - n) + i) % 64 ≡ i % 64 = omega arith in
          get_or-append (tab 1152 (blocks_at xs)) v nan (64 * (18 - n) + i) (rw length-tab (omega arith))
          ∙ get_d_tab 1152 (blocks_at xs) (64 * (18 - n) + i) nan (omega arith)
          ∙ rw (slot, place) (sym (blocks-new xs v n i q k))
      split (no q) =
          let e : 64 * (18 - n) + i ≡ length (tab 1152 (blocks_at xs)) + (i - 64 * n) = omega (arith, length-tab 1152 (blocks_at xs)) in
          ap (at queued) e ∙ get_or-append-add (tab 1152 (blocks_at xs)) v (i - 64 * n) nan ∙ sym (blocks-old xs v n i (omega arith) k)

  -- as the part of the queue that is lent for the slot's outputs
  part_at : (n i : ℕ) → n ≤ 18 → i < 1024 → at (drop (64 * (18 - n)) queued) i ≡ at (blocks_after xs v n) i
  part_at n i h k = get_or-drop (64 * (18 - n)) queued i nan ∙ queue_part n i h k

  output-at : (p : ℕ) → p < 576 → slot_output (drop (64 * (17 - p / 32)) queued) (p % 32) ≡ output_at xs v p
  output-at p h =
      let s : 17 - p / 32 ≡ 18 - (p / 32 + 1) = omega arith in
      rw s (same_slot (drop (64 * (18 - (p / 32 + 1))) queued) (blocks_after xs v (p / 32 + 1)) (λ i k. part_at (p / 32 + 1) i (omega arith) k) (p % 32) (omega arith))

  module _ {queue last : List Float} (e : queue ≡ queued) where
    -- the outputs that the queue's parts give are the stage's
    pub queue_outputs : (room : List Float) → last ≡ filled 576 (λ p. slot_output (drop (64 * (17 - p / 32)) queue) (p % 32)) room → last ≡ synthesized xs v room
    queue_outputs room d = d ∙ rw (e, tab-same 576 (λ p. slot_output (drop (64 * (17 - p / 32)) queued) (p % 32)) (output_at xs v) output-at)

    -- the blocks after the last slot stand in front
    pub queue_end : length v ≡ 1024 → last ≡ take 1024 queue → last ≡ blocks_after xs v 18
    queue_end h d =
        let long : length (take 1024 queued) ≡ 1024 = length-take-le 1024 queued (simp (length-append, length-tab) (omega arith)) in
        let front : take 1024 queued ≡ blocks_after xs v 18 =
        ext_get_or nan (take 1024 queued) (blocks_after xs v 18) (long ∙ sym (blocks-long xs v 18 (omega arith)))
        (λ i k. get_or-take 1024 queued i nan (omega (arith, long)) ∙ part_at 18 i (omega arith) (omega (arith, long))) in
        d ∙ rw (e, front)
