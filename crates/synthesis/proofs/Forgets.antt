-- Synthesis forgets: n slots fill the first n of the sixteen blocks, each by one slot's samples alone, so sixteen fill it all. Over any histories and any number of slots. Assumes nothing.
use mathlib.Core.Path.{◌≡◌, sym, ◌∙◌}
use mathlib.Core.List.{List}
use Prim.Native.Nat.{ℕ, ◌+◌, ◌-◌, ◌*◌, ◌/◌, ◌%◌, ◌<◌, ◌≤◌}
use native.Mathlib.Omega.{arith}
use lib.ListN.{length}
use lib.Seq.{ext_get_or}
use lib.Ieee.{Float, nan}
use Rattle.laws.specs.Lists.{at}
use Rattle.matrixing.specs.Matrixing.{slot_samples, matrixed}
use Rattle.synthesis.specs.Synthesis.{blocks_after, output_at}
use Rattle.synthesis.proofs.Blocks.{blocks-long, blocks-new}

-- block b of those after n slots is the matrixing of slot n - 1 - b
pub block-is : (xs v : List Float) (n b i : ℕ) → b < n → b < 16 → i < 64 → at (blocks_after xs v n) (64 * b + i) ≡ at (matrixed (slot_samples xs (n - 1 - b))) i
block-is xs v n b i h k l =
    let d : (64 * b + i) / 64 ≡ b = omega arith in
    let m : (64 * b + i) % 64 ≡ i = omega arith in
    rw (d, m) at (blocks-new xs v n (64 * b + i) (omega arith) (omega arith))

module _ (xs v v' : List Float) where
  -- the first 64n places no longer know what the blocks were
  pub forgets : (n i : ℕ) → i < 64 * n → i < 1024 → at (blocks_after xs v n) i ≡ at (blocks_after xs v' n) i
  forgets n i h k = blocks-new xs v n i h k ∙ sym (blocks-new xs v' n i h k)

  -- after sixteen slots none does
  pub same_blocks : (n : ℕ) → 16 ≤ n → blocks_after xs v n ≡ blocks_after xs v' n
  same_blocks n h =
      let long : length (blocks_after xs v n) ≡ 1024 = blocks-long xs v n (omega arith) in
      ext_get_or nan (blocks_after xs v n) (blocks_after xs v' n) (long ∙ sym (blocks-long xs v' n (omega arith))) (λ i k. forgets n i (omega arith) (omega arith))

  -- so the outputs from slot 15 on, places 480 to 575, are the same
  pub same_outputs : (p : ℕ) → 480 ≤ p → output_at xs v p ≡ output_at xs v' p
  same_outputs p h = rw (same_blocks (p / 32 + 1) (omega arith))
