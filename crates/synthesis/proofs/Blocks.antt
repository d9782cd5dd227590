-- What the blocks hold after n slots: in front the blocks of the last slots, the newest first, and after them the history that was, moved up by 64n. Assumes nothing.
use mathlib.Core.Path.{◌≡◌, ap, ◌∙◌}
use mathlib.Core.List.{List}
use Prim.Native.Nat.{ℕ, zero, suc, ◌+◌, ◌-◌, ◌*◌, ◌/◌, ◌%◌, ◌<◌, ◌≤◌}
use native.Mathlib.Decide.{dec_lt}
use native.Mathlib.Omega.{arith}
use borrow.Author.Tests.{lt-ltb, le-ltb}
use lib.ListN.{length}
use lib.Ieee.{Float, nan, binary32, mul}
use Rattle.laws.specs.Lists.{at}
use Rattle.laws.proofs.Lists.{length-tab, get_d_tab}
use Rattle.laws.proofs.Sum.{sum_same}
use Rattle.synthesis_tables.specs.Window.{window}
use Rattle.matrixing.specs.Matrixing.{slot_samples, matrixed}
use Rattle.synthesis.specs.Synthesis.{pushed_at, pushed, gathered, windowed_at, slot_output, blocks_after}
use Rattle.synthesis.proofs.Gathered.{gathered-row}

-- ---- one slot

module _ (s v : List Float) where
  push_front : (i : ℕ) → i < 64 → at (pushed s v) i ≡ at (matrixed s) i
  unfolding pushed
  push_front i h = get_d_tab 1024 (pushed_at (matrixed s) v) i nan (omega arith) ∙ rw (lt-ltb i 64 h)

  push_back : (i : ℕ) → 64 ≤ i → i < 1024 → at (pushed s v) i ≡ at v (i - 64)
  unfolding pushed
  push_back i h k = get_d_tab 1024 (pushed_at (matrixed s) v) i nan k ∙ rw (le-ltb i 64 h)

  push_long : length (pushed s v) ≡ 1024
  unfolding pushed
  push_long = length-tab 1024 (pushed_at (matrixed s) v)

-- ---- n slots, from any list

module _ (xs v : List Float) where
  pub blocks-long : (n : ℕ) → 0 < n → length (blocks_after xs v n) ≡ 1024
  unfolding blocks_after
  blocks-long zero h = absurd (omega arith)
  blocks-long (suc n) h = push_long (slot_samples xs n) (blocks_after xs v n)

  -- the block in front is slot n - 1's
  pub blocks-new : (n i : ℕ) → i < 64 * n → i < 1024 → at (blocks_after xs v n) i ≡ at (matrixed (slot_samples xs (n - 1 - i / 64))) (i % 64)
  unfolding blocks_after
  blocks-new zero i h k = absurd (omega arith)
  blocks-new (suc n) i h k = split (dec_lt i 64) (blocks-new n (i - 64))
    where
      split : Dec (i < 64)
          → (i - 64 < 64 * n → i - 64 < 1024 → at (blocks_after xs v n) (i - 64) ≡ at (matrixed (slot_samples xs (n - 1 - (i - 64) / 64))) ((i - 64) % 64))
          → at (pushed (slot_samples xs n) (blocks_after xs v n)) i ≡ at (matrixed (slot_samples xs (suc n - 1 - i / 64))) (i % 64)
      split (yes q) r =
          let slot : suc n - 1 - i / 64 ≡ n = omega arith in
          let place : i % 64 ≡ i = omega arith in
          rw (slot, place) (push_front (slot_samples xs n) (blocks_after xs v n) i q)
      split (no q) r =
          let slot : suc n - 1 - i / 64 ≡ n - 1 - (i - 64) / 64 = omega arith in
          let place : i % 64 ≡ (i - 64) % 64 = omega arith in
          rw (slot, place) (push_back (slot_samples xs n) (blocks_after xs v n) i (omega arith) k ∙ r (omega arith) (omega arith))

  pub blocks-old : (n i : ℕ) → 64 * n ≤ i → i < 1024 → at (blocks_after xs v n) i ≡ at v (i - 64 * n)
  unfolding blocks_after
  blocks-old zero i h k = let e : i - 64 * 0 ≡ i = omega arith in rw e
  blocks-old (suc n) i h k =
      let e : i - 64 - 64 * n ≡ i - 64 * suc n = omega arith in
      push_back (slot_samples xs n) (blocks_after xs v n) i (omega arith) k ∙ blocks-old n (i - 64) (omega arith) (omega arith) ∙ ap (at v) e

-- ---- a slot's outputs look at the 1,024 places alone

pub same_slot : (a b : List Float) → ((i : ℕ) → i < 1024 → at a i ≡ at b i) → (k : ℕ) → k < 32 → slot_output a k ≡ slot_output b k
unfolding slot_output
same_slot a b e k h =
    sum_same 16 (λ j. windowed_at a (32 * j + k)) (λ j. windowed_at b (32 * j + k))
    (λ j q. ap (λ (x : Float). mul binary32 x (at window (32 * j + k))) (e (gathered (32 * j + k)) (rw (gathered-row j k h) (omega arith))))
