-- The queue of all blocks as it is made: the newest in front, and after them the lent blocks. Assumes nothing.
use mathlib.Core.Path.{◌≡◌, sym}
use mathlib.Core.List.{List, ◌++◌}
use Prim.Native.Nat.{ℕ, ◌+◌, ◌-◌, ◌*◌, ◌/◌, ◌%◌, ◌<◌}
use native.Mathlib.Omega.{arith}
use lib.ListN.{take, drop, length-drop}
use lib.Ieee.{Float, nan}
use Rattle.laws.specs.Lists.{at, tab}
use Rattle.laws.proofs.Lists.{cover_all, get_d_tab, Fills}
use Rattle.laws.proofs.Parts.{fills_run}
use Rattle.matrixing.specs.Matrixing.{slot_samples, matrixed_at, matrixed}

-- block b of the queue is that of slot 17 - b
abbrev pub blocks_at : List Float → ℕ → Float
blocks_at xs q = at (matrixed (slot_samples xs (17 - q / 64))) (q % 64)

block_at : (xs : List Float) (b i : ℕ) → i < 64 → matrixed_at (slot_samples xs (17 - b)) i ≡ blocks_at xs (64 * b + i)
unfolding matrixed
block_at xs b i h =
    let d : (64 * b + i) / 64 ≡ b = omega arith in
    let m : (64 * b + i) % 64 ≡ i = omega arith in
    rw (d, m) (sym (get_d_tab 64 (matrixed_at (slot_samples xs (17 - b))) i nan h))

-- as the queue is made: block b comes back as the part from 64b on
pub queue_more :
    (xs : List Float) (b : ℕ) {l ys : List Float} → Fills 2176 (blocks_at xs) (64 * b) l → b < 18 → ys ≡ tab 64 (matrixed_at (slot_samples xs (17 - b)))
    → Fills 2176 (blocks_at xs) (64 * (b + 1)) (take (64 * b) l ++ (ys ++ drop (64 * b + 64 - 64 * b) (drop (64 * b) l)))
queue_more xs b {l} {ys} w h is =
    let next : 64 * (b + 1) ≡ 64 * b + 64 = omega arith in
    let width : 64 * b + 64 - 64 * b ≡ 64 = omega arith in
    rw next (fills_run {ys = ys} (64 * b) (64 * b + 64) w (omega arith) (omega arith) (rw width is) (λ i k. block_at xs b i (omega arith)))

-- and then the lent blocks are copied to the part that is left
pub queue_made :
    (xs v : List Float) {l ys : List Float} → Fills 2176 (blocks_at xs) 1152 l → ys ≡ v → take 1152 l ++ (ys ++ drop 1024 (drop 1152 l)) ≡ tab 1152 (blocks_at xs) ++ v
queue_made xs v {l} {ys} w e =
    let none = cover_all ys 1024 (drop 1152 l) (simp length-drop (omega (arith, w.long))) in
    rw (w.done, none, e)
