-- There are four kinds of window. Assumes nothing.
use mathlib.Core.Bool.{Bool, true, false, cond}
use Prim.Native.Nat.{ℕ, ◌<◌}
use native.Mathlib.Omega.{arith}
use lib.Dec.{ltb}
use Rattle.side_info.specs.declared.BlockType.{BlockType}
use Rattle.side_info.specs.declared.BlockType.TheVariants.{Long, Short, Mixed, Start, End}
use Rattle.hybrid.specs.Hybrid.{window_kind}

pub kind-small : (kind : BlockType) (sb : ℕ) → window_kind kind sb < 4
kind-small Long sb = omega arith
kind-small Start sb = omega arith
kind-small Short sb = omega arith
kind-small End sb = omega arith
kind-small Mixed sb = go (ltb sb 2)
  where
    go : (b : Bool) → cond b 0 2 < 4
    go true = omega arith
    go false = omega arith
