-- What the gain is lessened by is at least 210 and at most 282. Assumes nothing.
use Prim.Native.Nat.{◌+◌, ◌*◌, ◌≤◌}
use native.Mathlib.Omega.{arith}
use Rattle.requantize.proofs.Passed.{long-factor, pre-small, long-less}
use Rattle.requantize.proofs.gains.long_gain.Goals as goal
use Rattle.requantize.proofs.gains.long_gain.Goals.{After-multiplier}

less : (c : After-multiplier) → c.multiplier.result * (c.from-factor.result + c.pre.result) ≤ 72
less c = rw c.from-factor.ensures (long-less c.args.side c.requires.factors_fit c.multiplier.ensures c.args.k c.pre.ensures)

pub overflow_add-sum : goal.overflow_add-sum
overflow_add-sum c = rw c.pre.ensures (omega (arith, long-factor c.args.side c.requires.factors_fit c.args.k, pre-small c.args.side c.args.k))

pub overflow_mul-less : goal.overflow_mul-less
overflow_mul-less c = omega (arith, less (goal.at.overflow_mul-less c).After-multiplier)

pub overflow_add-less : goal.overflow_add-less
overflow_add-less c = omega (arith, less (goal.at.overflow_add-less c).After-multiplier)

pub quarters-requires : goal.quarters-requires
quarters-requires c = omega (arith, less (goal.at.quarters-requires c).After-multiplier)
