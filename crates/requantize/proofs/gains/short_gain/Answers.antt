-- What the gain is lessened by is at least 210 and at most 326. Assumes nothing.
use Prim.Native.Nat.{◌+◌, ◌*◌, ◌≤◌}
use native.Mathlib.Omega.{arith}
use Rattle.requantize.proofs.Passed.{short-less, subblock}
use Rattle.requantize.proofs.gains.short_gain.Goals as goal

pub quarters-requires : goal.quarters-requires
quarters-requires c =
    let side = c.args.side in
    let less : c.multiplier.result * c.from-factor.result ≤ 60 = rw c.from-factor.ensures (short-less side c.requires.factors_fit c.multiplier.ensures (3 * c.args.k + c.args.win)) in
    omega (arith, less, subblock side c.requires.gains_fit c.args.win)
