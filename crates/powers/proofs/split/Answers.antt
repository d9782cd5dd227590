-- `powers::split` meets its contract: the shift rounds down, and what is left over is from 0 to 3.
-- Assumes nothing.
use mathlib.Core.Path.{refl}
use native.Mathlib.Omega.{arith}
use lib.IntN.{pos, ◌*ℤ◌}
use lib.Signed.{shr_z}
use mir.Syntax.{w32}
use mir.ValLaws.{to_z-of_z}
use Rattle.powers.specs.Quarters.{rest}
use Rattle.powers.proofs.Floor.{rest-small, fits-quarter, fits_four, left_over, same-quarter, rest-fits}
use Rattle.powers.proofs.split.Goals as goal

pub overflow_cast-result : goal.overflow_cast-result
overflow_cast-result c =
    let q = c.args.q in
    let h = c.ranges.q in
    simp (to_z-of_z w32 q h, to_z-of_z w32 (shr_z q 4) (fits-quarter q h), to_z-of_z w32 (pos 4 *ℤ shr_z q 4) (fits_four q h), left_over q, to_z-of_z w32 (pos (rest q)) (rest-fits q)) (tt, omega (arith, rest-small q))

pub returns : goal.returns
returns c =
    let q = c.args.q in
    let h = c.ranges.q in
    simp (to_z-of_z w32 q h, to_z-of_z w32 (shr_z q 4) (fits-quarter q h), to_z-of_z w32 (pos 4 *ℤ shr_z q 4) (fits_four q h), left_over q, to_z-of_z w32 (pos (rest q)) (rest-fits q)) (same-quarter q, refl)
