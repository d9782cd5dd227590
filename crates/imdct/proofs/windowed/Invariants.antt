-- The loop fills the array from the front. Assumes nothing.
use Prim.Native.Nat.{◌≤◌}
use lib.Ieee.{mul, binary32}
use Rattle.laws.specs.Lists.{at}
use Rattle.laws.proofs.Lists.{Fills}
use Rattle.imdct.proofs.windowed.Given as goal

abbrev pub invariant-loop-p : goal.invariant-loop-p
invariant-loop-p g l = (l.p ≤ g.row.N) × Fills g.row.N (λ k. mul binary32 (at l.sums k) (at l.window k)) l.p l.places
