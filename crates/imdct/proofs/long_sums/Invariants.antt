-- The loop's invariant: each of the 18 sums has its first m products. Assumes nothing.
use Prim.Native.Nat.{◌≤◌}
use Rattle.laws.proofs.Sums.{Sums}
use Rattle.imdct.specs.Imdct.{long_term}
use Rattle.imdct.specs.Halves.{half_place}
use Rattle.imdct.proofs.long_sums.Given as goal

abbrev pub invariant-loop-m : goal.invariant-loop-m
invariant-loop-m l = (l.m ≤ 18) × Sums 18 (λ p. long_term l.s (half_place p)) l.m l.sums
