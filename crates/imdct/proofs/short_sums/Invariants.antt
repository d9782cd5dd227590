-- The loop's invariant: each of the four sums has its first m products. Assumes nothing.
use Prim.Native.Nat.{◌+◌, ◌≤◌}
use Rattle.laws.proofs.Sums.{Sums}
use Rattle.imdct.specs.Imdct.{short_term}
use Rattle.imdct.proofs.short_sums.Given as goal

abbrev pub invariant-loop-m : goal.invariant-loop-m
invariant-loop-m l = (l.m ≤ 6) × Sums 4 (λ p. short_term l.s l.i (l.from + p)) l.m l.sums
