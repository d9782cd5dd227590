-- The loop's invariant: the highest level of the outputs passed. Assumes nothing.
use mathlib.Core.Path.{◌≡◌}
use Prim.Native.Nat.{◌≤◌}
use Rattle.laws.specs.Largest.{largest}
use Rattle.laws.specs.Lists.{at}
use Rattle.synthesis.specs.Synthesis.{level}
use Rattle.synthesis.proofs.highest_level.Given as goal

abbrev pub invariant-loop-output : goal.invariant-loop-output
invariant-loop-output l = (l.output-index ≤ 576) × (l.highest ≡ largest l.output-index (λ k. level (at l.outputs k)))
