-- The loop's invariant: the digits counted, and those of what is left, are one more than those of n, since a digit is always left. Assumes nothing.
use mathlib.Core.Path.{◌≡◌}
use Prim.Native.Nat.{◌+◌, ◌-◌, ◌^◌, ◌<◌, ◌≤◌}
use Rattle.text.specs.Digits.{digit_count_to, digit_count}
use Rattle.text.proofs.digit_count.Given as goal

abbrev pub invariant-loop-rest : goal.invariant-loop-rest
invariant-loop-rest l = (0 < l.count) × (l.count ≤ 20) × (l.rest < 10 ^ (21 - l.count)) × (l.count + digit_count_to (20 - l.count) l.rest ≡ digit_count l.n + 1)

abbrev pub decreases-loop-rest : goal.decreases-loop-rest
decreases-loop-rest l = l.rest
