-- Each place that was passed is a pair that was looked at, and no more of them break the rule. Assumes nothing.
use Rattle.std.proofs.Common.{◌≡◌, ◌+◌, ◌≤◌}
use Rattle.window_rule.proofs.count.Given as goal

abbrev pub invariant-loop-i : goal.invariant-loop-i
invariant-loop-i l = (l.pairs + 1 ≡ l.i) × (l.broken ≤ l.pairs)
