-- The counts stay small: at most 1 other answer and 1,602 places a case. Assumes nothing.
use Rattle.std.proofs.Common.{◌≤◌, ◌*◌}
use Rattle.replay_stages.proofs.section.Given as goal

abbrev pub invariant-loop : goal.invariant-loop
invariant-loop g l = record {
  few_otherwise : l.otherwise ≤ l.counter;
  few_differ : l.differ ≤ 1602 * l.counter;
}
