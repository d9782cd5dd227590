-- The loop's invariant: the digits from `place` on are there, and what is left of n says the ones before them. Assumes nothing.
use mathlib.Core.Path.{◌≡◌}
use Prim.Native.Nat.{◌-◌, ◌/◌, ◌^◌, ◌≤◌}
use lib.ListN.{length}
use Rattle.text.specs.Digits.{digits}
use Rattle.text.specs.Line.{stored}
use Rattle.text.proofs.put_digits.Given as goal

abbrev pub invariant-loop-place : goal.invariant-loop-place
invariant-loop-place l =
    (l.at ≤ l.place) × (l.place ≤ l.end) × (l.rest ≡ l.n / l.base ^ (l.end - l.place)) × (length l.to ≡ length l.initial.to)
    × (l.to ≡ stored (digits l.base (l.end - l.place) l.n) l.place l.initial.to)
