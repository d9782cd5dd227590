-- The loop's invariant: the windows before `win` are done. Assumes nothing.
use Prim.Native.Nat.{◌*◌, ◌/◌, ◌≤◌}
use Rattle.laws.proofs.Lists.{Filling}
use Rattle.powers.specs.Powers.{gain, product}
use Rattle.requantize.specs.Requantize.{number_at, short_quarters}
use Rattle.requantize.proofs.fill.short_windows.Given as goal

abbrev pub invariant-loop-win : goal.invariant-loop-win
invariant-loop-win l =
    (l.win ≤ 3) × Filling l.initial.out (λ i. product (number_at l.numbers i) (gain (short_quarters l.side l.k (i / l.width)))) (l.win * l.width) l.out
