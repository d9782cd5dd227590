-- A whole table's rule is a test at each of its entries, which antt computes: cubes compared with fourth powers. Assumes nothing.
use mathlib.Core.Path.{◌≡◌}
use mathlib.Core.Bool.{Bool}
use mathlib.Core.List.{List}
use Prim.Native.Nat.{ℕ, ◌^◌}
use native.Mathlib.Omega.{arith}
use lib.Dec.{T}
use lib.ListN.{get_or, length}
use Rattle.laws.proofs.Table.{at_place, every}
use Rattle.nearest.proofs.Test.{near, near-finite, found}
use Rattle.power_table.specs.Power.{power, PowerTable}

unfoldable pub right : ℕ → ℕ → Bool
right n b = near 3 (n ^ 4) 1 b

-- one computed test over a table, carried to each of its entries
pub table : (xs : List ℕ) → T (every right 0 xs) → length xs ≡ 8207 → PowerTable xs
unfolding right power
table xs t e = record {
  long = omega arith;
  entry = λ n h. found 3 (n ^ 4) 1 (get_or xs n 0) (at_place 0 right xs t n (omega arith));
  number = λ n h. omega (arith, near-finite 3 (n ^ 4) 1 (get_or xs n 0) (at_place 0 right xs t n (omega arith)));
}
