-- The powers from the middle on are tested as those of the large table are, and each one before it against the one as far behind. Assumes nothing.
use mathlib.Core.Path.{◌≡◌, refl}
use mathlib.Core.Bool.{Bool}
use mathlib.Core.List.{List}
use Prim.Native.Nat.{ℕ, ◌+◌, ◌-◌, ◌^◌}
use native.Mathlib.Omega.{arith}
use lib.Dec.{T, eqb, eqb→eq}
use lib.ListN.{get_or, length}
use Rattle.laws.proofs.Places.{along, along-at}
use Rattle.nearest.specs.Nearest.{units}
use Rattle.nearest.proofs.Test.{near, near-finite, found}
use Rattle.power_table.specs.Power.{power, SignedTable}
use Rattle.power_table.proofs.signed_powers.Lts.{m2}
use Rattle.power_table.proofs.signed_powers.Reads.{Pre, Post}
use Rattle.power_table.proofs.signed_powers.Goals as goal
use Rattle.power_table.proofs.signed_powers.Goals.{Start}

right : List ℕ → ℕ → Bool
right xs n = near 3 (n ^ 4) 1 (get_or xs (255 + n) 0)

turned : List ℕ → ℕ → Bool
turned xs n = eqb (get_or xs (255 - n) 0) (0x8000_0000 + get_or xs (255 + n) 0)

-- the two tests of a table, carried to each of its entries
table : (xs : List ℕ) → T (along 0 256 (right xs)) → T (along 1 255 (turned xs)) → length xs ≡ 511 → SignedTable xs
unfolding right turned power
table xs t u e = record {
  long = omega arith;
  entry = λ n h. found 3 (n ^ 4) 1 (get_or xs (255 + n) 0) (along-at 256 0 (right xs) t n (omega arith) (omega arith));
  number = λ n h. omega (arith, near-finite 3 (n ^ 4) 1 (get_or xs (255 + n) 0) (along-at 256 0 (right xs) t n (omega arith) (omega arith)));
  opposite = λ n l h. eqb→eq (get_or xs (255 - n) 0) (0x8000_0000 + get_or xs (255 + n) 0) (along-at 255 1 (turned xs) u n (omega arith) (omega arith));
}

-- the table that the code gives, and the tests of it
abbrev given : Start → List ℕ
given c = (m2 Pre Post c.args).0

digits : (c : Start) → T (along 0 256 (right (given c)))
unfolding right units
digits c = tt

signs : (c : Start) → T (along 1 255 (turned (given c)))
unfolding turned
signs c = tt

pub returns : goal.returns
returns c = table _ (digits c) (signs c) refl
