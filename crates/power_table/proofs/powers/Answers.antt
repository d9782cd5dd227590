-- The test of the table that the code gives. Assumes nothing.
use mathlib.Core.Path.{refl}
use mathlib.Core.List.{List}
use Prim.Native.Nat.{ℕ}
use lib.Dec.{T}
use Rattle.laws.proofs.Table.{every}
use Rattle.nearest.specs.Nearest.{units}
use Rattle.power_table.proofs.Whole.{right, table}
use Rattle.power_table.proofs.powers.Lts.{m2}
use Rattle.power_table.proofs.powers.Reads.{Pre, Post}
use Rattle.power_table.proofs.powers.Goals as goal
use Rattle.power_table.proofs.powers.Goals.{Start}

-- the table that the code gives, and the test of it
abbrev given : Start → List ℕ
given c = (m2 Pre Post c.args).0

digits : (c : Start) → T (every right 0 (given c))
unfolding right units
digits c = tt

pub returns : goal.returns
returns c = table _ (digits c) refl
