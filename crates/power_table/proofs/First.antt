-- The first part of the table: the powers of 0 to 4103. Assumes nothing.
use mathlib.Core.Path.{◌≡◌, ap, ◌∙◌}
use mathlib.Core.List.{List}
use Prim.Native.Nat.{ℕ, ◌<◌}
use native.Mathlib.Nat.{zero-add}
use native.Mathlib.Omega.{arith}
use lib.ListN.{get_or}
use Rattle.laws.proofs.Parts.{part, part_length, part_at}
use Rattle.power_table.specs.Power.{LowTable, PowerTable}

pub first : (all : List ℕ) {low : List ℕ} → low ≡ part 0 4104 all → PowerTable all → LowTable low
first all {low} e p = record {
  long = rw e (part_length 0 4104 all (omega (arith, p.long)));
  entry = λ n h. rw (same n h) (p.entry n (omega arith));
  number = λ n h. rw (same n h) (p.number n (omega arith));
}
  where
    same : (n : ℕ) → n < 4104 → get_or low n 0 ≡ get_or all n 0
    same n h = rw e (part_at 0 4104 all n 0 h) ∙ ap (λ (k : ℕ). get_or all k 0) (zero-add n)
