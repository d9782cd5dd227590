-- The second part of the table: the powers from 4104 on, behind that of 1. Assumes nothing.
use mathlib.Core.Path.{◌≡◌}
use mathlib.Core.List.{List, [], ◌∷◌, ◌++◌, append-nil}
use Prim.Native.Nat.{ℕ, zero, suc, ◌+◌, ◌-◌, ◌<◌}
use native.Mathlib.Omega.{arith}
use lib.ListN.{length, get_or}
use Rattle.laws.proofs.Parts.{part, part_length, part_at}
use Rattle.power_table.specs.Power.{HighTable, PowerTable}

module _ {all ys : List ℕ} (p : PowerTable all) (e : ys ≡ part 4104 8207 all) where
  long : length ys ≡ 4103
  long = rw e (part_length 4104 8207 all (omega (arith, p.long)))

  same : (k : ℕ) → k < 4103 → get_or ys k 0 ≡ get_or all (4104 + k) 0
  same k h = rw e (part_at 4104 8207 all k 0 h)

  behind : HighTable (get_or all 1 0 ∷ ys)
  behind = record {
    long = omega (arith, long);
    one = p.entry 1 (omega arith);
    entry = λ n l h.
        let next : n - 4103 ≡ suc (n - 4104) = omega arith in
        let back : 4104 + (n - 4104) ≡ n = omega arith in
        rw (next, same (n - 4104) (omega arith), back) (p.entry n h);
    number = number;
  }
    where
      number : (k : ℕ) → k < 4104 → get_or (get_or all 1 0 ∷ ys) k 0 < 0x7f80_0000
      number zero h = p.number 1 (omega arith)
      number (suc k) h = rw (same k (omega arith)) (p.number (4104 + k) (omega arith))

  pub second : HighTable (get_or all 1 0 ∷ (ys ++ []))
  second = rw append-nil behind
