-- What a record answers, in its two cases: refused for itself, and what its granule answers. Both are by one list of checks. Assumes nothing.
use mathlib.Core.Path.{◌≡◌, sym, ap}
use mathlib.Core.List.{List, ◌++◌}
use Prim.Native.Nat.{ℕ}
use native.Mathlib.Decide.{ℕ_discrete}
use borrow.Author.Tests.{ne_eqb}
use lib.ListN.{length}
use lib.Ieee.{Float}
use Rattle.laws.specs.Checks.{Check, first, afterwards}
use Rattle.laws.proofs.Checks.{none-answered, first_passes, first-fails}
use Rattle.history.specs.declared.History.{History}
use Rattle.granule.specs.Granule.{granule_checks}
use Rattle.backend.specs.Calls.{lent, Answer, refusing, rendering, answer}
use Rattle.records.specs.Record.{record_checks, granule_at}
use Rattle.render_record.specs.RecordAnswer.{record_answer}

module _ (n : ℕ) (s : List ℕ) (room : List Float) (h : History) where
  pub record-refused : {k : ℕ} → k ≡ first (record_checks n s) → (k ≡ 0 → ⊥) → refusing k room h ≡ record_answer n s room h
  record-refused {k} e z = rw (← e, ne_eqb k 0 z)

  pub record-taken : first (record_checks n s) ≡ 0 → answer (lent (granule_at n s) room) h ≡ record_answer n s room h
  record-taken e = rw e

  -- the record's checks and then the granule's are one list, whose first failing check answers
  pub one_list :
      let k = first (record_checks n s ++ granule_checks (granule_at n s) h (length room)) in
      record_answer n s room h ≡ afterwards k (refusing k room h) (rendering (lent (granule_at n s) room) h)
  one_list = split (ℕ_discrete (first (record_checks n s)) 0)
    where
      rest : List Check
      rest = granule_checks (granule_at n s) h (length room)

      by : ℕ → Answer
      by k = afterwards k (refusing k room h) (rendering (lent (granule_at n s) room) h)

      split : Dec (first (record_checks n s) ≡ 0) → record_answer n s room h ≡ by (first (record_checks n s ++ rest))
      split (yes z) = rw z (ap by (sym (first_passes (none-answered (record_checks n s) tt z) rest)))
      split (no z) = rw (first-fails (record_checks n s) rest z, ne_eqb (first (record_checks n s)) 0 z)
