-- What a record leaves as it was: a channel whose outputs it did not write keeps its history. Assumes nothing.
use mathlib.Core.Path.{◌≡◌, refl}
use mathlib.Core.Bool.{Bool, true, false, cond}
use mathlib.Core.List.{List}
use Prim.Native.Nat.{ℕ, ◌<◌}
use native.Mathlib.Omega.{arith}
use lib.Dec.{eqb}
use lib.Ieee.{Float}
use Rattle.laws.specs.Checks.{first}
use Rattle.history.specs.declared.History.{History}
use Rattle.granule.specs.Granule.{two}
use Rattle.backend.specs.Whole.{history_after}
use Rattle.backend.specs.Calls.{Call, lent, Answer, refusing, rendering, refusal_of, answer}
use Rattle.records.specs.Record.{record_checks, granule_at}
use Rattle.render_record.specs.RecordAnswer.{record_answer, Unwritten}

module _ (h : History) where
  either : (none : Bool) {a b : Answer} → Unwritten a h → Unwritten b h → Unwritten (cond none b a) h
  either true p q = q
  either false p q = p

  refused-stays : (k : ℕ) (room : List Float) → Unwritten (refusing k room h) h
  refused-stays k room = record { left_stays = λ _. refl; right_stays = λ _. refl }

  rendered-stays : (c : Call) → Unwritten (rendering c h) h
  unfolding history_after
  rendered-stays c = record { left_stays = λ below. absurd (some_written (two c.granule) below); right_stays = λ below. rw (one-channel (two c.granule) below) }
    where
      some_written : (both : Bool) → cond both 1152 576 < 576 → ⊥
      some_written true below = omega arith
      some_written false below = omega arith

      one-channel : (both : Bool) → cond both 1152 576 < 1152 → both ≡ false
      one-channel true below = absurd (omega arith)
      one-channel false below = refl

  answer-stays : (c : Call) → Unwritten (answer c h) h
  answer-stays c = either (eqb (refusal_of c h) 0) (refused-stays (refusal_of c h) c.room) (rendered-stays c)

pub record-stays : (n : ℕ) (s : List ℕ) (room : List Float) (h : History) → Unwritten (record_answer n s room h) h
record-stays n s room h = either h (eqb (first (record_checks n s)) 0) (refused-stays h (first (record_checks n s)) room) (answer-stays h (lent (granule_at n s) room))
