-- A record writes no more outputs than the room holds: one channel or two, refused or not. Assumes nothing.
use Rattle.std.proofs.Common.{◌≡◌, ℕ, ◌≤◌, Bool, true, false, cond, List, arith, length, Result, Ok, Err, IfOk}
use Rattle.std.specs.Prelude.{eqb}
use Rattle.std.specs.Float.Ieee.{Float}
use Rattle.laws.specs.Checks.{first, afterwards}
use Rattle.history.specs.declared.History.{History}
use Rattle.granule.specs.Granule.{two}
use Rattle.refusals.specs.declared.Refusal.{Refusal}
use Rattle.backend.specs.declared.Told.{Told}
use Rattle.backend.specs.Calls.{lent, told_answer, Answer, refusing, rendering, refusal_of, answer}
use Rattle.records.specs.Record.{record_checks, granule_at}
use Rattle.render_record.specs.RecordAnswer.{record_answer}
use Rattle.render.proofs.main.Goals as goal

abbrev Fits : Answer → Type 0
Fits a = a.reply.written ≤ 1152

channels : (b : Bool) → cond b 1152 576 ≤ 1152
channels true = omega arith
channels false = omega arith

either : (k : ℕ) (x y : Answer) → Fits x → Fits y → Fits (afterwards k x y)
either k x y p q = elim (eqb k 0) as (λ (b : Bool). Fits (cond b y x)) [ true ↦ q | false ↦ p ]

record_fits : (s : List ℕ) (room : List Float) (h : History) {a : Answer} → a ≡ record_answer 1 s room h → Fits a
record_fits s room h e =
    let c = lent (granule_at 1 s) room in
    let rendered = either (refusal_of c h) (refusing (refusal_of c h) room h) (rendering c h) (omega arith) (channels (two c.granule)) in
    rw e (either (first (record_checks 1 s)) (refusing (first (record_checks 1 s)) room h) (answer c h) (omega arith) rendered)

-- so it is of what is told, where it is no refusal
told_fits : (r : Result Told Refusal) (h : History) (room : List Float) → Fits (told_answer r h room) → 1152 ≤ length room → IfOk r (λ t. (t.written ≤ 1152) × (t.written ≤ length room))
told_fits (Ok t) h room fits enough = (fits, omega arith)
told_fits (Err k) h room fits enough = tt

pub tell-requires : goal.tell-requires
tell-requires c =
    let r = c.render_in_place-answer in
    told_fits r.result r.new.h r.new.out (record_fits c.next_record.new.bytes c.loop-n.room c.loop-n.h r.ensures) (omega arith)
