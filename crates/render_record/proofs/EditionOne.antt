-- A record rendered at edition 1 is answered as before there were editions. Assumes nothing.
use mathlib.Core.Path.{◌≡◌, refl}
use mathlib.Core.List.{List}
use Prim.Native.Nat.{ℕ}
use lib.Ieee.{Float}
use Rattle.history.specs.declared.History.{History}
use Rattle.backend.specs.Calls.{lent}
use Rattle.backend.proofs.EditionOne.{answer_as_one}
use Rattle.records.specs.Record.{granule_at}
use Rattle.render_record.specs.RecordAnswer.{record_answer}
use Rattle.render_record.specs.EditionOne as before

pub record_as_one : (s : List ℕ) (room : List Float) (h : History) → record_answer 1 s room h ≡ before.record_answer s room h
unfolding granule_at
record_as_one s room h = rw (answer_as_one (lent (granule_at 1 s) room) h refl) refl
