-- A record rendered as it was before there were editions; the granule that it says names edition 1, which the definitions of before do not look at. Assumes nothing.
use Rattle.std.specs.Prelude.{List, [], ◌∷◌, ℕ, ltb, length, Float}
use Rattle.laws.specs.Checks.{Check, check, first, afterwards}
use Rattle.history.specs.declared.History.{History}
use Rattle.backend.specs.Calls.{lent, Answer, refusing}
use Rattle.backend.specs.EditionOne.{answer}
use Rattle.records.specs.Fields.{wrong_count}
use Rattle.records.specs.Record.{granule_at, wrong_byte}

abbrev pub record_checks : List ℕ → List Check
record_checks s = check 13 (ltb (length s) 2448) ∷ check 1 (wrong_count s) ∷ check 12 (wrong_byte s) ∷ []

-- the bytes s, the room's contents and the history
abbrev pub record_answer : List ℕ → List Float → History → Answer
record_answer s room h = let k = first (record_checks s) in afterwards k (refusing k room h) (answer (lent (granule_at 1 s) room) h)
