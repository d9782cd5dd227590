-- A record rendered: its own refusals, and then what a call with the granule that it says answers. Assumes nothing.
use Rattle.std.specs.Prelude.{◌≡◌, List, ℕ, ◌<◌, Float}
use Rattle.laws.specs.Checks.{first, afterwards}
use Rattle.history.specs.declared.History.{History}
use Rattle.backend.specs.Calls.{lent, Answer, refusing, answer}
use Rattle.records.specs.Record.{record_checks, granule_at}

-- the edition n, the bytes s, the room's contents and the history
abbrev pub record_answer : ℕ → List ℕ → List Float → History → Answer
record_answer n s room h = let k = first (record_checks n s) in afterwards k (refusing k room h) (answer (lent (granule_at n s) room) h)

-- the same in place: the number answered, and what stands in the history, in the room and in the memory lent for each peak afterwards
pub record InPlace (a : Answer) (number : ℕ) (history : History) (room : List Float) (left right : ℕ) : Type 0 where
  pub answers : number ≡ a.reply.number
  pub leaves : history ≡ a.history
  pub fills : room ≡ a.reply.room
  pub left_peak : left ≡ a.reply.peaks.left
  pub right_peak : right ≡ a.reply.peaks.right

-- what an answer leaves as it was of a history h: below 576 outputs channel 0's history is as it was, and below 1,152 channel 1's
pub record Unwritten (a : Answer) (h : History) : Type 0 where
  pub left_stays : a.reply.written < 576 → a.history.left ≡ h.left
  pub right_stays : a.reply.written < 1152 → a.history.right ≡ h.right
