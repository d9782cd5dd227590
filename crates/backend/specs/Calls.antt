-- One call of `render`: what it answers and leaves in the room, and the history that it leaves. Assumes nothing.
use Rattle.std.specs.Prelude.{List, ℕ, length, Float, Result, Ok, Err}
use Rattle.laws.specs.Checks.{first, afterwards}
use Rattle.refusals.specs.declared.Refusal.{Refusal}
use Rattle.refusals.specs.Refusals.{number as number_of}
use Rattle.history.specs.declared.History.{History}
use Rattle.granule.specs.declared.Granule.{Granule}
use Rattle.granule.specs.Granule.{output_count, granule_checks}
use Rattle.backend.specs.declared.Peaks.{Peaks}
use Rattle.backend.specs.declared.Rendered.{Rendered}
use Rattle.backend.specs.declared.Told.{Told}
use Rattle.backend.specs.Whole.{history_after, granule_room, granule_peaks}

-- a granule, and the room lent for its outputs
pub record Call : Type 0 where
  pub granule : Granule
  pub room : List Float

abbrev pub lent : Granule → List Float → Call
lent g room = record { granule = g; room = room }

-- what a caller sees of a call beside the history: 0 or the number of the refusal, how many outputs were written, the peaks, and the room's contents afterwards
pub record Reply : Type 0 where
  pub number : ℕ
  pub written : ℕ
  pub peaks : Peaks
  pub room : List Float

pub record Answer : Type 0 where
  pub reply : Reply
  pub history : History

-- at a refusal: "A refusal ..; output and history keep every bit they had"; "A refusal .. answers peak 0"
abbrev pub refusing : ℕ → List Float → History → Answer
refusing k room h = record { reply = record { number = k; written = 0; peaks = record { left = 0; right = 0 }; room = room }; history = h }

-- what a function that answers with the next history has answered to the history h, where it left these contents in the room
abbrev pub as_answer : History → Result Rendered Refusal → List Float → Answer
as_answer h (Ok r) room = record { reply = record { number = 0; written = r.written; peaks = r.peaks; room = room }; history = r.history }
as_answer h (Err k) room = refusing (number_of k) room h

-- the same of a function that has the history in place, where it left h as the history
abbrev pub told_answer : Result Told Refusal → History → List Float → Answer
told_answer (Ok t) h room = record { reply = record { number = 0; written = t.written; peaks = t.peaks; room = room }; history = h }
told_answer (Err k) h room = refusing (number_of k) room h

abbrev pub rendering : Call → History → Answer
rendering c h = record {
  reply = record { number = 0; written = output_count c.granule; peaks = granule_peaks c.granule h; room = granule_room c.granule h c.room };
  history = history_after c.granule h;
}

-- the number of the first check that fails
abbrev pub refusal_of : Call → History → ℕ
refusal_of c h = first (granule_checks c.granule h (length c.room))

-- it refuses; where none fails the granule is rendered
abbrev pub answer : Call → History → Answer
answer c h = let k = refusal_of c h in afterwards k (refusing k c.room h) (rendering c h)
