-- What demand 3 speaks of: runs of calls. `render` and `render_record` each promise one equation (backend Calls `answer`, render_record RecordAnswer `record_answer`), so a run is a function of
-- its calls and its first history. Assumes nothing.
use Rattle.std.specs.Prelude.{◌≡◌, Bool, true, ◌&&◌, List, [], ◌∷◌, ◌++◌, ℕ, ◌+◌, ◌-◌, ◌*◌, ◌<◌, ◌≤◌, eqb, Float}
use Rattle.laws.specs.Checks.{Check, first}
use Rattle.laws.specs.Lists.{at}
use Rattle.side_info.specs.declared.BlockType.{BlockType}
use Rattle.side_info.specs.declared.Edition.{Edition}
use Rattle.antialias.specs.Antialias.{antialiased}
use Rattle.hybrid.specs.Hybrid.{overlap_after}
use Rattle.matrixing.specs.Matrixing.{slot_samples, matrixed}
use Rattle.history.specs.declared.Channel.{Channel}
use Rattle.history.specs.declared.History.{History}
use Rattle.granule.specs.declared.Granule.{Granule}
use Rattle.granule.specs.Granule.{two, input_checks}
use Rattle.backend.specs.Whole.{edition_in, left_samples, right_samples, left_kind, right_kind, subbands}
use Rattle.backend.specs.Calls.{lent, Reply, Answer, answer}
use Rattle.records.specs.Record.{record_checks, granule_at}
use Rattle.render_record.specs.RecordAnswer.{record_answer}

-- ---- the two doors by which granules come in: as themselves, by `render`, and as records' bytes, by `render_record`

-- a record's bytes, and the edition that the caller names
pub record Named : Type 0 where
  pub edition : ℕ
  pub bytes : List ℕ

-- what is given, the granule that it says, the checks that are made of it before those of history and room, and what a call with it answers where such room is lent
pub record Door : Type 1 where
  pub Given : Type 0
  pub granule_of : Given → Granule
  pub checks : Given → List Check
  pub answers : Given → List Float → History → Answer

abbrev pub granules : Door
granules = record { Given = Granule; granule_of = λ g. g; checks = input_checks; answers = λ g room h. answer (lent g room) h }

abbrev pub records : Door
records = record {
  Given = Named;
  granule_of = λ x. granule_at x.edition x.bytes;
  checks = λ x. record_checks x.edition x.bytes ++ input_checks (granule_at x.edition x.bytes);
  answers = λ x. record_answer x.edition x.bytes;
}

-- ---- a run of calls, one straight after the other

pub record Call (d : Door) : Type 0 where
  pub given : d.Given
  pub room : List Float

abbrev pub lending : (d : Door) → d.Given → List Float → Call d
lending d x room = record { given = x; room = room }

-- what a call answers beside the history, and the history that it leaves
abbrev pub reply : (d : Door) → Call d → History → Reply
reply d c h = (d.answers c.given c.room h).reply

abbrev pub history_next : (d : Door) → Call d → History → History
history_next d c h = (d.answers c.given c.room h).history

abbrev pub replies : (d : Door) → List (Call d) → History → List Reply
replies d [] h = []
replies d (c ∷ cs) h = reply d c h ∷ replies d cs (history_next d c h)

abbrev pub history_last : (d : Door) → List (Call d) → History → History
history_last d [] h = h
history_last d (c ∷ cs) h = history_last d cs (history_next d c h)

-- a call that is not refused
abbrev pub Taken : (d : Door) → Call d → History → Type 0
Taken d c h = (reply d c h).number ≡ 0

-- the number at a place of the room after a call
abbrev pub output_of : (d : Door) → Call d → History → ℕ → Float
output_of d c h p = at (reply d c h).room p

-- ---- histories that agree

-- bit for bit, in channel 0, and in channel 1 too where `both` says that it is used
pub record Agree (both : Bool) (h k : History) : Type 0 where
  pub left : h.left ≡ k.left
  pub right : both ≡ true → h.right ≡ k.right

-- whether a call uses channel 1: its granule has two channels, and nothing of what is given is refused
abbrev pub uses_right : (d : Door) → d.Given → Bool
uses_right d x = eqb (first (d.checks x)) 0 && two (d.granule_of x)

-- calls that use no other channel: where channel 1 is not among the settled ones, no call uses it
pub data UseNoOther (d : Door) (both : Bool) : List (Call d) → Type 0 where
  none : UseNoOther d both []
  call : (c : Call d) (cs : List (Call d)) → (uses_right d c.given ≡ true → both ≡ true) → UseNoOther d both cs → UseNoOther d both (c ∷ cs)

-- ---- the theorem's assumption and its conclusion: x and y are given one straight after the other to two runs, which start from the histories h and k; a and b are the rooms of the first call,
-- a' and b' those of the second

-- "the same two granules, .. both granules using the same channels. If neither run refuses either one"; document 02, request 5: "when both runs name the same edition for each granule": what is
-- given names it, so that x and y may name different ones
pub record Accepted (d : Door) (x y : d.Given) (h k : History) (a a' b b' : List Float) : Type 0 where
  pub same_channels : two (d.granule_of x) ≡ two (d.granule_of y)
  pub first_of_h : Taken d (lending d x a) h
  pub second_of_h : Taken d (lending d y a') (history_next d (lending d x a) h)
  pub first_of_k : Taken d (lending d x b) k
  pub second_of_k : Taken d (lending d y b') (history_next d (lending d x b) k)

-- what one channel's history then is, e being the second granule's edition, xs its samples in it and c its history before it: "The overlap then is the second half of the last windowed transform;
-- the sixteen blocks are the matrixing of the second granule's slots 17 down to 2, as they stand after inversion"
pub record KnownHistory (e : Edition) (kind : BlockType) (xs : List Float) (c after : Channel) : Type 0 where
  pub overlap : after.overlap ≡ overlap_after e kind (antialiased kind xs)
  pub blocks : (b i : ℕ) → b < 16 → i < 64 → at after.blocks (64 * b + i) ≡ at (matrixed (slot_samples (subbands e kind xs c) (17 - b))) i

-- h and k are now the two histories before the second call; g is the granule that it says
pub record Settled (d : Door) (g : Granule) (c e : Call d) (h k : History) : Type 0 where
  -- "those channels' histories agree bit for bit"
  pub agree : Agree (two g) (history_next d c h) (history_next d e k)
  pub left_known : KnownHistory (edition_in g) (left_kind g) (left_samples g) h.left (history_next d c h).left
  pub right_known : two g ≡ true → KnownHistory (edition_in g) (right_kind g) (right_samples g) h.right (history_next d c h).right
  -- "Outputs 480 to 575 of each channel's second granule agree already"
  pub left_outputs : (p : ℕ) → 480 ≤ p → p < 576 → output_of d c h p ≡ output_of d e k p
  pub right_outputs : two g ≡ true → (p : ℕ) → 480 ≤ p → p < 576 → output_of d c h (576 + p) ≡ output_of d e k (576 + p)
  -- "and so does every later answer to the same calls that use no other channel", the peaks among them. The second granule's own peaks need not: they are over all its outputs, and those
  -- before place 480 still take blocks that the first one left
  pub later_replies : (cs : List (Call d)) → UseNoOther d (two g) cs → replies d cs (history_next d c h) ≡ replies d cs (history_next d e k)
  pub later_histories : (cs : List (Call d)) → UseNoOther d (two g) cs → Agree (two g) (history_last d cs (history_next d c h)) (history_last d cs (history_next d e k))

-- two granules settle everything: of what the first calls leave, the second ones make the same
abbrev pub TwoGranulesSettle : Door → Type 0
TwoGranulesSettle d =
    (x y : d.Given) (h k : History) (a a' b b' : List Float)
    → Accepted d x y h k a a' b b'
    → Settled d (d.granule_of y) (lending d y a') (lending d y b') (history_next d (lending d x a) h) (history_next d (lending d x b) k)
