-- What document 01 says of a history that an overflow has left infinite or not a number: "each later call that tests that number answers 10, unless an earlier check fails, until a
-- fresh (all +0.0) or another finite history is taken". Assumes nothing.
use Rattle.std.specs.Prelude.{◌≡◌, Bool, true, false, cond, not, ◌||◌, List, ℕ, eqb}
use Rattle.laws.specs.Checks.{first}
use Rattle.history.specs.declared.Channel.{Channel}
use Rattle.history.specs.declared.History.{History}
use Rattle.history.specs.History.{channel_not_finite, history_not_finite}
use Rattle.granule.specs.Granule.{two}
use Rattle.backend.specs.Calls.{refusing}
use Rattle.settling.specs.Settling.{Door, Call, reply, history_next, history_last}

-- the channel that the number stands in: channel 1 where `right`, else channel 0
abbrev pub channel_of : Bool → History → Channel
channel_of right h = cond right h.right h.left

-- a history with another in channel 1
abbrev pub with_right : Channel → History → History
with_right r h = record { left = h.left; right = r }

-- whether a call tests it: each call tests channel 0's history, and one of two channels channel 1's
abbrev pub tests : (d : Door) → Bool → Call d → Bool
tests d right c = not right || two (d.granule_of c.given)

-- "answers 10, unless an earlier check fails"; the checks before 10 are those of what is given
abbrev pub ten_unless : (d : Door) → d.Given → ℕ
ten_unless d x = let k = first (d.checks x) in cond (eqb k 0) 10 k

-- what stands in channel 1 does not matter to a call: it is answered as with any other history r there, and leaves channel 1's as it is
abbrev pub Unseen : (d : Door) → Call d → History → Type 0
Unseen d c h = (r : Channel) → (reply d c h ≡ reply d c (with_right r h)) × (history_next d c h ≡ with_right h.right (history_next d c (with_right r h)))

-- what holds after any calls `before`, from a history h with such a number in that channel
pub record Stuck (d : Door) (right : Bool) (h : History) (before : List (Call d)) : Type 0 where
  -- the number is still there
  pub kept : channel_of right (history_last d before h) ≡ channel_of right h
  -- a call that tests it is refused so; room and history are as they were
  pub refused : (c : Call d) → tests d right c ≡ true
      → d.answers c.given c.room (history_last d before h) ≡ refusing (ten_unless d c.given) c.room (history_last d before h)
  -- a call that does not, which has one channel, does not see it
  pub passed : (c : Call d) → tests d right c ≡ false → Unseen d c (history_last d before h)

-- so it is from each such history
abbrev pub StaysStuck : Door → Type 0
StaysStuck d = (right : Bool) (h : History) → channel_not_finite (channel_of right h) ≡ true → (before : List (Call d)) → Stuck d right h before

-- "until a fresh (all +0.0) or another finite history is taken": with one that is finite in the channels it uses, no call answers 10
abbrev pub NoLongerStuck : Door → Type 0
NoLongerStuck d = (c : Call d) (h : History) → history_not_finite (two (d.granule_of c.given)) h ≡ false → (reply d c h).number ≡ 10 → ⊥
