-- `render`'s promise is one equation with an `Answer`, so any two answers that it allows are equal: what is returned, and what is left in the room. Assumes nothing.
use mathlib.Core.Path.{◌≡◌, refl, ap, ◌∙◌, sym}
use mathlib.Core.List.{List}
use lib.Ieee.{Float}
use Rattle.std.proofs.Common.{ℕ, Result, Ok, Err}
use Rattle.laws.proofs.Determined.{same}
use Rattle.refusals.specs.declared.Refusal.{Refusal}
use Rattle.refusals.specs.Refusals.{told}
use Rattle.refusals.proofs.Numbers.{determined as by_number}
use Rattle.history.specs.declared.History.{History}
use Rattle.backend.specs.declared.Rendered.{Rendered}
use Rattle.backend.specs.Calls.{Answer, as_answer}

number : Answer → ℕ
number a = a.reply.number

-- an answer says all that is returned
rendered : Answer → Rendered
rendered a = record { written = a.reply.written; peaks = a.reply.peaks; history = a.history }

numbered : (h : History) (r : Result Rendered Refusal) (x : List Float) → number (as_answer h r x) ≡ told r
unfolding number
numbered h (Ok r) x = refl
numbered h (Err k) x = refl

-- (a refusal hands no history back, so the two calls may have had different ones)
pub determined : {a : Answer} (h g : History) (r s : Result Rendered Refusal) (x y : List Float) → as_answer h r x ≡ a → as_answer g s y ≡ a → (r ≡ s) × (x ≡ y)
unfolding rendered
determined h g r s x y p q =
    let e = same p q in
    (by_number r s (sym (numbered h r x) ∙ ap number e ∙ numbered g s y) (λ u v ru sv. ap rendered (rw (ru, sv) at e)), room r s e)
  where
    room : (r s : Result Rendered Refusal) → as_answer h r x ≡ as_answer g s y → x ≡ y
    room (Ok r) (Ok s) e = ap (λ (a : Answer). a.reply.room) e
    room (Ok r) (Err k) e = ap (λ (a : Answer). a.reply.room) e
    room (Err k) (Ok s) e = ap (λ (a : Answer). a.reply.room) e
    room (Err j) (Err k) e = ap (λ (a : Answer). a.reply.room) e
