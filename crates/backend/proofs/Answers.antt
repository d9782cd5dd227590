-- What a call answers, in its two cases: refused, and rendered. Assumes nothing.
use mathlib.Core.Path.{◌≡◌}
use Rattle.std.proofs.Common.{Ok}
use mathlib.Core.List.{List}
use Prim.Native.Nat.{ℕ}
use lib.Ieee.{Float}
use borrow.Author.Tests.{ne_eqb}
use Rattle.history.specs.declared.History.{History}
use Rattle.granule.specs.declared.Granule.{Granule}
use Rattle.granule.specs.Granule.{output_count}
use Rattle.backend.specs.declared.Peaks.{Peaks}
use Rattle.backend.specs.Whole.{history_after, granule_room, granule_peaks}
use Rattle.backend.specs.Calls.{lent, told_answer, refusing, rendering, refusal_of, answer}

module _ (g : Granule) (room : List Float) (h : History) where
  pub answer-refused : {k : ℕ} → k ≡ refusal_of (lent g room) h → (k ≡ 0 → ⊥) → refusing k room h ≡ answer (lent g room) h
  answer-refused {k} e z = rw (← e, ne_eqb k 0 z)

  pub answer-rendered : refusal_of (lent g room) h ≡ 0 → rendering (lent g room) h ≡ answer (lent g room) h
  answer-rendered e = rw e

-- a granule rendered, by what each part of the answer is
pub rendered : (g : Granule) (h : History) (room : List Float) → refusal_of (lent g room) h ≡ 0 → {n : ℕ} {p : Peaks} {h' : History} {o : List Float}
    → n ≡ output_count g → p ≡ granule_peaks g h → h' ≡ history_after g h → o ≡ granule_room g h room
    → told_answer (Ok (record { written = n; peaks = p })) h' o ≡ answer (lent g room) h
rendered g h room z en ep eh eo = rw (en, ep, eh, eo) (answer-rendered g room h z)
