-- Both doors answer by one list of checks: those of what is given, then those of history and room. What a call answers in its two cases. Assumes nothing.
use mathlib.Core.Path.{◌≡◌, refl, ap, ◌∙◌}
use mathlib.Core.List.{List, ◌++◌}
use Prim.Native.Nat.{ℕ}
use native.Mathlib.Decide.{ℕ_discrete}
use borrow.Author.Tests.{ne_eqb}
use lib.Dec.{T}
use lib.ListN.{length}
use lib.Ieee.{Float}
use Rattle.laws.specs.Checks.{first, numbered, afterwards}
use Rattle.laws.proofs.Checks.{none-answered, first_passes, first-fails}
use Rattle.history.specs.declared.History.{History}
use Rattle.granule.specs.Granule.{state_checks}
use Rattle.backend.specs.Calls.{lent, Answer, refusing, rendering}
use Rattle.render_record.proofs.Answers.{one_list}
use Rattle.settling.specs.Settling.{Door, granules, records}

-- the number that a call answers, and the answer by it
abbrev pub number_at : (d : Door) → d.Given → List Float → History → ℕ
number_at d x room h = first (d.checks x ++ state_checks (d.granule_of x) h (length room))

abbrev by : (d : Door) → d.Given → List Float → History → ℕ → Answer
by d x room h k = afterwards k (refusing k room h) (rendering (lent (d.granule_of x) room) h)

pub record Lawful (d : Door) : Type 0 where
  pub answered : (x : d.Given) (room : List Float) (h : History) → d.answers x room h ≡ by d x room h (number_at d x room h)
  pub counted : (x : d.Given) → T (numbered (d.checks x))

pub granules_lawful : Lawful granules
granules_lawful = record { answered = λ x room h. refl; counted = λ x. tt }

pub records_lawful : Lawful records
records_lawful = record { answered = λ x. one_list x.edition x.bytes; counted = λ x. tt }

module _ (d : Door) (law : Lawful d) (x : d.Given) (room : List Float) (h : History) where
  -- something is refused
  pub answer-refused : {k : ℕ} → number_at d x room h ≡ k → (k ≡ 0 → ⊥) → d.answers x room h ≡ refusing k room h
  answer-refused {k} e z = law.answered x room h ∙ rw (e, ne_eqb k 0 z)

  -- nothing is
  pub answer-taken : number_at d x room h ≡ 0 → d.answers x room h ≡ rendering (lent (d.granule_of x) room) h
  answer-taken e = law.answered x room h ∙ rw e

  pub answer-number : (d.answers x room h).reply.number ≡ number_at d x room h
  answer-number = ap (λ (a : Answer). a.reply.number) (law.answered x room h) ∙ split (ℕ_discrete (number_at d x room h) 0)
    where
      split : Dec (number_at d x room h ≡ 0) → (by d x room h (number_at d x room h)).reply.number ≡ number_at d x room h
      split (yes z) = rw z
      split (no z) = rw (ne_eqb (number_at d x room h) 0 z)

  -- the checks of what is given have all passed, or one of them answers
  pub given_passes : first (d.checks x) ≡ 0 → number_at d x room h ≡ first (state_checks (d.granule_of x) h (length room))
  given_passes z = first_passes (none-answered (d.checks x) (law.counted x) z) (state_checks (d.granule_of x) h (length room))

  pub given-refused : (first (d.checks x) ≡ 0 → ⊥) → d.answers x room h ≡ refusing (first (d.checks x)) room h
  given-refused z = answer-refused (first-fails (d.checks x) (state_checks (d.granule_of x) h (length room)) z) z
