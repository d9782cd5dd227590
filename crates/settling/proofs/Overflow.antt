-- A history with a number that is infinite or not a number is refused at each call that tests that number, whatever calls stand between, until another is taken. Assumes nothing.
use mathlib.Core.Path.{◌≡◌, refl, sym, ◌∙◌, ap}
use mathlib.Core.Bool.{Bool, true, false, true≢false, not, cond, ◌&&◌, ◌||◌, and-false}
use mathlib.Core.List.{List, [], ◌∷◌}
use Prim.Native.Nat.{ℕ, ◌<◌}
use native.Mathlib.Decide.{ℕ_discrete, dec_lt}
use native.Mathlib.Omega.{arith}
use lib.Dec.{T, ltb, ltb→lt, eqb}
use lib.Ieee.{Float, of_bits}
use lib.ListN.{length}
use lib.Ieee.Fits.{and_l, and_r}
use borrow.Author.Tests.{eq-eqb, ne_eqb, le-ltb}
use Rattle.laws.specs.Checks.{Check, first, all_to, FirstFails, here, later}
use Rattle.laws.proofs.Checks.{answered, first-fails}
use Rattle.laws.specs.Finite.{finite}
use Rattle.history.proofs.Histories.{whole}
use Rattle.history.specs.declared.History.{History}
use Rattle.history.specs.History.{channel_not_finite, history_not_finite, fresh_history}
use Rattle.granule.specs.Granule.{two, output_count, state_checks}
use Rattle.backend.specs.Calls.{Answer, refusing}
use Rattle.backend.specs.Whole.{history_after}
use Rattle.settling.specs.Settling.{Door, granules, records, Call, uses_right, history_next, history_last}
use Rattle.settling.specs.Overflow.{channel_of, with_right, ten_unless, Unseen, StaysStuck, NoLongerStuck}
use Rattle.settling.proofs.Doors.{number_at, Lawful, granules_lawful, records_lawful, answer-refused, answer-taken, answer-number, given_passes, given-refused}
use Rattle.settling.proofs.Settled.{alike}

-- the history of a channel that a call uses is tested
tested : (right both : Bool) (h : History) → not right || both ≡ true → channel_not_finite (channel_of right h) ≡ true → history_not_finite both h ≡ true
tested false both h t bad = rw bad
tested true true h t bad = rw bad (always (channel_not_finite h.left))
  where
    always : (b : Bool) → (b || true) ≡ true
    always true = refl
    always false = refl
tested true false h t bad = absurd (true≢false (sym t))

module _ (d : Door) (law : Lawful d) where
  -- one call that tests such a number
  refused-call : (c : Call d) (h : History) → history_not_finite (two (d.granule_of c.given)) h ≡ true
      → d.answers c.given c.room h ≡ refusing (ten_unless d c.given) c.room h
  refused-call c h bad = split (ℕ_discrete (first (d.checks c.given)) 0)
    where
      split : Dec (first (d.checks c.given) ≡ 0) → d.answers c.given c.room h ≡ refusing (ten_unless d c.given) c.room h
      split (yes z) =
          rw (eq-eqb (first (d.checks c.given)) 0 z)
          (answer-refused d law c.given c.room h (given_passes d law c.given c.room h z ∙ rw bad) (λ n. omega arith))
      split (no z) = rw (ne_eqb (first (d.checks c.given)) 0 z) (given-refused d law c.given c.room h z)

  -- one call that does not, since it has one channel
  module _ (c : Call d) (one : two (d.granule_of c.given) ≡ false) (h : History) where
    right_stays : (history_next d c h).right ≡ h.right
    unfolding history_after
    right_stays = split (ℕ_discrete (number_at d c.given c.room h) 0)
      where
        split : Dec (number_at d c.given c.room h ≡ 0) → (history_next d c h).right ≡ h.right
        split (yes z) = ap (λ (a : Answer). a.history.right) (answer-taken d law c.given c.room h z) ∙ rw one
        split (no z) = ap (λ (a : Answer). a.history.right) (answer-refused d law c.given c.room h refl z)

    -- so what stands in channel 1 changes nothing else of the answer
    whatever : Unseen d c h
    whatever r =
        let unused : uses_right d c.given ≡ true → false ≡ true = λ u. sym (and-false (eqb (first (d.checks c.given)) 0)) ∙ (rw one at u) in
        let same = alike d law false c unused h (with_right r h) (record { left = refl; right = λ e. absurd (true≢false (sym e)) }) in
        (same.said, whole same.histories.left right_stays)

  -- the channel with such a number stays as it is
  kept_by : (right : Bool) (c : Call d) (h : History) → channel_not_finite (channel_of right h) ≡ true → channel_of right (history_next d c h) ≡ channel_of right h
  kept_by right c h bad = split right (two (d.granule_of c.given)) refl bad
    where
      refused-at : (right both : Bool) → two (d.granule_of c.given) ≡ both → not right || both ≡ true → channel_not_finite (channel_of right h) ≡ true
          → channel_of right (history_next d c h) ≡ channel_of right h
      refused-at right both e t bad = ap (λ (a : Answer). channel_of right a.history) (refused-call c h (rw e (tested right both h t bad)))

      split : (right both : Bool) → two (d.granule_of c.given) ≡ both → channel_not_finite (channel_of right h) ≡ true → channel_of right (history_next d c h) ≡ channel_of right h
      split false both e bad = refused-at false both e refl bad
      split true true e bad = refused-at true true e refl bad
      split true false e bad = right_stays c e h

  kept : (right : Bool) (before : List (Call d)) (h : History) → channel_not_finite (channel_of right h) ≡ true → channel_of right (history_last d before h) ≡ channel_of right h
  kept right [] h bad = refl
  kept right (c ∷ cs) h bad =
      let step = kept_by right c h bad in
      kept right cs (history_next d c h) (ap channel_not_finite step ∙ bad) ∙ step

  stuck : StaysStuck d
  stuck right h bad before =
      let there = kept right before h bad in
      let last = history_last d before h in
      record {
        kept = there;
        refused = λ c t. refused-call c last (tested right (two (d.granule_of c.given)) last t (ap channel_not_finite there ∙ bad));
        passed = λ c t. whatever c (one-channel right (two (d.granule_of c.given)) t) last;
      }
    where
      one-channel : (right both : Bool) → not right || both ≡ false → both ≡ false
      one-channel true both t = t
      one-channel false both t = absurd (true≢false t)

-- for both doors
pub granules_stuck : StaysStuck granules
granules_stuck = stuck granules granules_lawful

pub records_stuck : StaysStuck records
records_stuck = stuck records records_lawful

-- ---- until a finite history is taken: no other check answers 10

-- each check of a list has a number below 10 or above 11
abbrev elsewhere : ℕ → Bool
elsewhere k = ltb k 10 || ltb 11 k

abbrev all_elsewhere : List Check → Bool
all_elsewhere [] = true
all_elsewhere (c ∷ cs) = elsewhere c.number && all_elsewhere cs

found_elsewhere : {k : ℕ} {cs : List Check} → FirstFails k cs → T (all_elsewhere cs) → T (elsewhere k)
found_elsewhere {k} (here cs) t = and_l (elsewhere k) (all_elsewhere cs) t
found_elsewhere (later j cs f) t = found_elsewhere f (and_r (elsewhere j) (all_elsewhere cs) t)

below_or_above : {A : Type 0} (k : ℕ) → T (elsewhere k) → (k < 10 → A) → (11 < k → A) → A
below_or_above {A} k t below above = split (dec_lt k 10)
  where
    split : Dec (k < 10) → A
    split (yes l) = below l
    split (no l) = above (ltb→lt 11 k (rw (le-ltb k 10 (omega arith)) at t))

-- where the history is finite, the number is an earlier check's, or 11, or 0
module _ (d : Door) (law : Lawful d) (x : d.Given) (room : List Float) (h : History) (good : history_not_finite (two (d.granule_of x)) h ≡ false) where
  others : {A : Type 0} → (FirstFails (number_at d x room h) (d.checks x) → A) → (number_at d x room h ≡ 11 → A) → (number_at d x room h ≡ 0 → A) → A
  others {A} earlier eleven none = split (ℕ_discrete (first (d.checks x)) 0)
    where
      by-room : (short : Bool) → number_at d x room h ≡ cond short 11 0 → A
      by-room true e = eleven e
      by-room false e = none e

      split : Dec (first (d.checks x) ≡ 0) → A
      split (yes z) =
          let short = ltb (length room) (output_count (d.granule_of x)) in
          let state : first (state_checks (d.granule_of x) h (length room)) ≡ cond short 11 0 = rw good in
          by-room short (given_passes d law x room h z ∙ state)
      split (no z) =
          let e : number_at d x room h ≡ first (d.checks x) = first-fails (d.checks x) (state_checks (d.granule_of x) h (length room)) z in
          earlier (rw e (answered (d.checks x) (omega arith) refl))

module _ (d : Door) (law : Lawful d) (apart : (x : d.Given) → T (all_elsewhere (d.checks x))) where
  not_ten : NoLongerStuck d
  not_ten c h good e =
      let n = answer-number d law c.given c.room h in
      others d law c.given c.room h good
      (λ f. below_or_above (number_at d c.given c.room h) (found_elsewhere f (apart c.given)) (λ l. omega (arith, n)) (λ l. omega (arith, n)))
      (λ q. omega (arith, n))
      (λ q. omega (arith, n))

pub granules_no_longer : NoLongerStuck granules
granules_no_longer = not_ten granules granules_lawful (λ x. tt)

pub records_no_longer : NoLongerStuck records
records_no_longer = not_ten records records_lawful (λ s. tt)

-- a fresh history is finite
pub fresh_finite : (both : Bool) → history_not_finite both fresh_history ≡ false
unfolding all_to finite of_bits
fresh_finite true = refl
fresh_finite false = refl
