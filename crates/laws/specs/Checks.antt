-- Refusals: a list of checks in the order in which they are made, the number of the first that fails, and what an entry point then answers. Assumes nothing.
use Rattle.std.specs.Prelude.{◌≡◌, Bool, true, false, cond, ◌&&◌, List, [], ◌∷◌, ℕ, zero, suc, eqb, ltb, leb, length, get_or}

-- whether the test p passes at 0, 1, .., n - 1
unfoldable pub all_to : ℕ → (ℕ → Bool) → Bool
all_to zero p = true
all_to (suc n) p = cond (p n) (all_to n p) false

-- how many of the numbers below n pass a test
unfoldable pub count_to : ℕ → (ℕ → Bool) → ℕ
count_to zero p = 0
count_to (suc n) p = cond (p n) (suc (count_to n p)) (count_to n p)

-- each element is at most `most`
abbrev pub all_at_most : ℕ → List ℕ → Bool
all_at_most most l = all_to (length l) (λ i. leb (get_or l i 0) most)

-- a check: its number in the table of refusals, and whether it fails
pub record Check : Type 0 where
  pub number : ℕ
  pub fails : Bool

abbrev pub check : ℕ → Bool → Check
check k b = record { number = k; fails = b }

-- the number of the first check that fails, and 0 where none does
abbrev pub first : List Check → ℕ
first [] = 0
first (c ∷ cs) = cond c.fails c.number (first cs)

-- no check has the number 0, which stands for no refusal: computed, whatever the tests say
abbrev pub numbered : List Check → Bool
numbered [] = true
numbered (c ∷ cs) = ltb 0 c.number && numbered cs

-- whether the check numbered k fails
abbrev pub fails_of : ℕ → List Check → Bool
fails_of k [] = false
fails_of k (c ∷ cs) = cond (eqb k c.number) c.fails (fails_of k cs)

-- one check more: the refusal so far, and where there is none the check's number if it fails
unfoldable pub next : ℕ → Check → ℕ
next before c = cond (eqb before 0) (cond c.fails c.number 0) before

-- the refusal after a list of checks, where k was the refusal before it
abbrev pub folded : ℕ → List Check → ℕ
folded k [] = k
folded k (c ∷ cs) = folded (next k c) cs

-- what lent memory holds afterwards: as it was at a refusal k, and the new value where nothing is refused. What is answered beside the number goes with it, and is 0 at a refusal
abbrev pub afterwards : {A : Type 0} → ℕ → A → A → A
afterwards k old new = cond (eqb k 0) new old

-- what an entry point with such checks answers, where its memory was lent as `old` and the stage makes `new` of it: the number of the first check that fails, and
-- "samples, history and output stay as lent" at a refusal
pub record Answered {A : Type 0} (checks : List Check) (old new : A) (k : ℕ) (memory : A) : Type 0 where
  pub number : k ≡ first checks
  pub leaves : memory ≡ afterwards k old new

-- the check numbered k fails, and none before it does
pub data FirstFails (k : ℕ) : List Check → Type 0 where
  here : (cs : List Check) → FirstFails k (check k true ∷ cs)
  later : (j : ℕ) (cs : List Check) → FirstFails k cs → FirstFails k (check j false ∷ cs)

-- no check fails
pub data NoneFails : List Check → Type 0 where
  done : NoneFails []
  passed : (j : ℕ) (cs : List Check) → NoneFails cs → NoneFails (check j false ∷ cs)
