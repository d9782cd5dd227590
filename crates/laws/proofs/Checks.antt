-- Laws of checks: `first` answers k exactly when check k fails and none before it does, and `all_to` is a test at each number. Assumes nothing.
use mathlib.Core.Path.{◌≡◌, refl, sym, subst, ◌∙◌}
use mathlib.Core.Bool.{Bool, true, false, true≢false, cond, ◌&&◌}
use mathlib.Core.List.{List, [], ◌∷◌, ◌++◌}
use Prim.Native.Nat.{ℕ, zero, suc, ◌+◌, ◌<◌, ◌≤◌}
use native.Mathlib.Nat.{not-suc-le-zero}
use native.Mathlib.Numerals.{add-one}
use native.Mathlib.Omega.{arith}
use native.Mathlib.Decide.{dec_lt, ℕ_discrete}
use lib.Dec.{T, leb, ltb, eqb}
use lib.ListN.{length, get_or, get_or-eq_default}
use lib.Ieee.Bits.{is_true}
use lib.Ieee.Fits.{and_r}
use borrow.Author.Tests.{leb-true, ne_eqb}
use Rattle.laws.specs.Checks.{all_to, all_at_most, Check, check, first, numbered, next, folded, fails_of, FirstFails, here, later, NoneFails, done, passed}

-- ---- the first failing check

module _ {k : ℕ} where
  pub answers : {cs : List Check} → FirstFails k cs → first cs ≡ k
  answers (here cs) = refl
  answers (later j cs f) = answers f

  pub answered : (cs : List Check) → 0 < k → first cs ≡ k → FirstFails k cs
  answered [] h e = absurd (omega arith)
  answered (c ∷ cs) h e = go c.number c.fails e (λ q. answered cs h q)
    where
      go : (n : ℕ) (b : Bool) → cond b n (first cs) ≡ k → (first cs ≡ k → FirstFails k cs) → FirstFails k (check n b ∷ cs)
      go n true e r = rw e (here cs)
      go n false e r = later n cs (r e)

pub none_answers : {cs : List Check} → NoneFails cs → first cs ≡ 0
none_answers done = refl
none_answers (passed j cs p) = none_answers p

pub none-answered : (cs : List Check) → T (numbered cs) → first cs ≡ 0 → NoneFails cs
none-answered [] t e = done
none-answered (c ∷ cs) t e = go c.number c.fails t e (λ u q. none-answered cs u q)
  where
    go : (k : ℕ) (b : Bool) → T (ltb 0 k && numbered cs) → cond b k (first cs) ≡ 0 → (T (numbered cs) → first cs ≡ 0 → NoneFails cs) → NoneFails (check k b ∷ cs)
    go zero b t e r = absurd t
    go (suc k) true t e r = absurd (omega arith)
    go (suc k) false t e r = passed (suc k) cs (r (and_r (ltb 0 (suc k)) (numbered cs) t) e)

-- ---- lists of checks, one after the other

pub first_passes : {cs : List Check} → NoneFails cs → (ds : List Check) → first (cs ++ ds) ≡ first ds
first_passes done ds = refl
first_passes (passed j cs p) ds = first_passes p ds

pub first-fails : (cs ds : List Check) → (first cs ≡ 0 → ⊥) → first (cs ++ ds) ≡ first cs
first-fails [] ds h = absurd (h refl)
first-fails (c ∷ cs) ds h = go c.fails h (λ q. first-fails cs ds q)
  where
    go : (b : Bool) → (cond b c.number (first cs) ≡ 0 → ⊥) → ((first cs ≡ 0 → ⊥) → first (cs ++ ds) ≡ first cs) → cond b c.number (first (cs ++ ds)) ≡ cond b c.number (first cs)
    go true h r = refl
    go false h r = r h

-- so the checks in front have passed where all have
pub front_passes : (cs ds : List Check) → first (cs ++ ds) ≡ 0 → first cs ≡ 0
front_passes cs ds e = split (ℕ_discrete (first cs) 0)
  where
    split : Dec (first cs ≡ 0) → first cs ≡ 0
    split (yes z) = z
    split (no z) = absurd (z (sym (first-fails cs ds z) ∙ e))

-- ---- checks made one after the other

-- a refusal stays
kept : (k : ℕ) (cs : List Check) → folded (suc k) cs ≡ suc k
unfolding next
kept k [] = refl
kept k (c ∷ cs) = rw (ne_eqb (suc k) 0 (λ e. omega arith)) (kept k cs)

pub fold_first : (cs : List Check) → T (numbered cs) → folded 0 cs ≡ first cs
unfolding next
fold_first [] t = refl
fold_first (c ∷ cs) t = go c.number c.fails t (λ u. fold_first cs u)
  where
    go : (k : ℕ) (b : Bool) → T (ltb 0 k && numbered cs) → (T (numbered cs) → folded 0 cs ≡ first cs) → folded (cond b k 0) cs ≡ cond b k (first cs)
    go zero b t r = absurd t
    go (suc k) true t r = kept k cs
    go (suc k) false t r = r (and_r (ltb 0 (suc k)) (numbered cs) t)

-- others made after a list of checks are one list with it
pub fold_on : (cs ds : List Check) → T (numbered cs) → T (numbered ds) → folded (first cs) ds ≡ first (cs ++ ds)
fold_on [] ds t u = fold_first ds u
fold_on (c ∷ cs) ds t u = go c.number c.fails t (λ v. fold_on cs ds v u)
  where
    go : (k : ℕ) (b : Bool) → T (ltb 0 k && numbered cs) → (T (numbered cs) → folded (first cs) ds ≡ first (cs ++ ds)) → folded (cond b k (first cs)) ds ≡ cond b k (first (cs ++ ds))
    go zero b t r = absurd t
    go (suc k) true t r = kept k ds
    go (suc k) false t r = r (and_r (ltb 0 (suc k)) (numbered cs) t)

-- where nothing is refused each check has passed, called for by its number
pub passes : (k : ℕ) (cs : List Check) → T (numbered cs) → first cs ≡ 0 → fails_of k cs ≡ false
passes k [] t e = refl
passes k (c ∷ cs) t e = go c.number c.fails t e (λ u q. passes k cs u q)
  where
    either : (b : Bool) {x : Bool} → x ≡ false → cond b false x ≡ false
    either true q = refl
    either false q = q

    go : (n : ℕ) (b : Bool) → T (ltb 0 n && numbered cs) → cond b n (first cs) ≡ 0 → (T (numbered cs) → first cs ≡ 0 → fails_of k cs ≡ false) → cond (eqb k n) b (fails_of k cs) ≡ false
    go zero b t e r = absurd t
    go (suc n) true t e r = absurd (omega arith)
    go (suc n) false t e r = either (eqb k (suc n)) (r (and_r (ltb 0 (suc n)) (numbered cs) t) e)

-- ---- a test at each number below n

pub all_none : (p : ℕ → Bool) → all_to 0 p ≡ true
unfolding all_to
all_none p = refl

pub all_more : (n : ℕ) (p : ℕ → Bool) → all_to (n + 1) p ≡ cond (p n) (all_to n p) false
unfolding all_to
all_more n p = rw add-one

pub all-each : (n : ℕ) (p : ℕ → Bool) → all_to n p ≡ true → (i : ℕ) → i < n → p i ≡ true
unfolding all_to
all-each zero p h i k = absurd (not-suc-le-zero k)
all-each (suc n) p h i k = split (dec_lt i n) (p n) refl h (λ q l. all-each n p q i l)
  where
    split : Dec (i < n) → (b : Bool) → p n ≡ b → cond b (all_to n p) false ≡ true → (all_to n p ≡ true → i < n → p i ≡ true) → p i ≡ true
    split (yes l) true e h r = r h l
    split (no l) true e h r = let q : i ≡ n = omega arith in rw q e
    split d false e h r = absurd (true≢false (sym h))

pub all_if : (n : ℕ) (p : ℕ → Bool) → ((i : ℕ) → i < n → p i ≡ true) → all_to n p ≡ true
unfolding all_to
all_if zero p h = refl
all_if (suc n) p h = rw (h n (omega arith)) (all_if n p (λ i l. h i (omega arith)))

-- equal tests
pub all_same : (n : ℕ) (p q : ℕ → Bool) → ((i : ℕ) → i < n → p i ≡ q i) → all_to n p ≡ all_to n q
unfolding all_to
all_same zero p q h = refl
all_same (suc n) p q h = rw (h n (omega arith), all_same n p q (λ i l. h i (omega arith)))

-- the same of a test that antt has computed
pub all_pass : (n : ℕ) (p : ℕ → Bool) → T (all_to n p) → (i : ℕ) → i < n → T (p i)
all_pass n p t i k = subst T (sym (all-each n p (is_true (all_to n p) t) i k)) tt

-- past its end a list of numbers is read as 0
pub each-at-most : (most : ℕ) (l : List ℕ) → all_at_most most l ≡ true → (i : ℕ) → get_or l i 0 ≤ most
each-at-most most l e i = split (dec_lt i (length l))
  where
    split : Dec (i < length l) → get_or l i 0 ≤ most
    split (yes h) = leb-true _ _ (all-each (length l) (λ k. leb (get_or l k 0) most) e i h)
    split (no h) = rw (get_or-eq_default l 0 {n = i} (omega arith)) (omega arith)
