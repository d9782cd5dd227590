-- What the number of used subbands says: the samples after them are zeros. Assumes nothing.
use mathlib.Core.Path.{◌≡◌, refl, sym, ap, ◌∙◌}
use mathlib.Core.Bool.{Bool, true, false, not, cond}
use mathlib.Core.List.{List}
use Prim.Native.Nat.{ℕ, zero, suc, ◌+◌, ◌-◌, ◌*◌, ◌/◌, ◌%◌, ◌<◌, ◌≤◌}
use native.Mathlib.Nat.{lt_irrefl, lt_of_not-le}
use native.Mathlib.Numerals.{add-one}
use native.Mathlib.Decide.{ℕ_discrete}
use native.Mathlib.Omega.{arith}
use borrow.Author.Tests.{not-false}
use lib.ListN.{length}
use lib.Ieee.{Float, nan}
use Rattle.laws.specs.Checks.{all_to}
use Rattle.laws.specs.Lists.{at}
use Rattle.laws.proofs.Checks.{all-each, all_same}
use Rattle.laws.proofs.Parts.{part, part_length, part_at}
use Rattle.silence.specs.Silence.{is_zero, all_zero, past_last, silent_subband, used_subbands}

-- ---- the last number that passes

pub past_none : (p : ℕ → Bool) → past_last 0 p ≡ 0
unfolding past_last
past_none p = refl

past_more : (n : ℕ) (p : ℕ → Bool) → past_last (n + 1) p ≡ cond (p n) (n + 1) (past_last n p)
unfolding past_last
past_more n p = rw add-one refl

-- the number before n passes, or it does not
module _ (n : ℕ) (p : ℕ → Bool) (h : 0 < n) where
  whole : n ≡ n - 1 + 1
  whole = omega arith

  pub past_here : p (n - 1) ≡ true → past_last n p ≡ n
  past_here e = ap (λ (k : ℕ). past_last k p) whole ∙ past_more (n - 1) p ∙ rw e (sym whole)

  pub past_before : p (n - 1) ≡ false → past_last n p ≡ past_last (n - 1) p
  past_before e = ap (λ (k : ℕ). past_last k p) whole ∙ past_more (n - 1) p ∙ rw e refl

past_most : (n : ℕ) (p : ℕ → Bool) → past_last n p ≤ n
unfolding past_last
past_most zero p = omega arith
past_most (suc n) p = go (p n) (past_most n p)
  where
    go : (b : Bool) → past_last n p ≤ n → cond b (suc n) (past_last n p) ≤ suc n
    go true h = omega arith
    go false h = omega arith

past_fails : (n : ℕ) (p : ℕ → Bool) (i : ℕ) → past_last n p ≤ i → i < n → p i ≡ false
unfolding past_last
past_fails zero p i h l = absurd (lt_irrefl 0 (omega arith))
past_fails (suc n) p i h l = go (p n) refl h (λ g k. past_fails n p i g k)
  where
    at-end : (i ≡ n → ⊥) → i < n
    at-end u = lt_of_not-le λ v. u (omega arith)

    end : p n ≡ false → Dec (i ≡ n) → (i < n → p i ≡ false) → p i ≡ false
    end e (yes q) f = rw q e
    end e (no q) f = f (at-end q)

    go : (b : Bool) → p n ≡ b → cond b (suc n) (past_last n p) ≤ i → (past_last n p ≤ i → i < n → p i ≡ false) → p i ≡ false
    go true e g f = absurd (lt_irrefl n (omega arith))
    go false e g f = end e (ℕ_discrete i n) (f g)

-- ---- subbands

-- the test of a subband's part
pub part-silent : (xs : List Float) (sb : ℕ) → 18 * sb + 18 ≤ length xs → all_zero (part (18 * sb) (18 * sb + 18) xs) ≡ silent_subband xs sb
part-silent xs sb l =
    let a = 18 * sb in
    ap (λ (k : ℕ). all_to k (λ i. is_zero (at (part a (a + 18) xs) i))) (part_length a (a + 18) xs l ∙ omega arith)
    ∙ all_same 18 (λ i. is_zero (at (part a (a + 18) xs) i)) (λ i. is_zero (at xs (a + i)))
    (λ i q. ap is_zero (part_at a (a + 18) xs i nan (omega arith)))

pub used_most : (xs : List Float) → used_subbands xs ≤ 32
used_most xs = past_most 32 (λ sb. not (silent_subband xs sb))

pub unused_zero : (xs : List Float) (k : ℕ) → 18 * used_subbands xs ≤ k → k < 576 → is_zero (at xs k) ≡ true
unused_zero xs k h l =
    let e = not-false (silent_subband xs (k / 18)) (past_fails 32 (λ sb. not (silent_subband xs sb)) (k / 18) (omega arith) (omega arith)) in
    ap (λ (j : ℕ). is_zero (at xs j)) (omega arith) ∙ all-each 18 (λ i. is_zero (at xs (18 * (k / 18) + i))) e (k % 18) (omega arith)
