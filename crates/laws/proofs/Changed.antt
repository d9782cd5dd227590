-- Laws of a list that a loop changes in place, in any order: the places of D are by the rule f, and the others are as they were. Assumes nothing.
use mathlib.Core.Path.{◌≡◌, refl, sym, ◌∙◌}
use mathlib.Core.List.{List}
use Prim.Native.Nat.{ℕ, ◌<◌}
use native.Mathlib.Decide.{ℕ_discrete}
use lib.ListN.{length, get_or, set, length-set}
use lib.Seq.{get_or-set_same, get_or-set_other}
use Rattle.laws.specs.Lists.{tab}
use Rattle.laws.proofs.Lists.{tab-same, tab-at}

module _ {A : Type 0} where
  -- elements are read with the default d
  pub record Changed (d : A) (l₀ : List A) (D : ℕ → Type 0) (f : ℕ → A) (l : List A) : Type 0 where
    pub long : length l ≡ length l₀
    pub new : (k : ℕ) → k < length l₀ → D k → get_or l k d ≡ f k
    pub old : (k : ℕ) → (D k → ⊥) → get_or l k d ≡ get_or l₀ k d

  pub changed_none : {d : A} {l₀ : List A} {D : ℕ → Type 0} {f : ℕ → A} → ((k : ℕ) → D k → ⊥) → Changed d l₀ D f l₀
  changed_none h = record { long = refl; new = λ k _ w. absurd (h k w); old = λ k w. refl }

  -- one more: place n becomes one of the changed
  pub changed_more :
      {d a : A} {l₀ l : List A} {D E : ℕ → Type 0} {f : ℕ → A} (n : ℕ) → Changed d l₀ D f l → n < length l₀ → a ≡ f n → E n
      → ((k : ℕ) → D k → E k) → ((k : ℕ) → (k ≡ n → ⊥) → E k → D k) → Changed d l₀ E f (set l n a)
  changed_more {d} {a} {l₀} {l} {D} {E} {f} n w h e en up down = record {
    long = length-set l n a ∙ w.long;
    new = λ k q r. new k q r (ℕ_discrete k n);
    old = λ k r. get_or-set_other l n k a d (λ q. r (rw q en)) ∙ w.old k (λ q. r (up k q));
  }
    where
      new : (k : ℕ) → k < length l₀ → E k → Dec (k ≡ n) → get_or (set l n a) k d ≡ f k
      new k q r (yes s) = rw s (get_or-set_same l n a d (rw w.long h) ∙ e)
      new k q r (no s) = get_or-set_other l n k a d s ∙ w.new k q (down k s r)

  -- the end: the list by a rule that each of its places meets
  pub changed_end :
      {d : A} {l₀ l : List A} {D : ℕ → Type 0} {f : ℕ → A} (N : ℕ) (g : ℕ → A) → Changed d l₀ D f l → length l₀ ≡ N
      → ((k : ℕ) → k < N → get_or l k d ≡ g k) → l ≡ tab N g
  changed_end {d} {l₀} {l} N g w e is = sym (tab-at N l d (w.long ∙ e)) ∙ tab-same N (λ k. get_or l k d) g is
