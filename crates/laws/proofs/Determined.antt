-- What a promise says by an equation it allows once: so any two answers of an entry point are equal. And the two ways to answer: a refusal, and none. Assumes nothing.
use mathlib.Core.Path.{◌≡◌, sym, ap, ◌∙◌}
use mathlib.Core.List.{List}
use Prim.Native.Nat.{ℕ}
use borrow.Author.Tests.{ne_eqb}
use Rattle.laws.specs.Checks.{Check, first, afterwards, Answered}

module _ {A : Type 0} where
  pub same : {a x y : A} → x ≡ a → y ≡ a → x ≡ y
  same e f = e ∙ sym f

  pub determined : {cs : List Check} {old new : A} {k j : ℕ} {l m : A} → Answered cs old new k l → Answered cs old new j m → (k ≡ j) × (l ≡ m)
  determined {cs} {old} {new} p q =
      let e = p.number ∙ sym q.number in
      (e, p.leaves ∙ ap (λ (n : ℕ). afterwards n old new) e ∙ sym q.leaves)

  pub refused : {cs : List Check} {old new : A} {k : ℕ} → k ≡ first cs → (k ≡ 0 → ⊥) → Answered cs old new k old
  refused {cs} {old} {new} {k} e z = record { number = e; leaves = rw (ne_eqb k 0 z) }

  pub accepted : {cs : List Check} {old new : A} {m : A} → first cs ≡ 0 → m ≡ new → Answered cs old new 0 m
  accepted e q = record { number = sym e; leaves = q }
