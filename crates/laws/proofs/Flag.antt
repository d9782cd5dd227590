-- A loop that sets a flag where a test fails, and goes on: 0 exactly while the test passed at each number. Assumes nothing.
use mathlib.Core.Path.{◌≡◌, refl, ◌∙◌}
use mathlib.Core.Bool.{Bool, true, false, cond}
use mathlib.Core.Logic.{◌⊎◌, inl, inr}
use Prim.Native.Nat.{ℕ, ◌+◌, ◌≤◌}
use native.Mathlib.Omega.{arith}
use lib.Dec.{eqb}
use Rattle.laws.specs.Checks.{all_to}
use Rattle.laws.proofs.Checks.{all_none, all_more}

-- the flag as a number
abbrev pub flag : Bool → ℕ
flag b = cond b 0 1

flag-test : (b : Bool) → eqb (flag b) 0 ≡ b
flag-test true = refl
flag-test false = refl

module _ (p : ℕ → Bool) where
  pub flag-none : 0 ≡ flag (all_to 0 p)
  flag-none = rw all_none

  -- a turn at i: it sets the flag where the test fails, and leaves it where the test passes
  pub flag_turn :
      {A B : Type 0} (i : ℕ) {bad new : ℕ} → bad ≡ flag (all_to i p) → (A → p i ≡ false) → (B → p i ≡ true)
      → (A × (new ≡ 1)) ⊎ (B × (new ≡ bad)) → new ≡ flag (all_to (i + 1) p)
  flag_turn i h fails passes (inl w) = w.1 ∙ rw (all_more, fails w.0)
  flag_turn i h fails passes (inr w) = w.1 ∙ h ∙ rw (all_more, passes w.0)

  -- a turn of two tests: each sets the flag where it fails
  pub flag_turns :
      {A B C D : Type 0} (i : ℕ) {bad once new : ℕ} → bad ≡ flag (all_to i p) → (A → p i ≡ false) → (C → p i ≡ false) → (B → D → p i ≡ true)
      → (A × (once ≡ 1)) ⊎ (B × (once ≡ bad)) → (C × (new ≡ 1)) ⊎ (D × (new ≡ once)) → new ≡ flag (all_to (i + 1) p)
  flag_turns {C = C} i h f g passes u (inl w) = flag_turn {A = C} {B = ⊥} i h g (λ b. absurd b) (inl w)
  flag_turns i h f g passes (inl v) (inr w) = flag_turn {B = ⊥} i h f (λ b. absurd b) (inl (v.0, w.1 ∙ v.1))
  flag_turns i h f g passes (inr v) (inr w) = flag_turn {A = ⊥} i h (λ b. absurd b) (passes v.0) (inr (w.0, w.1 ∙ v.1))

  -- the end
  pub flag-end : (n i : ℕ) {bad : ℕ} → bad ≡ flag (all_to i p) → i ≤ n → n ≤ i → eqb bad 0 ≡ all_to n p
  flag-end n i h a b = let e : i ≡ n = omega arith in rw (h, flag-test, e)
