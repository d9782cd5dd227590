-- A straight line of `refuse_if`, each with a `?`, is a line of laws' `next`, and so answers the first check that fails, after other checks too. Assumes nothing.
use mathlib.Core.Path.{◌≡◌, refl, ap, ◌∙◌}
use mathlib.Core.Bool.{Bool, true, false}
use mathlib.Core.List.{List, [], ◌∷◌, ◌++◌}
use Prim.Native.Nat.{ℕ, zero, suc}
use lib.Dec.{T, ltb}
use Rattle.std.specs.Prelude.{Result, Ok, Err}
use native.Mathlib.Omega.{arith}
use borrow.Author.Tests.{lt-ltb, ne_eqb}
use Rattle.laws.specs.Checks.{Check, check, first, numbered, next, folded}
use Rattle.laws.proofs.Checks.{fold_first, fold_on}
use Rattle.refusals.specs.declared.Refusal.{Refusal}
use Rattle.refusals.specs.Refusals.{number, told, checked, line, checks_of}
use Rattle.refusals.proofs.Numbers.{not_0}

-- one check more is `next`
pub one_more : (before : Result (Unit {0}) Refusal) (b : Bool) (r : Refusal) → told (checked before b r) ≡ next (told before) (check (number r) b)
unfolding next
one_more (Ok u) true r = refl
one_more (Ok u) false r = refl
one_more (Err k) b r = rw (ne_eqb (number k) 0 (not_0 k))

pub line_folded : (before : Result (Unit {0}) Refusal) (cs : List (Bool × Refusal)) → told (line before cs) ≡ folded (told before) (checks_of cs)
line_folded before [] = refl
line_folded before (c ∷ cs) = line_folded (checked before c.0 c.1) cs ∙ ap (λ (k : ℕ). folded k (checks_of cs)) (one_more before c.0 c.1)

-- no check of a line has the number 0
positive : (k : ℕ) → (k ≡ 0 → ⊥) → ltb 0 k ≡ true
positive zero h = absurd (h refl)
positive (suc k) h = lt-ltb 0 (suc k) (omega arith)

line-numbered : (cs : List (Bool × Refusal)) → T (numbered (checks_of cs))
line-numbered [] = tt
line-numbered (c ∷ cs) = rw (positive (number c.1) (not_0 c.1)) (line-numbered cs)

pub line_first : (cs : List (Bool × Refusal)) → told (line (Ok tt) cs) ≡ first (checks_of cs)
line_first cs = line_folded (Ok tt) cs ∙ fold_first (checks_of cs) (line-numbered cs)

-- a line after other checks is one list with them
pub line_on : (ds : List Check) → T (numbered ds) → (before : Result (Unit {0}) Refusal) (cs : List (Bool × Refusal)) → told before ≡ first ds → told (line before cs) ≡ first (ds ++ checks_of cs)
line_on ds t before cs e =
    line_folded before cs ∙ ap (λ (k : ℕ). folded k (checks_of cs)) e ∙ fold_on ds (checks_of cs) t (line-numbered cs)
