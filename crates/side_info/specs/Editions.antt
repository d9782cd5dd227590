-- The editions: the numbers that stand for them, and refusal 18. From document 02, request 5. Assumes nothing.
use Rattle.std.specs.Prelude.{Bool, not, cond, ◌||◌, ℕ, eqb, Result, Ok, Err}
use Rattle.refusals.specs.declared.Refusal.{Refusal}
use Rattle.refusals.specs.declared.Refusal.TheVariants.{WrongEdition}
use Rattle.side_info.specs.declared.Edition.{Edition}
use Rattle.side_info.specs.declared.Edition.TheVariants.{First, Second}

-- 18: "edition not 1 or 2"
abbrev pub wrong_edition : ℕ → Bool
wrong_edition n = not (eqb n 1 || eqb n 2)

-- "The caller names the edition with each granule"; a number that is not 1 or 2 is refused before it comes here
abbrev pub edition_of : ℕ → Edition
edition_of n = cond (eqb n 2) Second First

-- the edition that a number names, or refusal 18
abbrev pub edition_read : ℕ → Result Edition Refusal
edition_read n = cond (wrong_edition n) (Err WrongEdition) (Ok (edition_of n))

-- one thing for edition 1 and one for edition 2
abbrev pub by_edition : {A : Type 0} → Edition → A → A → A
by_edition First one two = one
by_edition Second one two = two
