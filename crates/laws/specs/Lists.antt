-- Lists by a rule: what a stage makes of its samples. Assumes nothing.
use Rattle.std.specs.Prelude.{List, [], ◌∷◌, ◌++◌, ℕ, zero, suc, get_or, drop, Float}
use Rattle.std.specs.Float.{nan}

-- element i of a list of floats
abbrev pub at : List Float → ℕ → Float
at xs i = get_or xs i nan

-- row i of a table of floats
abbrev pub row : List (List Float) → ℕ → List Float
row rows i = get_or rows i []

module _ {A : Type 0} where
  -- f 0, f 1, .., f (n - 1)
  unfoldable pub tab : ℕ → (ℕ → A) → List A
  tab zero f = []
  tab (suc n) f = tab n f ++ f n ∷ []

  -- l, with its first n elements by the rule f
  abbrev pub filled : ℕ → (ℕ → A) → List A → List A
  filled n f l = tab n f ++ drop n l
