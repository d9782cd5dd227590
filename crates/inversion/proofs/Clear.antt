-- Where no NaN is: sixteen numbers two by two, and the places of a subband. Assumes nothing.
use mathlib.Core.Path.{◌≡◌, subst}
use mathlib.Core.Bool.{Bool, true, false, not, ◌&&◌, and-eq-true_iff}
use mathlib.Core.List.{List}
use Prim.Native.Nat.{ℕ, ◌+◌, ◌-◌, ◌*◌, ◌<◌}
use native.Mathlib.Decide.{dec_lt}
use native.Mathlib.Omega.{arith}
use borrow.Author.Tests.{not-true}
use lib.Ieee.{Float, is_nan}
use Rattle.laws.specs.Checks.{all_to}
use Rattle.laws.specs.Lists.{at}
use Rattle.laws.proofs.Checks.{all-each}

module _ (xs : List Float) where
  abbrev pub NoNan : ℕ → Type 0
  NoNan k = is_nan (at xs k) ≡ false

  abbrev pub both_clear : ℕ → ℕ → Bool
  both_clear n i = not (is_nan (at xs (n + i))) && not (is_nan (at xs (n + i + 8)))

  clear_both : (n i : ℕ) → both_clear n i ≡ true → NoNan (n + i) × NoNan (n + i + 8)
  clear_both n i e = let w = (and-eq-true_iff _ _).0 e in (not-true _ w.0, not-true _ w.1)

  pub sixteen : (n : ℕ) → all_to 8 (both_clear n) ≡ true → (i : ℕ) → i < 16 → NoNan (n + i)
  sixteen n e i h = go (dec_lt i 8)
    where
      go : Dec (i < 8) → NoNan (n + i)
      go (yes a) = (clear_both n i (all-each 8 (both_clear n) e i a)).0
      go (no a) =
          let here : n + (i - 8) + 8 ≡ n + i = omega arith in
          subst NoNan here (clear_both n (i - 8) (all-each 8 (both_clear n) e (i - 8) (omega arith))).1

  -- the sixteen from place from on, and the odd place that they leave
  pub seventeen :
      (n from left : ℕ) → 0 < from → from < 3 → left + 16 * from ≡ 33 → ((i : ℕ) → i < 16 → NoNan (n + from + i)) → NoNan (n + left)
      → (p : ℕ) → 0 < p → p < 18 → NoNan (n + p)
  seventeen n from left f f' l run one p a b = go (dec_lt p from) (dec_lt p (from + 16))
    where
      go : Dec (p < from) → Dec (p < from + 16) → NoNan (n + p)
      go (no s) (yes t) = let here : n + from + (p - from) ≡ n + p = omega arith in subst NoNan here (run (p - from) (omega arith))
      go (yes s) _ = let here : n + left ≡ n + p = omega arith in subst NoNan here one
      go (no s) (no t) = let here : n + left ≡ n + p = omega arith in subst NoNan here one
