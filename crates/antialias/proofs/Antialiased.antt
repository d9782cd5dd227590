-- What antialias makes of a granule: both numbers of each pair from the old two, and every other place as it was. Assumes nothing.
use mathlib.Core.Path.{◌≡◌, sym, ◌∙◌}
use mathlib.Core.List.{List}
use Prim.Native.Nat.{ℕ, ◌<◌}
use native.Mathlib.Omega.{arith}
use lib.ListN.{length}
use lib.Ieee.{Float, nan}
use Rattle.laws.specs.Lists.{at}
use Rattle.laws.proofs.Lists.{get_d_tab}
use Rattle.side_info.specs.declared.BlockType.{BlockType}
use Rattle.side_info.specs.declared.BlockType.TheVariants.{Short}
use Rattle.antialias.specs.Antialias.{Near, boundaries, lower, upper, lower_after, upper_after, antialiased_at, antialiased}
use Rattle.antialias.proofs.Boundaries.{lower-place, upper-place, other_place, antialiased-none, boundaries-most}

module _ (kind : BlockType) (xs : List Float) where
  rule : (k : ℕ) → k < 576 → at (antialiased kind xs) k ≡ antialiased_at (boundaries kind) xs k
  unfolding antialiased
  rule k h = get_d_tab 576 (antialiased_at (boundaries kind) xs) k nan h

  module _ (sb i : ℕ) (p : 0 < sb) (q : sb < boundaries kind) (j : i < 8) where
    pub lower-is : at (antialiased kind xs) (lower sb i) ≡ lower_after xs sb i
    lower-is = rule (lower sb i) (omega (arith, boundaries-most kind)) ∙ lower-place (boundaries kind) xs sb i p q j

    pub upper_is : at (antialiased kind xs) (upper sb i) ≡ upper_after xs sb i
    upper_is = rule (upper sb i) (omega (arith, boundaries-most kind)) ∙ upper-place (boundaries kind) xs sb i p q j

  pub others_kept : (k : ℕ) → k < 576 → ((sb : ℕ) → 0 < sb → sb < boundaries kind → Near sb 8 k → ⊥) → at (antialiased kind xs) k ≡ at xs k
  others_kept k h far = rule k h ∙ other_place (boundaries kind) xs k far

-- "Short: nothing"
pub short-kept : (xs : List Float) → length xs ≡ 576 → antialiased Short xs ≡ xs
unfolding antialiased
short-kept xs e = sym (antialiased-none xs e)
