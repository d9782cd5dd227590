-- A pattern that passes the test at a fraction is that of the f32 nearest to it, and there is one such f32. Assumes nothing.
use mathlib.Core.Path.{◌≡◌}
use mathlib.Core.Bool.{Bool}
use Prim.Native.Nat.{ℕ, ◌^◌}
use lib.Dec.{T, ltb, ltb→lt}
use lib.Ieee.{Float, binary32, of_bits}
use Rattle.nearest.proofs.Test.{between, Tests}
use Rattle.nearest.proofs.Nearest.{nearest_between, only_one}
use Rattle.tables.specs.Surd.{Surd, scaled, excess, Fraction, Below, Above}
use Rattle.tables.specs.Ratios.{NearestFraction}
use Rattle.tables.proofs.Surd.{one_way, below-mono, above-mono}

abbrev pub less : Surd → Surd → Bool
less x y = ltb (excess x y) (excess y x)

-- m * 2 ^ -150 lies below the fraction x, and above it
abbrev pub below : Fraction → ℕ → Bool
below x m = less (scaled m x.under) (scaled (2 ^ 150) x.over)

abbrev pub above : Fraction → ℕ → Bool
above x m = less (scaled (2 ^ 150) x.over) (scaled m x.under)

abbrev pub near : Fraction → ℕ → Bool
near x = between (below x) (above x)

module _ (x : Fraction) where
  tests : Tests (λ m. Below m (2 ^ 150) x) (λ m. Above m (2 ^ 150) x) (below x) (above x)
  tests = record {
    is_below = λ m. ltb→lt _ _;
    is_above = λ m. ltb→lt _ _;
    lower = λ l m h. below-mono l m (2 ^ 150) x h;
    upper = λ l m h. above-mono l m (2 ^ 150) x h;
  }

  pub nearest : (b : ℕ) → T (near x b) → NearestFraction x (of_bits binary32 b)
  nearest = nearest_between tests

  pub unique : (r s : Float) → NearestFraction x r → NearestFraction x s → r ≡ s
  unique = only_one (λ m. Below m (2 ^ 150) x) (λ m. Above m (2 ^ 150) x) (λ m. one_way (scaled m x.under) (scaled (2 ^ 150) x.over))
