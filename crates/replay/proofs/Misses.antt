-- A loop over the places keeps the count of a test's misses. Assumes nothing.
use mathlib.Core.Path.{◌≡◌, refl, sym}
use mathlib.Core.Bool.{Bool, true, false}
use Prim.Native.Nat.{ℕ, ◌+◌}
use native.Mathlib.Nat.{add-zero}
use native.Mathlib.Numerals.{add-one}
use Rattle.replay.specs.Misses.{misses}

module _ (test : ℕ → Bool) where
  pub misses-none : 0 ≡ misses test 0
  unfolding misses
  misses-none = refl

  pub misses_hit : (i : ℕ) → test i ≡ true → misses test i ≡ misses test (i + 1)
  unfolding misses
  misses_hit i e = rw (add-one i, e) (sym (add-zero (misses test i)))

  pub misses_miss : (i : ℕ) → test i ≡ false → misses test i + 1 ≡ misses test (i + 1)
  unfolding misses
  misses_miss i e = rw (add-one i, e)
