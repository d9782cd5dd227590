-- The array is filled by halves, each of which is lent and comes back. Assumes nothing.
use mathlib.Core.Path.{◌≡◌, refl, sym, ap, ◌∙◌}
use mathlib.Core.List.{List, ◌++◌}
use Prim.Native.Nat.{ℕ, ◌+◌}
use native.Mathlib.Nat.{zero-add}
use native.Mathlib.Omega.{arith}
use lib.Ieee.{Float}
use lib.ListN.{take, drop, replicate}
use Rattle.laws.specs.Lists.{tab}
use Rattle.laws.specs.Sum.{zero_f}
use Rattle.laws.proofs.Lists.{Fills, fills-none, fills-all}
use Rattle.laws.proofs.Parts.{fills_run}
use Rattle.imdct.proofs.window_places.Goals as goal

-- the first half is done
abbrev halfway : List Float → List Float
halfway ys = take 0 (replicate 12 zero_f) ++ (ys ++ drop 6 (drop 0 (replicate 12 zero_f)))

module _ (f : ℕ → Float) {ys : List Float} (e : ys ≡ tab 6 f) where
  half : Fills 12 f 6 (halfway ys)
  half = fills_run 0 6 (fills-none 12 f (replicate 12 zero_f) refl) (omega arith) (omega arith) e (λ p _. ap f (sym (zero-add p)))

  whole : {zs : List Float} → zs ≡ tab 6 (λ p. f (6 + p)) → take 6 (halfway ys) ++ (zs ++ drop 6 (drop 6 (halfway ys))) ≡ tab 12 f
  whole z = fills-all (fills_run 6 12 half (omega arith) (omega arith) z (λ p _. refl)) (omega arith) (omega arith)

pub returns : goal.returns
returns c = whole _ (c.copy_from_slice.ensures.after ∙ c.first_half.ensures) (c.copy_from_slice-2.ensures.after ∙ c.second_half.ensures)
