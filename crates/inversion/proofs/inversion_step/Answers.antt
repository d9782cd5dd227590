use mathlib.Core.Path.{◌≡◌, refl, subst}
use mathlib.Core.List.{[], ◌∷◌}
use Prim.Native.Nat.{ℕ, zero, suc, ◌+◌, ◌*◌, ◌<◌}
use native.Mathlib.Omega.{arith}
use lib.ListN.{get_or}
use Rattle.laws.proofs.Changed.{changed_none}
use Rattle.inversion.specs.Inversion.{inverted}
use Rattle.inversion.proofs.Negated.{Done, Odds, odds_more, odds_end}
use Rattle.inversion.proofs.inversion_step.Goals as goal

-- the two numbers that are gone through
number : (i : ℕ) → i < 2 → get_or (1 ∷ 3 ∷ []) i 0 ≡ 1 + 2 * i
number zero h = refl
number (suc zero) h = refl
number (suc (suc i)) h = absurd (omega arith)

pub loop-sb-init : goal.loop-sb-init
loop-sb-init c = (omega arith, changed_none (λ k w. omega arith))

pub loop-sb-preserved : goal.loop-sb-preserved
loop-sb-preserved c =
    let l = c.loop-sb in
    let xs = c.args.samples.now in
    let i = l.sb-index in
    let next : 1 + 2 * i + 2 ≡ 1 + 2 * (i + 1) = omega arith in
    let done = odds_more xs c.told-samples (1 + 2 * i) (omega arith) l.invariant.1 (rw (number i c.loop-sb-test.true) at c.eight_subbands.ensures) in
    (omega arith, subst (λ (n : ℕ). Done xs (Odds n) c.eight_subbands.new.samples) next done)

pub returns : goal.returns
unfolding inverted
returns c = odds_end c.args.samples.now c.told-samples (1 + 2 * c.loop-sb.sb-index) (omega arith) c.loop-sb.invariant.1
