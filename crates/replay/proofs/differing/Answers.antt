use mathlib.Core.Path.{◌≡◌, sym, ap, ◌∙◌}
use mathlib.Core.Bool.{Bool}
use mathlib.Core.List.{List}
use Prim.Native.Nat.{ℕ, ◌+◌, ◌*◌}
use native.Mathlib.Omega.{arith}
use lib.Ieee.{Float}
use lib.ListN.{length}
use Rattle.laws.specs.Lists.{at}
use Rattle.little_endian.specs.Bytes.{float_at}
use Rattle.replay.specs.Differing.{agrees}
use Rattle.replay.proofs.Misses.{misses-none, misses_hit, misses_miss}
use Rattle.replay.proofs.differing.Goals as goal
use Rattle.replay.proofs.differing.Goals.{then-not-agrees, else-not-agrees}

-- the test that the loop counts misses of
abbrev test : Bool → List Float → List ℕ → ℕ → ℕ → Bool
test loose xs s from k = agrees loose (at xs k) (float_at s (from + 4 * k))

pub loop-i-init : goal.loop-i-init
loop-i-init c = (omega arith, omega arith, misses-none _)

pub loop-i-preserved : goal.loop-i-preserved
loop-i-preserved c =
    let l = c.loop-i in
    let a = c.args in
    let xs = a.xs.now in
    let s = a.s.now in
    let told = sym (c.agrees.ensures ∙ ap (agrees a.loose (at xs l.i)) c.float_at.ensures) in (
      omega arith,
      elim c.if-not-agrees.branch [ then-not-agrees w ↦ omega arith | else-not-agrees w ↦ omega arith ],
      elim c.if-not-agrees.branch [
        | then-not-agrees w ↦ w.n-is ∙ ap (λ (n : ℕ). n + 1) l.invariant.2 ∙ misses_miss (test a.loose xs s a.from) l.i (told ∙ w.if-not-agrees.true)
        | else-not-agrees w ↦ w.n-is ∙ l.invariant.2 ∙ misses_hit (test a.loose xs s a.from) l.i (told ∙ w.if-not-agrees.false)
      ],
    )

pub returns : goal.returns
returns c =
    let l = c.loop-i in
    let e : l.i ≡ length c.args.xs.now = omega arith in
    record { value = rw e at l.invariant.2; upper_bound = omega arith }
