use mathlib.Core.Path.{◌≡◌}
use Prim.Native.Nat.{ℕ, ◌+◌, ◌-◌}
use native.Mathlib.Omega.{arith}
use Rattle.text.specs.Digits.{digit_count_to, digit_count}
use Rattle.text.proofs.Digits.{count-one, count_more}
use Rattle.text.proofs.digit_count.Goals as goal

start : (n : ℕ) → 1 + digit_count_to 19 n ≡ digit_count n + 1
unfolding digit_count
start n = omega arith

pub loop-rest-init : goal.loop-rest-init
loop-rest-init c = (omega arith, omega arith, omega arith, start _)

pub loop-rest-preserved : goal.loop-rest-preserved
loop-rest-preserved c =
    let l = c.loop-rest in
    let more = count_more l.count l.rest l.invariant.0 l.invariant.1 l.invariant.2 c.loop-rest-test.true in
    (omega arith, more.0, more.1, omega (arith, more.2, l.invariant.3))

pub returns : goal.returns
returns c =
    let l = c.loop-rest in
    omega (arith, count-one (20 - l.count) l.rest c.loop-rest-test.false, l.invariant.3)
