use mathlib.Core.Path.{◌≡◌, ap, ◌∙◌}
use Prim.Native.Nat.{max}
use native.Mathlib.Omega.{arith}
use borrow.Author.Tests.{not-true}
use lib.Seq.{length-take-le}
use Rattle.laws.proofs.Checks.{all-each}
use Rattle.laws.proofs.Largest.{largest-none, largest_turn, largest-end}
use Rattle.synthesis.specs.Synthesis.{level, peak_of}
use Rattle.synthesis.proofs.Levels.{front-at}
use Rattle.synthesis.proofs.highest_level.Goals as goal

pub loop-output-init : goal.loop-output-init
loop-output-init c = (omega arith, largest-none _)

pub level-requires : goal.level-requires
level-requires c e =
    let l = c.loop-output in
    let long = length-take-le 576 c.args.outputs.now c.requires.in_bounds in
    rw (front-at c.args.outputs.now l.output-index (omega (arith, long))) (not-true _ (all-each 576 _ (c.requires.p_value e) l.output-index (omega (arith, long))))

pub loop-output-preserved : goal.loop-output-preserved
loop-output-preserved c =
    let l = c.loop-output in
    let xs = c.args.outputs.now in
    let long = length-take-le 576 xs c.requires.in_bounds in
    let there = ap level (front-at xs l.output-index (omega (arith, long))) in
    let higher : c.max-highest.result ≡ max l.highest c.level.result = omega (arith, c.max-highest.ensures) in
    (omega (arith, long), largest_turn _ l.output-index l.invariant.1 (c.level.ensures ∙ there) higher)

pub returns : goal.returns
unfolding peak_of
returns c =
    let l = c.loop-output in
    let long = length-take-le 576 c.args.outputs.now c.requires.in_bounds in
    largest-end _ 576 l.output-index l.invariant.1 (omega arith) (omega (arith, long))
