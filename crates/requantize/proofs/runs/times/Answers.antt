use lib.ListN.{length}
use mathlib.Core.Path.{◌≡◌, ◌∙◌}
use Prim.Native.Nat.{◌<◌}
use native.Mathlib.Omega.{arith}
use lib.IntN.{ℤ, pos, nat_abs}
use lib.Ieee.{nan}
use borrow.Author.Rules.{rules}
use mir.Syntax.{w16}
use mir.Val.{to_z, of_z}
use mir.ValLaws.{to_z-of_z}
use Rattle.laws.proofs.Lists.{filling-none, filling_more, filling-whole}
use Rattle.laws.proofs.Parts.{filling-rest}
use Rattle.requantize.specs.Requantize.{number_at}
use Rattle.requantize.proofs.runs.times.Goals as goal
use Rattle.requantize.proofs.runs.times.Goals.{After-out-1}

module _ (c : After-out-1) where
  abbrev number : ℤ
  number = number_at c.args.places.now c.loop-i.i

  asked : (nat_abs number < 4104) × (number ≡ pos (nat_abs number))
  asked = c.requires.places_fit c.loop-i.i (omega arith)

  -- the place as the code finds it
  place : to_z w16 (of_z w16 number) ≡ pos (nat_abs number)
  place = to_z-of_z w16 number (search rules) ∙ asked.1

pub loop-i-init : goal.loop-i-init
loop-i-init c = (omega arith, filling-none _ _)

pub loop-i-preserved : goal.loop-i-preserved
loop-i-preserved c =
    let l = c.loop-i in
    (omega arith, filling_more l.invariant.1 (omega arith) (rw (place (goal.at.loop-i-preserved c).After-out-1, filling-rest nan l.invariant.1 l.i (omega arith))))

pub returns : goal.returns
returns c =
    let long : length c.args.out.now ≡ 576 = search rules in
    filling-whole c.loop-i.invariant.1 long (omega arith) (omega arith)
