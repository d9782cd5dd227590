-- By the parts the sizes come first, and each used channel's signs then. Assumes nothing.
use mathlib.Core.Path.{sym, ◌∙◌}
use Rattle.backend.proofs.Passed.{left_passes, right_passes}
use Rattle.backend.proofs.granule_numbers.Goals as goal

pub sign_step-requires : goal.sign_step-requires
sign_step-requires c =
    let a = c.args.a in
    record { accepted = rw a.table_named (left_passes a.granule.now a.passes); sized = rw a.table_named c.by_parts.ensures.left }

pub sign_step-requires-then-two : goal.sign_step-requires-then-two
sign_step-requires-then-two c =
    let a = c.args.a in
    let both = sym c.two.ensures ∙ c.if-two.true in
    record { accepted = rw a.table_named (right_passes a.granule.now a.passes both); sized = rw a.table_named (c.by_parts.ensures.right both) }
