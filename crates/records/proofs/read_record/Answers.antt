use Rattle.std.proofs.Common.{arith, ◌||◌, ◌&&◌}
use Rattle.records.specs.Fields.{wrong_count, wrong_top, wrong_part}
use Rattle.records.specs.Record.{two_channels, granule_at}
use Rattle.records.proofs.Parts.{top_refused, top_is, part_refused, part_is}
use Rattle.records.proofs.read_record.Goals as goal

pub returns-in_err-top-clause-number : goal.returns-in_err-top-clause-number
returns-in_err-top-clause-number c =
    let s = c.args.s.now in
    let w = top_refused (wrong_count s) (wrong_top s) (wrong_part s 4 || (two_channels s && wrong_part s 1226)) _ c.in_err-top.ensures in
    grind arith

pub returns-in_err-left-clause-number : goal.returns-in_err-left-clause-number
returns-in_err-left-clause-number c =
    let s = c.args.s.now in
    let t = top_is (wrong_count s) (wrong_top s) _ c.in_ok-top.ensures in
    let w = part_refused (wrong_part s 4) _ c.in_err-left.ensures in
    grind arith

pub returns-in_err-right-clause-number : goal.returns-in_err-right-clause-number
returns-in_err-right-clause-number c =
    let s = c.args.s.now in
    let t = top_is (wrong_count s) (wrong_top s) _ c.in_ok-top.ensures in
    let l = part_is (wrong_part s 4) _ c.in_ok-left.ensures in
    let w = part_refused (two_channels s && wrong_part s 1226) _ c.in_err-right.ensures in
    grind arith

pub returns-clause-granule : goal.returns-clause-granule
unfolding granule_at
returns-clause-granule c =
    let s = c.args.s.now in
    let t = top_is (wrong_count s) (wrong_top s) _ c.in_ok-top.ensures in
    let l = part_is (wrong_part s 4) _ c.in_ok-left.ensures in
    let r = part_is (two_channels s && wrong_part s 1226) _ c.in_ok-right.ensures in
    rw (c.granule_of.ensures, t.2, l.1, r.1)
