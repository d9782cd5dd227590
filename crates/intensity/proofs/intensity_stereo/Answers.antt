-- The long runs and then the short ones, over the table's starts, scale each place once. Assumes nothing.
use borrow.Author.Rules.{rules}
use Rattle.intensity.specs.Intensity.{left_ratio, right_ratio}
use Rattle.intensity.proofs.ByKind.{scaled_both}
use Rattle.intensity.proofs.Runs.{long_laid, short_laid}
use Rattle.intensity.proofs.intensity_stereo.Goals as goal

pub invariant_of-long : goal.invariant_of-long
invariant_of-long c = record { laid = long_laid c.args.table.number c.args.table.known c.long_bands-starts.ensures (search rules) }

pub invariant_of-short : goal.invariant_of-short
invariant_of-short c = record { laid = short_laid c.args.table.number c.args.table.known c.short_bands-starts.ensures (search rules) }

pub returns : goal.returns
returns c =
    let e = c.args.edition in
    let t = c.args.table.number in
    let known = c.args.table.known in
    let a = c.args.a in
    let b = c.args.b in
    let positions = c.positions_of-side.ensures in
    let low = c.long_bands-starts.ensures in
    let high = c.short_bands-starts.ensures in
    let f = c.args.from.now in
    let long = rw (low, positions, c.reach_of-reach.ensures.0) at c.scale.ensures in
    let short = rw (high, positions, c.reach_of-reach.ensures.1) at c.scale-2.ensures in record {
      left = (scaled_both left_ratio f e t known a b c.args.left.now (record { is = long.left }) (record { is = short.left })).is;
      right = (scaled_both right_ratio f e t known a b c.args.right.now (record { is = long.right }) (record { is = short.right })).is;
    }
