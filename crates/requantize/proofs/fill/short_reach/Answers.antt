use mathlib.Core.Path.{◌≡◌}
use native.Mathlib.Omega.{arith}
use Rattle.bands.specs.Bands.{short_starts, short_begin}
use Rattle.bands.proofs.Cover.{in_order, at_most}
use Rattle.bands.proofs.Tables.{short-bands}
use Rattle.requantize.proofs.Walk.{reach_ends}
use Rattle.requantize.proofs.fill.short_reach.Goals as goal

pub overflow_mul-begin : goal.overflow_mul-begin
overflow_mul-begin c =
    let t = c.args.table in
    rw c.short_bands-starts.ensures (omega (arith, at_most 13 192 (short_starts t.number) (short-bands t.number t.known) c.loop-k.k (omega arith)))

pub returns-then-count1-begin : goal.returns-then-count1-begin
returns-then-count1-begin c =
    let l = c.loop-k in
    let t = c.args.table in
    let b = short-bands t.number t.known in
    let starts = c.short_bands-starts.ensures in
    rw starts (
      omega (arith, in_order 13 192 (short_starts t.number) b c.args.from l.k l.invariant.0 l.invariant.1),
      omega (arith, at_most 13 192 (short_starts t.number) b l.k l.invariant.1),
      reach_ends t.number t.known c.args.from l.k c.args.count1 (omega arith) l.invariant.1 l.invariant.2 (rw starts at c.if-count1-begin.true),
    )

pub returns : goal.returns
returns c =
    let l = c.loop-k in
    let t = c.args.table in
    let b = short-bands t.number t.known in
    let last : l.k ≡ 13 = omega arith in
    let all : short_begin (short_starts t.number) 13 ≡ 576 = omega (arith, b.ends) in (
      omega (arith, at_most 13 192 (short_starts t.number) b c.args.from (omega arith)),
      omega arith,
      λ i a u. rw all at (reach_ends t.number t.known c.args.from 13 c.args.count1 (omega arith) (omega arith) (rw last at l.invariant.2) (omega arith) i a u),
    )
