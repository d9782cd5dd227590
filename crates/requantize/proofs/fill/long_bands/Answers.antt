use borrow.Author.Rules.{rules}
use mathlib.Core.Path.{◌≡◌, ◌∙◌}
use Prim.Native.Nat.{min, ◌+◌}
use native.Mathlib.Omega.{arith}
use lib.ListN.{length, get_or}
use Rattle.laws.proofs.Lists.{filling-none, filling-end}
use Rattle.laws.proofs.Parts.{part_length, filling_run}
use Rattle.bands.specs.Bands.{start, long_starts}
use Rattle.bands.proofs.Tables.{long-bands}
use Rattle.requantize.proofs.Lookup.{holds-part}
use Rattle.requantize.proofs.Walk.{LongTurn, long_turn, long_run}
use Rattle.requantize.proofs.fill.long_bands.Goals as goal
use Rattle.requantize.proofs.fill.long_bands.Goals.{After-min-end}

-- where the run of a turn ends
end_is : (c : After-min-end) → c.min-end.result ≡ min (start (long_starts c.args.table.number) (c.loop-k.k + 1)) c.args.reach
end_is c =
    let next : get_or c.long_bands-starts.result (c.loop-k.k + 1) 0 ≡ start (long_starts c.args.table.number) (c.loop-k.k + 1) = rw c.long_bands-starts.ensures in
    omega (arith, c.min-end.ensures, next)

-- the band that a turn is at
turn : (c : After-min-end) → LongTurn c.args.table.number c.loop-k.k (get_or c.long_bands-starts.result c.loop-k.k 0) c.args.reach c.min-end.result
turn c = long_turn c.args.table.number c.loop-k.k _ c.args.reach c.min-end.result c.args.table.known c.loop-k-test.true (rw c.long_bands-starts.ensures) c.if-reach-begin.false (end_is c)

pub loop-k-init : goal.loop-k-init
loop-k-init c =
    let none : min (start (long_starts c.args.table.number) 0) c.args.reach ≡ 0 = omega (arith, (long-bands c.args.table.number c.args.table.known).begins) in
    (omega arith, rw none (filling-none _ _))

pub slice_bounds-scaled-count : goal.slice_bounds-scaled-count
slice_bounds-scaled-count c = omega (arith, turn (goal.at.slice_bounds-scaled-count c).After-min-end)

pub slice_bounds-scaled-start : goal.slice_bounds-scaled-start
slice_bounds-scaled-start c = omega (arith, turn (goal.at.slice_bounds-scaled-start c).After-min-end)

pub slice_bounds-scaled-count-in-loop-k : goal.slice_bounds-scaled-count-in-loop-k
slice_bounds-scaled-count-in-loop-k c = omega (arith, turn (goal.at.slice_bounds-scaled-count-in-loop-k c).After-min-end)

pub slice_bounds-scaled-start-in-loop-k : goal.slice_bounds-scaled-start-in-loop-k
slice_bounds-scaled-start-in-loop-k c = omega (arith, turn (goal.at.slice_bounds-scaled-start-in-loop-k c).After-min-end)

pub scaled-requires-clause-holds : goal.scaled-requires-clause-holds
scaled-requires-clause-holds c =
    let t = turn (goal.at.scaled-requires-clause-holds c).After-min-end in
    let size : length c.args.numbers.now ≡ 576 = search rules in
    holds-part _ c.min-end.result (omega (arith, t, size, c.requires.reach_bound)) c.requires.holds

pub loop-k-preserved : goal.loop-k-preserved
loop-k-preserved c =
    let l = c.loop-k in
    let e = c.min-end.result in
    let t = turn (goal.at.loop-k-preserved c).After-min-end in
    let number = c.args.table.number in
    let numbers = c.args.numbers.now in
    let b = get_or c.long_bands-starts.result l.k 0 in
    let before : min (start (long_starts number) l.k) c.args.reach ≡ b = omega (arith, t) in
    let after = end_is (goal.at.loop-k-preserved c).After-min-end in
    let size : length numbers ≡ 576 = search rules in
    let room : length c.args.out.now ≡ 576 = search rules in
    let long = part_length b e numbers (omega (arith, t, size, c.requires.reach_bound)) in
    let run = long_run number c.args.side numbers c.args.table.known l.k b e c.loop-k-test.true (omega (arith, t)) t.upto c.long_gain-gain.ensures in
    (omega arith, rw (← after) (filling_run b e (rw before at l.invariant.1) (omega (arith, t)) (omega (arith, t, room, c.requires.reach_bound)) (c.scaled.ensures ∙ rw long) run))

pub returns-after-loop-k : goal.returns-after-loop-k
returns-after-loop-k c =
    let last : c.loop-k.k ≡ 22 = omega arith in
    let all : min (start (long_starts c.args.table.number) c.loop-k.k) c.args.reach ≡ c.args.reach =
    rw last (omega (arith, (long-bands c.args.table.number c.args.table.known).ends, c.requires.reach_bound)) in
    filling-end (rw all at c.loop-k.invariant.1) (omega arith) (omega arith)
