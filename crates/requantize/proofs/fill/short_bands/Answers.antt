use borrow.Author.Rules.{rules}
use mathlib.Core.Path.{◌≡◌, sym, ◌∙◌}
use Prim.Native.Nat.{ℕ, ◌+◌, ◌*◌, ◌<◌, ◌≤◌}
use native.Mathlib.Omega.{arith}
use lib.Ieee.{nan}
use lib.ListN.{length, get_or}
use borrow.Author.Tests.{le-ltb}
use Rattle.laws.proofs.Joined.{fills_joined, joined_all}
use Rattle.laws.proofs.Parts.{part_length, fills_run}
use Rattle.bands.specs.Bands.{short_starts, short_begin}
use Rattle.bands.proofs.Cover.{in_order, at_most}
use Rattle.bands.proofs.Tables.{short-bands}
use Rattle.bands.proofs.ShortTurns.{ShortTurn, short_turn}
use Rattle.requantize.specs.Requantize.{raw_at, short_reached}
use Rattle.requantize.proofs.Lookup.{holds-part}
use Rattle.requantize.proofs.Walk.{rule, short_run, begins_below, not_reached, fills_less}
use Rattle.requantize.proofs.fill.short_bands.Goals as goal
use Rattle.requantize.proofs.fill.short_bands.Goals.{At-loop-k, In-loop-k, else-loop-k-test, then-loop-k-test+then-reach-begin}

-- the band that a turn is at
turn : (c : In-loop-k) → let first = get_or c.short_bands-starts.result c.loop-k.k 0 in ShortTurn c.args.table.number c.loop-k.k (3 * first) (get_or c.short_bands-starts.result (c.loop-k.k + 1) 0)
turn c =
    let starts = c.short_bands-starts.ensures in
    short_turn c.args.table.number c.loop-k.k _ _ c.args.table.known c.loop-k-test.true (rw starts) (rw starts)

-- from band `from` on the rule is that of short bands
later : (c : At-loop-k) (i : ℕ) → short_begin (short_starts c.args.table.number) c.args.from ≤ i
    → short_reached c.args.table.number c.args.side c.args.numbers.now i ≡ rule c.args.table.number c.args.side c.args.from c.args.numbers.now i
later c i h = sym (rw (le-ltb i (short_begin (short_starts c.args.table.number) c.args.from) h))

pub loop-k-init : goal.loop-k-init
loop-k-init c =
    let long : length c.args.out.now ≡ 576 = search rules in
    let done = fills_joined (short_reached c.args.table.number c.args.side c.args.numbers.now) (record { long = long; done = c.requires.long_done }) in
    (omega arith, omega arith, done)

pub overflow_mul-begin : goal.overflow_mul-begin
overflow_mul-begin c = omega (arith, turn (goal.at.overflow_mul-begin c).In-loop-k)

pub overflow_mul-end : goal.overflow_mul-end
overflow_mul-end c = omega (arith, turn (goal.at.overflow_mul-end c).In-loop-k)

pub overflow_sub-width : goal.overflow_sub-width
overflow_sub-width c = omega (arith, turn (goal.at.overflow_sub-width c).In-loop-k)

pub slice_bounds-short_windows-count : goal.slice_bounds-short_windows-count
slice_bounds-short_windows-count c = omega (arith, turn (goal.at.slice_bounds-short_windows-count c).In-loop-k)

pub slice_bounds-short_windows-start : goal.slice_bounds-short_windows-start
slice_bounds-short_windows-start c = omega (arith, turn (goal.at.slice_bounds-short_windows-start c).In-loop-k)

pub slice_bounds-short_windows-end : goal.slice_bounds-short_windows-end
slice_bounds-short_windows-end c = omega (arith, turn (goal.at.slice_bounds-short_windows-end c).In-loop-k)

pub slice_bounds-short_windows-count-in-loop-k : goal.slice_bounds-short_windows-count-in-loop-k
slice_bounds-short_windows-count-in-loop-k c = omega (arith, turn (goal.at.slice_bounds-short_windows-count-in-loop-k c).In-loop-k)

pub slice_bounds-short_windows-start-in-loop-k : goal.slice_bounds-short_windows-start-in-loop-k
slice_bounds-short_windows-start-in-loop-k c = omega (arith, turn (goal.at.slice_bounds-short_windows-start-in-loop-k c).In-loop-k)

pub short_windows-requires-clause-holds : goal.short_windows-requires-clause-holds
short_windows-requires-clause-holds c =
    let t = turn (goal.at.short_windows-requires-clause-holds c).In-loop-k in
    let size : length c.args.numbers.now ≡ 576 = search rules in
    (holds-part _ (3 * get_or c.short_bands-starts.result (c.loop-k.k + 1) 0) (omega (arith, t, size)) c.requires.holds)

pub short_windows-requires-clause-room : goal.short_windows-requires-clause-room
short_windows-requires-clause-room c =
    let l = c.loop-k in
    let t = turn (goal.at.short_windows-requires-clause-room c).In-loop-k in
    let size : length c.args.numbers.now ≡ 576 = search rules in
    let b = 3 * get_or c.short_bands-starts.result l.k 0 in
    let e = 3 * get_or c.short_bands-starts.result (l.k + 1) 0 in (
      t.band,
      omega (arith, t),
      part_length b e c.args.numbers.now (omega (arith, t, size)) ∙ t.three,
      part_length b e l.out (omega (arith, t, l.invariant.2.long)) ∙ t.three,
    )

pub loop-k-preserved : goal.loop-k-preserved
loop-k-preserved c =
    let l = c.loop-k in
    let a = c.args in
    let t = turn (goal.at.loop-k-preserved c).In-loop-k in
    let starts = c.short_bands-starts.ensures in
    let b = 3 * get_or c.short_bands-starts.result l.k 0 in
    let e = 3 * get_or c.short_bands-starts.result (l.k + 1) 0 in
    let numbers = a.numbers.now in
    let begin : b ≡ short_begin (short_starts a.table.number) l.k = rw starts in
    let reach = c.short_reach-reach in
    let below : b < a.side.count1 = rw begin (begins_below a.table.number a.from l.k a.side.count1 reach.result a.table.known l.invariant.0 t.band reach.ensures.2 (omega (arith, begin, c.if-reach-begin.false))) in
    let run = short_run a.table.number a.side numbers a.table.known l.k b e t.band begin t.end below t.wide in
    let order = in_order 13 192 (short_starts a.table.number) (short-bands a.table.number a.table.known) a.from l.k l.invariant.0 (omega arith) in (
      omega arith,
      omega arith,
      rw (← t.end) (fills_run b e (rw (← begin) at l.invariant.2) (omega (arith, t)) (omega (arith, t)) (rw (← t.three) at c.short_windows.ensures)
          (λ i h. run i h ∙ later (goal.at.loop-k-preserved c).At-loop-k (b + i) (omega arith))),
    )

pub returns : goal.returns
returns c =
    let l = c.loop-k in
    let a = c.args in
    let xs = a.numbers.now in
    let r = c.short_reach-reach in
    let b = short-bands a.table.number a.table.known in
    let most = at_most 13 192 (short_starts a.table.number) b l.k l.invariant.1 in
    -- the bands that are done go on to where the reach ends
    let ended : r.result ≤ short_begin (short_starts a.table.number) l.k = elim c.loop-k-test.branch [
      | else-loop-k-test w ↦ let last : l.k ≡ 13 = omega (arith, w.loop-k-test.false) in rw last (omega (arith, b.ends, r.ensures.1))
      | then-loop-k-test+then-reach-begin w ↦ rw c.short_bands-starts.ensures at w.if-reach-begin.true
    ] in
    let done = fills_less r.result l.invariant.2 ended (omega arith) in
    let size : length xs ≡ 576 = search rules in
    (rw size at c.raw_from.ensures)
    ∙ joined_all done nan (raw_at xs)
    (λ i h u. not_reached a.table.number a.side xs a.table.known r.result i (r.ensures.2 i (omega (arith, r.ensures.0)) u) h ∙ later (goal.at.returns c).At-loop-k i (omega (arith, r.ensures.0)))
