-- Short bands from band 0 on; long bands below position 36, where short band 3 begins, and short ones from there; or long bands and then the rest. Assumes nothing.
use lib.ListN.{length}
use borrow.Author.Rules.{rules}
use mathlib.Core.Path.{◌≡◌, sym, ◌∙◌}
use mathlib.Core.Bool.{cond}
use native.Mathlib.Omega.{arith}
use lib.Dec.{ltb, lit≤}
use lib.Ieee.{nan}
use borrow.Author.Tests.{le-ltb}
use Rattle.laws.proofs.Joined.{fills_joined, joined_all}
use Rattle.laws.proofs.Lists.{tab-same, Fills, fills-none, filled-fills}
use Rattle.side_info.proofs.LongKinds.{long-kind}
use Rattle.bands.specs.Bands.{short_starts, short_begin}
use Rattle.bands.proofs.Tables.{short-bands, short_change}
use Rattle.requantize.specs.Requantize.{raw_at, long_at, long_reached, short_reached, requantized}
use Rattle.requantize.proofs.Passed.{accepted}
use Rattle.requantize.proofs.by_table.Goals as goal
use Rattle.requantize.proofs.by_table.Goals.{After-long_bands-in-Long, Start}

room : (c : Start) → length c.args.out.now ≡ 576
room c = search rules

-- nothing lies before short band 0
none : (c : Start) → short_begin (short_starts c.args.table.number) 0 ≡ 0
none c = omega (arith, (short-bands c.args.table.number c.args.table.known).begins)

change : (c : Start) → short_begin (short_starts c.args.table.number) 3 ≡ 36
change c = omega (arith, short_change c.args.table.number c.args.table.known)

-- what the long bands below `count1` leave, by the whole block's rule
below-count1 : (c : After-long_bands-in-Long) → Fills 576 (long_reached c.args.table.number c.args.side c.args.numbers.now) c.args.side.count1 c.long_bands-in-Long.new.out
below-count1 c =
    fills_joined (raw_at c.args.numbers.now) (filled-fills c.args.out.now (search rules) (accepted c.args.table.number c.args.side c.args.numbers.now c.requires.accepted).count c.long_bands-in-Long.ensures)

pub short_bands-requires-clause-long_done : goal.short_bands-requires-clause-long_done
short_bands-requires-clause-long_done c =
    let start = fills-none 576 (long_at c.args.table.number c.args.side c.args.numbers.now) c.args.out.now (room (goal.at.short_bands-requires-clause-long_done c).Start) in
    rw (none (goal.at.short_bands-requires-clause-long_done c).Start) start.done

pub short_bands-requires-in-Mixed-clause-long_done : goal.short_bands-requires-in-Mixed-clause-long_done
short_bands-requires-in-Mixed-clause-long_done c =
    rw (change (goal.at.short_bands-requires-in-Mixed-clause-long_done c).Start) (filled-fills c.args.out.now (room (goal.at.short_bands-requires-in-Mixed-clause-long_done c).Start) (lit≤ tt) c.long_bands.ensures).done

pub returns-in-Short : goal.returns-in-Short
unfolding requantized
returns-in-Short c =
    let long = long_at c.args.table.number c.args.side c.args.numbers.now in
    let short = short_reached c.args.table.number c.args.side c.args.numbers.now in
    let rest = tab-same 576 (λ i. cond (ltb i 0) (long i) (short i)) short (λ i h. rw (le-ltb i 0 (omega arith))) in
    (rw (none (goal.at.returns-in-Short c).Start) at c.short_bands.ensures) ∙ rest ∙ rw c.in-Short.is

pub returns-in-Mixed : goal.returns-in-Mixed
unfolding requantized
returns-in-Mixed c = (rw (change (goal.at.returns-in-Mixed c).Start) at c.short_bands-in-Mixed.ensures) ∙ rw c.in-Mixed.is

pub returns-in-Long : goal.returns-in-Long
unfolding requantized
returns-in-Long c =
    let xs = c.args.numbers.now in
    let size : length xs ≡ 576 = search rules in
    (rw size at c.raw_from.ensures)
    ∙ joined_all (below-count1 (goal.at.returns-in-Long c).After-long_bands-in-Long) nan (raw_at xs) (λ i h u. sym (rw (le-ltb i c.args.side.count1 h)))
    ∙ sym (tab-same 576 _ _ (λ i h. long-kind c.args.side.block_type c.in-Long.is _ _ _))
