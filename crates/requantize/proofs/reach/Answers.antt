-- All that short bands reach; all below position 36 and what they reach from there; or all below `count1`. Assumes nothing.
use mathlib.Core.Path.{◌≡◌, sym, ◌∙◌}
use mathlib.Core.Bool.{Bool, ◌||◌}
use Prim.Native.Nat.{ℕ, ◌<◌, ◌≤◌}
use native.Mathlib.Decide.{dec_lt}
use native.Mathlib.Omega.{arith}
use lib.Dec.{ltb}
use borrow.Author.Tests.{lt-ltb, le-ltb}
use Rattle.bands.proofs.Tables.{short-bands, short_change}
use Rattle.requantize.proofs.reach.Goals as goal

mixed : (i r : ℕ) (b : Bool) → 36 ≤ r → (36 ≤ i → ltb i r ≡ b) → ltb i r ≡ (ltb i 36 || b)
mixed i r b h e = split (dec_lt i 36)
  where
    split : Dec (i < 36) → ltb i r ≡ (ltb i 36 || b)
    split (yes l) = lt-ltb i r (omega arith) ∙ sym (rw (lt-ltb i 36 l))
    split (no l) = e (omega arith) ∙ sym (rw (le-ltb i 36 (omega arith)))

pub returns-in-Short : goal.returns-in-Short
returns-in-Short c = (c.short_reach.ensures.1, λ i h. c.short_reach.ensures.2 i (omega (arith, (short-bands c.args.table.number c.args.table.known).begins)) h ∙ sym (rw c.in-Short.is))

pub returns-in-Mixed : goal.returns-in-Mixed
returns-in-Mixed c =
    let change = short_change c.args.table.number c.args.table.known in
    let q = c.short_reach-in-Mixed in
    (q.ensures.1, λ i h. mixed i q.result _ (omega (arith, change, q.ensures.0)) (λ l. q.ensures.2 i (omega (arith, change)) h) ∙ sym (rw c.in-Mixed.is))
