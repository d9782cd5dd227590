use mathlib.Core.Path.{◌≡◌}
use Prim.Native.Nat.{ℕ, ◌+◌, ◌*◌, ◌/◌, ◌%◌, ◌<◌}
use native.Mathlib.Omega.{arith}
use lib.Dec.{lit<}
use lib.ListN.{length-set}
use Rattle.laws.specs.Lists.{at}
use Rattle.laws.proofs.Lists.{filling-none, filling-three, filling-whole}
use Rattle.reorder.proofs.Triples.{triple_from}
use Rattle.reorder.proofs.interleave.Goals as goal

pub loop-j-init : goal.loop-j-init
loop-j-init c = (omega arith, filling-none _ _)

pub bounds-triples-triple : goal.bounds-triples-triple
bounds-triples-triple c = omega (arith, c.loop-j.invariant.1.long)

pub bounds-triples-triple-in-loop-j : goal.bounds-triples-triple-in-loop-j
bounds-triples-triple-in-loop-j c = simp length-set (omega (arith, c.loop-j.invariant.1.long))

pub bounds-triples-triple-in-loop-j-2 : goal.bounds-triples-triple-in-loop-j-2
bounds-triples-triple-in-loop-j-2 c = simp length-set (omega (arith, c.loop-j.invariant.1.long))

pub loop-j-preserved : goal.loop-j-preserved
loop-j-preserved c =
    let l = c.loop-j in
    let w = c.args.width in
    let windows = c.args.windows.now in
    let next : 3 * l.j + 3 ≡ 3 * (l.j + 1) = omega arith in
    let from : (win o k : ℕ) → win < 3 → o ≡ 3 * l.j + win → k ≡ win * w + l.j → at windows k ≡ at windows (o % 3 * w + o / 3) =
    λ win o k h e q. rw (q, triple_from w l.j win o h e) in (
      omega arith,
      rw (← next) (filling-three (3 * l.j) l.invariant.1 (omega arith)
          (from 0 (3 * l.j) l.j (lit< tt) (omega arith) (omega arith))
          (from 1 (3 * l.j + 1) (w + l.j) (lit< tt) (omega arith) (omega arith))
          (from 2 (3 * l.j + 2) (2 * w + l.j) (lit< tt) (omega arith) (omega arith))),
    )

pub returns : goal.returns
returns c = filling-whole c.loop-j.invariant.1 c.requires.1 (omega arith) (omega arith)
