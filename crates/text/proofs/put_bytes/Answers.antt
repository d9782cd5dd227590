-- The part that was lent came back as the bytes. Assumes nothing.
use mathlib.Core.Path.{◌≡◌}
use Prim.Native.Nat.{◌+◌, ◌-◌}
use native.Mathlib.Omega.{arith}
use lib.ListN.{length}
use lib.Seq.{drop-drop}
use Rattle.text.specs.Line.{stored}
use Rattle.text.proofs.put_bytes.Goals as goal

pub returns-clause-text : goal.returns-clause-text
unfolding stored
returns-clause-text c =
    let n : c.args.at + length c.args.from.now - c.args.at ≡ length c.args.from.now = omega arith in
    rw (c.copy_from_slice.ensures.after, n, drop-drop)
