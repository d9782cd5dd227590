-- In place an answer is determined too: the number, the history, the room and both peaks. Assumes nothing.
use mathlib.Core.Path.{◌≡◌}
use mathlib.Core.List.{List}
use Prim.Native.Nat.{ℕ}
use lib.Ieee.{Float}
use Rattle.laws.proofs.Determined.{same}
use Rattle.history.specs.declared.History.{History}
use Rattle.backend.specs.Calls.{Answer}
use Rattle.render_record.specs.RecordAnswer.{InPlace}

pub in_place_determined : {a : Answer} {n m : ℕ} {h k : History} {x y : List Float} {l p r q : ℕ} → InPlace a n h x l r → InPlace a m k y p q → (n ≡ m) × (h ≡ k) × (x ≡ y) × (l ≡ p) × (r ≡ q)
in_place_determined e f =
    (same e.answers f.answers, same e.leaves f.leaves, same e.fills f.fills, same e.left_peak f.left_peak, same e.right_peak f.right_peak)
