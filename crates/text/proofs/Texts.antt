-- Texts stored one after the other. Assumes nothing.
use mathlib.Core.Path.{◌≡◌, refl, ◌∙◌}
use mathlib.Core.List.{List, [], ◌∷◌, ◌++◌, append_assoc}
use Prim.Native.Nat.{ℕ, suc, ◌+◌, ◌<◌}
use native.Mathlib.Nat.{add-zero}
use native.Mathlib.Numerals.{add-one}
use native.Mathlib.Omega.{arith}
use lib.ListN.{length, get_or, take, drop, set, length-append, take-append-drop}
use lib.Seq.{take_at, drop-append-add, drop-drop, take-suc, set_at, length-take-le}
use Rattle.text.specs.Line.{stored}

-- what a list holds whose front was overwritten by a text
abbrev pub written : List ℕ → List ℕ → List ℕ
written text l = text ++ drop (length text) l

-- one more: the place after the text, and the text
pub more_written : (l text more : List ℕ) {at r : ℕ} {to out : List ℕ} → (at ≡ length text) × (to ≡ written text l) → (r ≡ at + length more) × (out ≡ stored more at to)
    → (r ≡ length (text ++ more)) × (out ≡ written (text ++ more) l)
unfolding stored
more_written l text more w v =
    (v.0 ∙ rw (w.0, length-append), v.1 ∙ rw (w.0, w.1, take_at text (drop (length text) l) (length text) refl, drop-append-add, length-append, append_assoc, drop-drop))

pub stored-none : (at : ℕ) (l : List ℕ) → stored [] at l ≡ l
unfolding stored
stored-none at l = rw add-zero (take-append-drop at l)

-- one character more in front of the text
pub stored-front : (c : ℕ) (text l : List ℕ) (at : ℕ) → at < length l → set (stored text (at + 1) l) at c ≡ stored (c ∷ text) at l
unfolding stored
stored-front c text l at h =
    let e : at + 1 + length text ≡ at + suc (length text) = omega arith in
    rw (e, add-one, take-suc l at 0, append_assoc) (set_at (take at l) (get_or l at 0) (text ++ drop (at + suc (length text)) l) c at (length-take-le at l (omega arith)))
