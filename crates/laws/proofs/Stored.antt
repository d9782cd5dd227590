-- What a list holds after a run of stores: the run where it lies, and elsewhere what it held. Assumes nothing.
use mathlib.Core.Path.{◌≡◌, ap, subst, ◌∙◌}
use mathlib.Core.List.{List, ◌++◌, append_assoc}
use Prim.Native.Nat.{ℕ, ◌+◌, ◌-◌, ◌<◌, ◌≤◌}
use native.Mathlib.Omega.{arith}
use lib.ListN.{length, get_or, take, drop, get_or-append}
use lib.Seq.{sets, sets-eq, length-take-le, get_or-take, get_or-drop, get_or-append-add}

module _ {A : Type 0} (l vs : List A) (a : ℕ) (room : a + length vs ≤ length l) where
  n : length (take a l) ≡ a
  n = length-take-le a l (omega arith)

  pub sets_parts : sets l a vs ≡ take a l ++ (vs ++ drop (a + length vs) l)
  sets_parts = sets-eq vs l a room ∙ append_assoc (take a l) vs (drop (a + length vs) l)

  module _ (q : ℕ) (d : A) where
    -- beyond the first a elements
    beyond : a ≤ q → get_or (sets l a vs) q d ≡ get_or (vs ++ drop (a + length vs) l) (q - a) d
    beyond h =
        let e : length (take a l) + (q - a) ≡ q = rw n (omega arith) in
        rw sets_parts
        (subst (λ (j : ℕ). get_or (take a l ++ (vs ++ drop (a + length vs) l)) j d ≡ get_or (vs ++ drop (a + length vs) l) (q - a) d) e
        (get_or-append-add (take a l) (vs ++ drop (a + length vs) l) (q - a) d))

    pub sets_below : q < a → get_or (sets l a vs) q d ≡ get_or l q d
    sets_below h = rw sets_parts (get_or-append (take a l) (vs ++ drop (a + length vs) l) d q (rw n h) ∙ get_or-take a l q d h)

    pub sets_inside : a ≤ q → q < a + length vs → get_or (sets l a vs) q d ≡ get_or vs (q - a) d
    sets_inside h k = beyond h ∙ get_or-append vs (drop (a + length vs) l) d (q - a) (omega arith)

    pub sets_above : a + length vs ≤ q → get_or (sets l a vs) q d ≡ get_or l q d
    sets_above h =
        let e : length vs + (q - a - length vs) ≡ q - a = omega arith in
        let f : a + length vs + (q - a - length vs) ≡ q = omega arith in
        beyond (omega arith)
        ∙ subst (λ (j : ℕ). get_or (vs ++ drop (a + length vs) l) j d ≡ get_or l q d) e
        (get_or-append-add vs (drop (a + length vs) l) (q - a - length vs) d
        ∙ get_or-drop (a + length vs) l (q - a - length vs) d
        ∙ ap (λ (j : ℕ). get_or l j d) f)
