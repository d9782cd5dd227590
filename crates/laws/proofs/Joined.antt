-- Two rules joined at n: the one below it, the other from there on. Assumes nothing.
use mathlib.Core.Path.{◌≡◌, refl, sym, ap, ◌∙◌}
use mathlib.Core.Bool.{Bool, true, false, cond}
use mathlib.Core.List.{List}
use Prim.Native.Nat.{ℕ, ◌<◌, ◌≤◌}
use lib.Dec.{ltb}
use lib.ListN.{get_or}
use lib.Seq.{get_or-take}
use borrow.Author.Tests.{lt-ltb, ltb-true, ltb-false}
use Rattle.laws.specs.Lists.{tab}
use Rattle.laws.proofs.Lists.{get_d_tab, tab-same, Fills, fills_same}

module _ {A : Type 0} where
  -- what is filled by one rule up to n is so by the rule that is another's from n on
  pub fills_joined : {N n : ℕ} {f : ℕ → A} (g : ℕ → A) {l : List A} → Fills N f n l → Fills N (λ i. cond (ltb i n) (f i) (g i)) n l
  fills_joined {N} {n} {f} g w = fills_same w (λ k h. rw (lt-ltb k n h))

  -- with the rest put to it, it is the whole
  pub joined_all : {N n : ℕ} {g : ℕ → A} {l : List A} → Fills N g n l → (d : A) (r : ℕ → A) → ((i : ℕ) → n ≤ i → i < N → r i ≡ g i)
      → tab N (λ i. cond (ltb i n) (get_or l i d) (r i)) ≡ tab N g
  joined_all {N} {n} {g} {l} w d r h = tab-same N (λ i. cond (ltb i n) (get_or l i d) (r i)) g (λ i q. go i q (ltb i n) refl)
    where
      go : (i : ℕ) → i < N → (b : Bool) → ltb i n ≡ b → cond b (get_or l i d) (r i) ≡ g i
      go i q true e =
          let small = ltb-true i n e in
          sym (get_or-take n l i d small) ∙ ap (λ (x : List A). get_or x i d) w.done ∙ get_d_tab n g i d small
      go i q false e = h i (ltb-false i n e) q
