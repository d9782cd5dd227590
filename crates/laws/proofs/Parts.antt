-- A part of a list, from a up to e, and of a list that is filled from the front: what it has not come to, a part that was lent and came back, and places that need no store. Assumes nothing.
use mathlib.Core.Path.{◌≡◌, sym, ap, subst, ◌∙◌}
use mathlib.Core.List.{List, ◌++◌}
use Prim.Native.Nat.{ℕ, ◌+◌, ◌-◌, ◌<◌, ◌≤◌}
use native.Mathlib.Nat.{le_refl}
use native.Mathlib.Omega.{arith}
use lib.ListN.{length, get_or, take, drop, take-append-drop, length-take, length-drop}
use lib.Seq.{get_or-append-add, get_or-take, get_or-drop}
use Rattle.laws.specs.Lists.{tab, filled}
use Rattle.laws.proofs.Lists.{length-tab, fill_all, tab-at, tab-same, Filling, filling-whole, filling-part, Fills, fills-filling, filling-fills}

module _ {A : Type 0} where
  -- the elements from a up to e, and not e
  abbrev pub part : ℕ → ℕ → List A → List A
  part a e l = take (e - a) (drop a l)

  pub part_length : (a e : ℕ) (l : List A) → e ≤ length l → length (part a e l) ≡ e - a
  part_length a e l h = simp (length-take, length-drop) (omega arith)

  pub part_at : (a e : ℕ) (l : List A) (i : ℕ) (d : A) → i < e - a → get_or (part a e l) i d ≡ get_or l (a + i) d
  part_at a e l i d h = rw (get_or-take, get_or-drop)

  pub part-tab : (a n : ℕ) (l : List A) (d : A) → a + n ≤ length l → part a (a + n) l ≡ tab n (λ i. get_or l (a + i) d)
  part-tab a n l d h = sym (tab-at n (part a (a + n) l) d (omega (arith, part_length a (a + n) l h))) ∙ tab-same n _ _ (λ k w. part_at a (a + n) l k d (omega arith))

  -- the part from a up to e was lent and came back by the rule f, which is g from a on
  pub filling_run :
      {l₀ l ys : List A} {f g : ℕ → A} (a e : ℕ) → Filling l₀ g a l → a ≤ e → e ≤ length l₀ → ys ≡ tab (e - a) f
      → ((i : ℕ) → i < e - a → f i ≡ g (a + i)) → Filling l₀ g e (take a l ++ (ys ++ drop (e - a) (drop a l)))
  filling_run {l₀} {l} {ys} {f} {g} a e w h k ey fg =
      let all : ys ≡ filled (e - a) f (part a e l) = ey ∙ sym (fill_all (e - a) f (part a e l) (omega (arith, part_length a e l (omega (arith, w.long))))) in
      let sum : a + (e - a) ≡ e = omega arith in
      subst (λ (n : ℕ). Filling l₀ g n (take a l ++ (ys ++ drop (e - a) (drop a l)))) sum
      (filling-part a (e - a) (e - a) w (omega arith) (le_refl (e - a)) all fg)

  pub fills_run :
      {N : ℕ} {l ys : List A} {f g : ℕ → A} (a e : ℕ) → Fills N g a l → a ≤ e → e ≤ N → ys ≡ tab (e - a) f
      → ((i : ℕ) → i < e - a → f i ≡ g (a + i)) → Fills N g e (take a l ++ (ys ++ drop (e - a) (drop a l)))
  fills_run a e w h k ey fg = filling-fills w.long (filling_run a e (fills-filling w) h (omega (arith, w.long)) ey fg)

module _ {A : Type 0} {l₀ l : List A} {f : ℕ → A} {n : ℕ} (d : A) (w : Filling l₀ f n l) where
  -- what it has not come to is as it was
  pub filling-rest : (i : ℕ) → n ≤ i → get_or l i d ≡ get_or l₀ i d
  filling-rest i h =
      let e : i ≡ length (tab n f) + (i - n) = omega (arith, length-tab n f) in
      let back : n + (i - n) ≡ i = omega arith in
      ap (λ (x : List A). get_or x i d) w.is
      ∙ ap (λ (k : ℕ). get_or (tab n f ++ drop n l₀) k d) e
      ∙ get_or-append-add (tab n f) (drop n l₀) (i - n) d
      ∙ get_or-drop n l₀ (i - n) d
      ∙ ap (λ (k : ℕ). get_or l₀ k d) back

  -- so are the elements of a part from there on
  pub filling_ahead : (k i : ℕ) → i < k → get_or (take k (drop n l)) i d ≡ get_or l₀ (n + i) d
  filling_ahead k i h = get_or-take k (drop n l) i d h ∙ get_or-drop n l i d ∙ filling-rest (n + i) (omega arith)

  -- where up to e the rule gives the elements that the list has, it is filled up to e
  pub filling_skip : (e : ℕ) → n ≤ e → e ≤ length l₀ → ((i : ℕ) → n ≤ i → i < e → f i ≡ get_or l₀ i d) → Filling l₀ f e l
  filling_skip e h g same =
      let k = e - n in
      let whole : take n l ++ (part n e l ++ drop k (drop n l)) ≡ l = ap (λ (x : List A). take n l ++ x) (take-append-drop k (drop n l)) ∙ take-append-drop n l in
      rw whole at (filling_run n e w h g (sym (tab-at k (part n e l) d (part_length n e l (omega (arith, w.long)))))
      (λ i q. filling_ahead k i q ∙ sym (same (n + i) (omega arith) (omega arith))))

  -- and up to its end it is the whole
  pub filling-done : (N : ℕ) → length l₀ ≡ N → n ≤ N → ((i : ℕ) → n ≤ i → i < N → f i ≡ get_or l₀ i d) → l ≡ tab N f
  filling-done N e h same = filling-whole (filling_skip N h (omega arith) same) e (le_refl N) (le_refl N)
