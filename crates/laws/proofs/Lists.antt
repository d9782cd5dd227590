-- Laws of lists by a rule, of arrays and slices that a loop fills by a rule, and of a part that was lent and came back. Assumes nothing.
use mathlib.Core.Path.{◌≡◌, refl, sym, ap, ◌∙◌}
use mathlib.Core.List.{List, [], ◌∷◌, ◌++◌, append_assoc, append-nil}
use Prim.Native.Nat.{ℕ, zero, suc, ◌+◌, ◌<◌, ◌≤◌}
use native.Mathlib.Nat.{add-suc, add-zero, le_refl}
use native.Mathlib.Numerals.{add-one}
use native.Mathlib.Omega.{arith}
use native.Mathlib.Decide.{dec_lt}
use lib.ListN.{length, take-append-drop, length-set, get_or, take, drop, set, length-append, length-drop, length-take, get_or-append, drop_of_length-le}
use lib.Seq.{drop-append-le, take-suc-set, take_all, drop-cons, set_at, get_or_at, get_or-take, drop-drop, take_at, drop_at, ext_get_or}
use Rattle.laws.specs.Lists.{tab, filled}

module _ {A : Type 0} where
  pub length-tab : (n : ℕ) (f : ℕ → A) → length (tab n f) ≡ n
  unfolding tab
  length-tab zero f = refl
  length-tab (suc n) f = length-append (tab n f) (f n ∷ []) ∙ (rw (length-tab n f) (add-one n))

  pub tab_more : (n : ℕ) (f : ℕ → A) → tab (n + 1) f ≡ tab n f ++ f n ∷ []
  unfolding tab
  tab_more n f = rw add-one

  pub fill_none : (f : ℕ → A) (l : List A) → l ≡ filled 0 f l
  unfolding tab
  fill_none f l = refl

  pub fill_more : (n : ℕ) (f : ℕ → A) (l : List A) → n < length l → set (filled n f l) n (f n) ≡ filled (n + 1) f l
  fill_more n f l h =
      rw (tab_more, append_assoc, drop-cons l n (f n)) (rw add-one (set_at (tab n f) (get_or l n (f n)) (drop (suc n) l) (f n) n (length-tab n f)))

  pub length-filled : (n : ℕ) (f : ℕ → A) (l : List A) → n ≤ length l → length (filled n f l) ≡ length l
  length-filled n f l h = simp (length-append, length-tab, length-drop) (omega arith)

  -- nothing is left of a list that is no longer than what stands in front of the rest of it
  pub cover_all : (xs : List A) (n : ℕ) (l : List A) → length l ≤ n → xs ++ drop n l ≡ xs
  cover_all xs n l h = rw (drop_of_length-le l h) (append-nil xs)

  pub fill_all : (n : ℕ) (f : ℕ → A) (l : List A) → length l ≤ n → filled n f l ≡ tab n f
  fill_all n f l h = cover_all (tab n f) n l h

  pub get_d_tab : (n : ℕ) (f : ℕ → A) (i : ℕ) (d : A) → i < n → get_or (tab n f) i d ≡ f i
  unfolding tab
  get_d_tab zero f i d h = absurd (omega arith)
  get_d_tab (suc n) f i d h = split (dec_lt i n) (get_d_tab n f i d)
    where
      split : Dec (i < n) → (i < n → get_or (tab n f) i d ≡ f i) → get_or (tab n f ++ f n ∷ []) i d ≡ f i
      split (yes k) r = get_or-append (tab n f) (f n ∷ []) d i (rw length-tab k) ∙ r k
      split (no k) r = let e : n ≡ i = omega arith in get_or_at (tab n f) (f n) [] d i (length-tab n f ∙ e) ∙ ap f e

  pub tab-place : {l : List A} (n : ℕ) (f : ℕ → A) (i : ℕ) (d : A) → l ≡ tab n f → i < n → get_or l i d ≡ f i
  tab-place n f i d e h = rw e (get_d_tab n f i d h)

  -- an element that was filled
  pub filled_at : (n : ℕ) (f : ℕ → A) (l : List A) (i : ℕ) (d : A) → i < n → get_or (filled n f l) i d ≡ f i
  filled_at n f l i d h = get_or-append (tab n f) (drop n l) d i (rw length-tab h) ∙ get_d_tab n f i d h

  pub tab-same : (n : ℕ) (f g : ℕ → A) → ((k : ℕ) → k < n → f k ≡ g k) → tab n f ≡ tab n g
  unfolding tab
  tab-same zero f g h = refl
  tab-same (suc n) f g h = rw (tab-same n f g (λ k q. h k (omega arith)), h n (omega arith))

  pub tab-add : (a b : ℕ) (f : ℕ → A) → tab (a + b) f ≡ tab a f ++ tab b (λ k. f (a + k))
  unfolding tab
  tab-add a zero f = rw (add-zero, append-nil)
  tab-add a (suc b) f = rw (add-suc, tab-add a b f, append_assoc)

  -- a list by the rule of another's elements is that list
  pub tab-at : (n : ℕ) (l : List A) (d : A) → length l ≡ n → tab n (λ k. get_or l k d) ≡ l
  tab-at n l d e =
      ext_get_or d (tab n (λ k. get_or l k d)) l (length-tab n (λ k. get_or l k d) ∙ sym e)
      (λ i h. get_d_tab n (λ k. get_or l k d) i d (rw length-tab at h))

  -- and the first elements of a list are those by that rule
  pub take-tab : (n : ℕ) (l : List A) (d : A) → n ≤ length l → take n l ≡ tab n (λ k. get_or l k d)
  take-tab n l d h =
      ext_get_or d (take n l) (tab n (λ k. get_or l k d)) (simp (length-take, length-tab) (omega arith))
      (λ i q. let small : i < n = omega (arith, length-take n l) in get_or-take n l i d small ∙ sym (get_d_tab n (λ k. get_or l k d) i d small))

  -- The list has N elements, of which the first n are by the rule f: the invariant of a loop that fills a local array.
  -- (An invariant that names the array as the loop found it, as `filled n f l₀`, has all of the array's zeros written out in each goal.)
  pub record Fills (N : ℕ) (f : ℕ → A) (n : ℕ) (l : List A) : Type 0 where
    pub long : length l ≡ N
    pub done : take n l ≡ tab n f

  pub fills-none : (N : ℕ) (f : ℕ → A) (l : List A) → length l ≡ N → Fills N f 0 l
  unfolding tab
  fills-none N f l e = record { long = e; done = refl }

  -- one more: what is stored is by the rule
  pub fills_more : {N n : ℕ} {f : ℕ → A} {l : List A} {a : A} → Fills N f n l → n < N → a ≡ f n → Fills N f (n + 1) (set l n a)
  fills_more {N} {n} {f} {l} {a} w h e = record {
    long = length-set l n a ∙ w.long;
    done = rw (tab_more, ← w.done, ← e, add-one) (take-suc-set l n a (rw w.long h));
  }

  pub fills-all : {N n : ℕ} {f : ℕ → A} {l : List A} → Fills N f n l → N ≤ n → n ≤ N → l ≡ tab N f
  fills-all {N} {n} {f} {l} w h k = let e : n ≡ N = omega arith in sym (take_all n l (omega (arith, w.long))) ∙ w.done ∙ ap (λ (x : ℕ). tab x f) e

  -- and by another rule that is the same there
  pub fills_same : {N n : ℕ} {f g : ℕ → A} {l : List A} → Fills N f n l → ((k : ℕ) → k < n → f k ≡ g k) → Fills N g n l
  fills_same {N} {n} {f} {g} w h = record { long = w.long; done = w.done ∙ tab-same n f g h }

  -- The list l₀ with its first n elements by the rule f: the invariant of a loop that fills a slice that the caller lent.
  pub record Filling (l₀ : List A) (f : ℕ → A) (n : ℕ) (l : List A) : Type 0 where
    pub long : length l ≡ length l₀
    pub is : l ≡ filled n f l₀

  pub filling-none : (l₀ : List A) (f : ℕ → A) → Filling l₀ f 0 l₀
  filling-none l₀ f = record { long = refl; is = fill_none f l₀ }

  pub filling_more : {l₀ l : List A} {f : ℕ → A} {n : ℕ} {a : A} → Filling l₀ f n l → n < length l₀ → a ≡ f n → Filling l₀ f (n + 1) (set l n a)
  filling_more {l₀} {l} {f} {n} {a} w h e = record {
    long = length-set l n a ∙ w.long;
    is = rw (w.is, e) (fill_more n f l₀ h);
  }

  -- three more at a time
  pub filling-three : {l₀ l : List A} {f : ℕ → A} (n : ℕ) {a b c : A} → Filling l₀ f n l → n + 2 < length l₀ → a ≡ f n → b ≡ f (n + 1) → c ≡ f (n + 2)
      → Filling l₀ f (n + 3) (set (set (set l n a) (n + 1) b) (n + 2) c)
  filling-three {l₀} {l} {f} n {a} {b} {c} w h ea eb ec =
      let two : (n + 1) + 1 ≡ n + 2 = omega arith in
      let three : (n + 2) + 1 ≡ n + 3 = omega arith in
      let v : Filling l₀ f (n + 2) (set (set l n a) (n + 1) b) = rw two at (filling_more (filling_more w (omega arith) ea) (omega arith) eb) in
      rw three at (filling_more v (omega arith) ec)

  pub filling-end : {l₀ l : List A} {f : ℕ → A} {n N : ℕ} → Filling l₀ f n l → N ≤ n → n ≤ N → l ≡ filled N f l₀
  filling-end {l₀} {l} {f} {n} {N} w h k = let e : n ≡ N = omega arith in w.is ∙ ap (λ (x : ℕ). filled x f l₀) e

  -- the whole slice, of N elements, and of as many as it has
  pub filling-whole : {l₀ l : List A} {f : ℕ → A} {n N : ℕ} → Filling l₀ f n l → length l₀ ≡ N → N ≤ n → n ≤ N → l ≡ tab N f
  filling-whole {l₀} {l} {f} {n} {N} w e h k = filling-end w h k ∙ fill_all N f l₀ (rw e (le_refl N))

  pub filling-all : {l₀ l : List A} {f : ℕ → A} {n : ℕ} → Filling l₀ f n l → length l₀ ≤ n → n ≤ length l₀ → l ≡ tab (length l₀) f
  filling-all w h k = filling-whole w refl h k

  -- A part from a on, of k elements, was lent and came back with its first b by the rule f. Then the whole is filled by g for b more, where f is g from a on.
  pub filling-part :
      {l₀ l ys : List A} {f g : ℕ → A} (a b k : ℕ) → Filling l₀ g a l → a + b ≤ length l₀ → b ≤ k → ys ≡ filled b f (take k (drop a l))
      → ((i : ℕ) → i < b → f i ≡ g (a + i)) → Filling l₀ g (a + b) (take a l ++ (ys ++ drop k (drop a l)))
  filling-part {l₀} {l} {ys} {f} {g} a b k w h bk ey fg =
      let tl : take a l ≡ tab a g = rw w.is (take_at (tab a g) (drop a l₀) a (length-tab a g)) in
      let dl : drop a l ≡ drop a l₀ = rw w.is (drop_at (tab a g) (drop a l₀) a (length-tab a g)) in
      let long : b ≤ length (take k (drop a l₀)) = simp (length-take, length-drop) (omega arith) in
      let rest : drop b (take k (drop a l₀)) ++ drop k (drop a l₀) ≡ drop (a + b) l₀ =
      rw (← drop-append-le b (take k (drop a l₀)) (drop k (drop a l₀)), take-append-drop) (drop-drop b a l₀) in
      let all : take a l ++ (ys ++ drop k (drop a l)) ≡ filled (a + b) g l₀ =
      rw (ey, tl, dl, append_assoc, rest, tab-same b f (λ i. g (a + i)) fg, tab-add, append_assoc) in
      record { long = ap length all ∙ length-filled (a + b) g l₀ h; is = all }

  -- from one form of invariant to the other
  pub fills-filling : {N : ℕ} {f : ℕ → A} {n : ℕ} {l : List A} → Fills N f n l → Filling l f n l
  fills-filling {N} {f} {n} {l} w = record { long = refl; is = rw (← w.done) (sym (take-append-drop n l)) }

  pub filling-fills : {N : ℕ} {f : ℕ → A} {n : ℕ} {l₀ l : List A} → length l₀ ≡ N → Filling l₀ f n l → Fills N f n l
  filling-fills {N} {f} {n} {l₀} {l} e w =
      record { long = w.long ∙ e; done = ap (take n) w.is ∙ take_at (tab n f) (drop n l₀) n (length-tab n f) }

  -- and from a contract's `filled`
  pub filled-filling : {f : ℕ → A} (n : ℕ) {l₀ l : List A} → n ≤ length l₀ → l ≡ filled n f l₀ → Filling l₀ f n l
  filled-filling {f} n {l₀} h is = record { long = ap length is ∙ length-filled n f l₀ h; is = is }

  pub filled-fills : {N n : ℕ} {f : ℕ → A} (l₀ : List A) {l : List A} → length l₀ ≡ N → n ≤ N → l ≡ filled n f l₀ → Fills N f n l
  filled-fills {N} {n} {f} l₀ e h is = filling-fills e (filled-filling n (omega arith) is)
