-- A run's places: the test `in_run` passes at start, start + step, start + 2 step and so on, `count` of them, and nowhere else. Over any step. Assumes nothing.
use mathlib.Core.Path.{◌≡◌, refl, sym, ◌∙◌}
use mathlib.Core.Bool.{Bool, true, false, true≢false, cond, ◌&&◌, and-eq-true_iff, and-false}
use mathlib.Core.List.{List}
use Prim.Native.Nat.{ℕ, ◌+◌, ◌-◌, ◌*◌, ◌/◌, ◌%◌, ◌<◌, ◌≤◌}
use native.Mathlib.Nat.{div-add-mod, mul-div_cancel_left, mul-mod_right}
use native.Mathlib.Decide.{dec_lt}
use native.Mathlib.Omega.{arith}
use borrow.Author.Tests.{leb-true, ltb-true, le-leb, lt-leb, lt-ltb, le-ltb, eqb-true}
use lib.Dec.{leb, ltb, eqb}
use lib.ListN.{length, get_or, set}
use Rattle.laws.specs.Lists.{tab}
use Rattle.laws.proofs.Changed.{Changed, changed_more, changed_end}
use Rattle.intensity.specs.Intensity.{Among, in_run, within}

-- ---- places side by side

pub inside : (from to i : ℕ) → within from to i ≡ true → (from ≤ i) × (i < to)
inside from to i e = let w = (and-eq-true_iff _ _).0 e in (leb-true from i w.0, ltb-true i to w.1)

pub is-inside : (from to i : ℕ) → from ≤ i → i < to → within from to i ≡ true
is-inside from to i h g = rw (le-leb from i h, lt-ltb i to g)

pub not-below : (from to i : ℕ) → i < from → within from to i ≡ false
not-below from to i h = rw (lt-leb from i h)

pub not-above : (from to i : ℕ) → to ≤ i → within from to i ≡ false
not-above from to i h = rw (le-ltb i to h, and-false (leb from i))

-- ---- places `step` apart

pub among_none : {start step i : ℕ} → Among start step 0 i → ⊥
among_none w = omega (arith, w.below)

module _ (start step count i : ℕ) (some : 0 < step) where
  pub among : in_run start step count i ≡ true → Among start step count i
  among e =
      let w = (and-eq-true_iff (leb start i) (eqb ((i - start) % step) 0 && ltb ((i - start) / step) count)).0 e in
      let v = (and-eq-true_iff (eqb ((i - start) % step) 0) (ltb ((i - start) / step) count)).0 w.1 in
      record {
        index = (i - start) / step;
        below = ltb-true ((i - start) / step) count v.1;
        is = omega (arith, leb-true start i w.0, eqb-true ((i - start) % step) 0 v.0, div-add-mod (i - start) step);
      }

  pub in-run : Among start step count i → in_run start step count i ≡ true
  in-run w =
      let from : i - start ≡ step * w.index = omega (arith, w.is) in
      rw (le-leb start i (omega (arith, w.is)), from, mul-mod_right step w.index, mul-div_cancel_left w.index some)
      (lt-ltb w.index count w.below)

-- two tests that pass together are one
pub both : (x y : Bool) → (x ≡ true → y ≡ true) → (y ≡ true → x ≡ true) → x ≡ y
both true true f g = refl
both true false f g = sym (f refl)
both false true f g = g refl
both false false f g = refl

-- with a step of 1 a run's places stand side by side
pub contiguous : (start count i : ℕ) → in_run start 1 count i ≡ within start (start + count) i
contiguous start count i =
    both _ _
    (λ e. let w = among start 1 count i (omega arith) e in is-inside start (start + count) i (omega (arith, w.is)) (omega (arith, w.is, w.below)))
    (λ e.
    let w = inside start (start + count) i e in
    in-run start 1 count i (omega arith) (record { index = i - start; below = omega arith; is = omega arith }))

-- ---- a loop that changes them in place, one after the other

module _ {A : Type 0} {d : A} {l₀ l : List A} {f : ℕ → A} (start step count : ℕ) (w : Changed d l₀ (Among start step count) f l) where
  pub place_more : {a : A} (i : ℕ) → i ≡ start + step * count → i < length l₀ → a ≡ f i → Changed d l₀ (Among start step (count + 1)) f (set l i a)
  place_more i at h e =
      changed_more i w h e (record { index = count; below = omega arith; is = at })
      (λ k v. record { index = v.index; below = omega (arith, v.below); is = v.is })
      (λ k n v. record { index = v.index; below = earlier k (λ q. n (q ∙ sym at)) v (dec_lt v.index count); is = v.is })
    where
      earlier : (k : ℕ) → (k ≡ start + step * count → ⊥) → (v : Among start step (count + 1) k) → Dec (v.index < count) → v.index < count
      earlier k n v (yes q) = q
      earlier k n v (no q) =
          let last : v.index ≡ count = omega (arith, v.below) in
          absurd (n (rw last at v.is))

  pub places_done : (N : ℕ) → 0 < step → length l₀ ≡ N → l ≡ tab N (λ i. cond (in_run start step count i) (f i) (get_or l₀ i d))
  places_done N some e = changed_end N _ w e (λ i h. go i h (in_run start step count i) refl)
    where
      go : (i : ℕ) → i < N → (here : Bool) → in_run start step count i ≡ here → get_or l i d ≡ cond here (f i) (get_or l₀ i d)
      go i h true q = w.new i (rw e h) (among start step count i some q)
      go i h false q = w.old i (λ v. true≢false (sym (in-run start step count i some v) ∙ q))
