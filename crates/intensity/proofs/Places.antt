-- A channel place by place: each by its position, run after run, and after an earlier step. Over either channel's ratio. Assumes nothing.
use mathlib.Core.Path.{◌≡◌, refl, sym, ap, ◌∙◌}
use mathlib.Core.Bool.{Bool, true, false, cond, ◌&&◌}
use mathlib.Core.List.{List}
use Prim.Native.Nat.{ℕ, ◌+◌, ◌<◌, ◌≤◌}
use native.Mathlib.Decide.{dec_lt}
use native.Mathlib.Omega.{arith}
use borrow.Author.Tests.{lt-ltb, le-ltb, eqb-true, eqb-false}
use lib.Dec.{ltb, leb, eqb}
use lib.ListN.{length}
use lib.Ieee.{Float, nan}
use Rattle.laws.specs.Lists.{at, tab}
use Rattle.laws.proofs.Lists.{tab-place, tab-same, tab-at}
use Rattle.intensity.specs.Intensity.{scaled, Runs, OnBands, run_count, run_of, run_start, run_step, run_width, scaled_by, IsRun, in_run, within, position_in}
use Rattle.intensity.proofs.Runs.{run_is}
use Rattle.intensity.proofs.Steps.{is-inside, not-below, not-above}

-- place i of a channel xs by the position `by i`; what is scaled stands in `from`
abbrev pub placed_by : (ℕ → Float) → (ℕ → ℕ) → List Float → List Float → ℕ → Float
placed_by ratio by from xs i = scaled ratio (by i) (at from i) (at xs i)

-- a channel xs of N places, each by its position, is ys
pub record Scaled (ratio : ℕ → Float) (from : List Float) (N : ℕ) (by : ℕ → ℕ) (xs ys : List Float) : Type 0 where
  pub is : ys ≡ tab N (placed_by ratio by from xs)

-- after an earlier step, whose result is by the rule f
after : (N : ℕ) (ratio : ℕ → Float) (by : ℕ → ℕ) (from : List Float) (f : ℕ → Float) {xs : List Float} → xs ≡ tab N f
    → tab N (placed_by ratio by from xs) ≡ tab N (λ i. scaled ratio (by i) (at from i) (f i))
after N ratio by from f {xs} e =
    tab-same N (placed_by ratio by from xs) (λ i. scaled ratio (by i) (at from i) (f i)) (λ i h. ap (scaled ratio (by i) (at from i)) (tab-place N f i nan e h))

-- and the numbers that are scaled by the rule g
pub after_both : (N : ℕ) (ratio : ℕ → Float) (by : ℕ → ℕ) (g f : ℕ → Float) {from xs : List Float} → from ≡ tab N g → xs ≡ tab N f
    → tab N (placed_by ratio by from xs) ≡ tab N (λ i. scaled ratio (by i) (g i) (f i))
after_both N ratio by g f {from} d e =
    after N ratio by from f e
    ∙ tab-same N (λ i. scaled ratio (by i) (at from i) (f i)) (λ i. scaled ratio (by i) (g i) (f i)) (λ i h. ap (λ (l : Float). scaled ratio (by i) l (f i)) (tab-place N g i nan d h))

-- ---- by position p and then by q, of which one is 7, is by m

pub data Joined (p q m : ℕ) : Type 0 where
  by_first : q ≡ 7 → m ≡ p → Joined p q m
  by_second : p ≡ 7 → m ≡ q → Joined p q m

joined : (ratio : ℕ → Float) {p q m : ℕ} → Joined p q m → (l x : Float) → scaled ratio q l (scaled ratio p l x) ≡ scaled ratio m l x
joined ratio (by_first e f) l x = rw (e, f)
joined ratio (by_second e f) l x = rw (e, f)

module _ {ratio : ℕ → Float} {from : List Float} where
  pub scaled_join :
      {N : ℕ} {by then whole : ℕ → ℕ} {x₀ x₁ x : List Float} → Scaled ratio from N by x₀ x₁ → Scaled ratio from N then x₁ x
      → ((i : ℕ) → i < N → Joined (by i) (then i) (whole i)) → Scaled ratio from N whole x₀ x
  scaled_join {N} {by} {then} {whole} {x₀} a b j = record {
    is = b.is ∙ after N ratio then from (placed_by ratio by from x₀) a.is
        ∙ tab-same N _ (placed_by ratio whole from x₀) (λ i h. joined ratio (j i h) (at from i) (at x₀ i));
  }

-- ---- run after run: none, and one more

-- in terms of the run q of a place, and of what each run is scaled by
module _ (from : ℕ) (by : ℕ → ℕ) (q : ℕ) where
  up_to : ℕ → ℕ
  up_to g = cond (within from g q) (by q) 7

  none : up_to from ≡ 7
  unfolding up_to
  none = go (dec_lt q from)
    where
      go : Dec (q < from) → cond (within from from q) (by q) 7 ≡ 7
      go (yes l) = rw (not-below from from q l)
      go (no l) = rw (not-above from from q (omega arith))

  kept : (g : ℕ) → (q ≡ g → ⊥) → up_to (g + 1) ≡ up_to g
  unfolding up_to
  kept g n = ap (λ (t : Bool). cond (leb from q && t) (by q) 7) (go (dec_lt q g))
    where
      go : Dec (q < g) → ltb q (g + 1) ≡ ltb q g
      go (yes l) = rw (lt-ltb q g l, lt-ltb q (g + 1) (omega arith))
      go (no l) = let m : q ≡ g → ⊥ = n in rw (le-ltb q g (omega arith), le-ltb q (g + 1) (omega arith))

  more : (g : ℕ) → from ≤ g → (t : Bool) → eqb q g ≡ t → Joined (up_to g) (cond t (by g) 7) (up_to (g + 1))
  unfolding up_to
  more g h true e =
      let same : q ≡ g = eqb-true q g e in
      rw same (by_second (rw (not-above from g g (omega arith))) (rw (is-inside from (g + 1) g h (omega arith))))
  more g h false e = by_first refl (kept g (eqb-false q g e))

module _ (r : Runs) (first : ℕ) where
  pub position-none : (i : ℕ) → position_in r first first i ≡ 7
  unfolding up_to
  position-none i = none first (scaled_by r) (run_of r i)

  one_more :
      OnBands r → (g : ℕ) → first ≤ g → g < run_count r.short → (i : ℕ) → i < 576
      → Joined (position_in r first g i) (cond (in_run (run_start r g) (run_step r g) (run_width r g) i) (scaled_by r g) 7) (position_in r first (g + 1) i)
  unfolding up_to
  one_more w g h k i l = rw (run_is r w g i k l) (more first (scaled_by r) (run_of r i) g h (eqb (run_of r i) g) refl)

  module _ {ratio : ℕ → Float} {from : List Float} where
    pub scaled-none : {N : ℕ} {xs : List Float} → length xs ≡ N → Scaled ratio from N (position_in r first first) xs xs
    scaled-none {N} {xs} e = record {
      is = sym (tab-at N xs nan e) ∙ tab-same N (at xs) (placed_by ratio (position_in r first first) from xs) (λ i h. rw (position-none i));
    }

    pub scaled_run :
        {x₀ x₁ x₂ : List Float} {start step count p : ℕ} → OnBands r → (g : ℕ) → first ≤ g → g < run_count r.short → Scaled ratio from 576 (position_in r first g) x₀ x₁
        → IsRun r g start step count p → Scaled ratio from 576 (λ i. cond (in_run start step count i) p 7) x₁ x₂ → Scaled ratio from 576 (position_in r first (g + 1)) x₀ x₂
    scaled_run w g h k a q b = scaled_join a b (λ i l. rw (q.starts_at, q.steps_by, q.has, q.by) (one_more w g h k i l))
