-- Sums at several places, to which a row of terms is added at a time, so that each keeps its own order. Over any number of places and any terms. Assumes nothing.
use mathlib.Core.Path.{◌≡◌, sym, ap, ◌∙◌}
use mathlib.Core.List.{List, ◌++◌}
use Prim.Native.Nat.{ℕ, ◌+◌, ◌-◌, ◌<◌, ◌≤◌}
use native.Mathlib.Nat.{le_refl}
use native.Mathlib.Omega.{arith}
use lib.ListN.{length, take, drop, set, replicate, length-replicate, get_or-replicate}
use lib.Seq.{ext_get_or}
use lib.Ieee.{Float, nan, binary32, add}
use Rattle.laws.specs.Lists.{at, tab}
use Rattle.laws.specs.Sum.{zero_f, sum_to}
use Rattle.laws.proofs.Lists.{length-tab, get_d_tab, tab-place, tab-same, Filling, filling_more}
use Rattle.laws.proofs.Parts.{part, part_length, filling-rest, filling_run, filling_ahead}
use Rattle.laws.proofs.Sum.{sum-none, sum_step}

-- a list with a row of terms added to it, place by place
abbrev pub plus : List Float → (ℕ → Float) → ℕ → Float
plus l t i = add binary32 (at l i) (t i)

-- the next place, read and written where it lies
pub plus_more : {l₀ l : List Float} (t : ℕ → Float) {n : ℕ} → Filling l₀ (plus l₀ t) n l → n < length l₀ → Filling l₀ (plus l₀ t) (n + 1) (set l n (plus l t n))
plus_more t {n} w h = filling_more w h (ap (λ (x : Float). add binary32 x (t n)) (filling-rest nan w n (le_refl n)))

-- a part from a up to e that was lent and came back: its terms u are the row's terms t from a on
pub plus-part :
    {l₀ l ys : List Float} (t u : ℕ → Float) (a e : ℕ) → Filling l₀ (plus l₀ t) a l → a ≤ e → e ≤ length l₀ → ys ≡ tab (length (part a e l)) (plus (part a e l) u)
    → ((i : ℕ) → i < e - a → u i ≡ t (a + i)) → Filling l₀ (plus l₀ t) e (take a l ++ (ys ++ drop (e - a) (drop a l)))
plus-part {l₀} {l} t u a e w h k is same =
    filling_run a e w h k (rw (part_length a e l (omega (arith, w.long))) at is) (λ i q. rw (filling_ahead nan w (e - a) i q, same i q))

-- The list has N sums, each of which has its first j terms, where term k of sum i is t i k: the invariant of a loop that adds a row in each turn.
pub record Sums (N : ℕ) (t : ℕ → ℕ → Float) (j : ℕ) (l : List Float) : Type 0 where
  pub long : length l ≡ N
  pub is : l ≡ tab N (λ i. sum_to j (t i))

pub sums_none : (N : ℕ) (t : ℕ → ℕ → Float) → Sums N t 0 (replicate N zero_f)
sums_none N t = record {
  long = length-replicate N zero_f;
  is = ext_get_or nan (replicate N zero_f) (tab N (λ i. sum_to 0 (t i))) (length-replicate N zero_f ∙ sym (length-tab N (λ i. sum_to 0 (t i)))) (λ i h. zero-at i (rw length-replicate at h));
}
  where
    zero-at : (i : ℕ) → i < N → at (replicate N zero_f) i ≡ at (tab N (λ i. sum_to 0 (t i))) i
    zero-at i h = get_or-replicate N i zero_f nan h ∙ sym (get_d_tab N (λ i. sum_to 0 (t i)) i nan h ∙ sum-none (t i))

module _ {N : ℕ} {t : ℕ → ℕ → Float} {j : ℕ} {l : List Float} (w : Sums N t j l) where
  pub sums_more : {l' : List Float} → l' ≡ tab N (plus l (λ i. t i j)) → Sums N t (j + 1) l'
  sums_more {l'} e = record {
    long = ap length e ∙ length-tab N (plus l (λ i. t i j));
    is = e ∙ tab-same N (plus l (λ i. t i j)) (λ i. sum_to (j + 1) (t i)) (λ i h. sum_step j (t i) (tab-place N (λ i. sum_to j (t i)) i nan w.is h));
  }

  pub sums_end : (n : ℕ) → n ≤ j → j ≤ n → l ≡ tab N (λ i. sum_to n (t i))
  sums_end n h k = let q : j ≡ n = omega arith in rw q at w.is
