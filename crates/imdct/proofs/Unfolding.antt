-- The 36 sums of the long transform are stored four at a time, at the places p, 9 + p, 18 + p and 27 + p. Assumes nothing.
use mathlib.Core.Path.{◌≡◌, refl}
use mathlib.Core.List.{List}
use Prim.Native.Nat.{ℕ, ◌+◌, ◌-◌, ◌*◌, ◌/◌, ◌%◌, ◌<◌}
use native.Mathlib.Omega.{arith}
use lib.ListN.{set, replicate}
use lib.Ieee.{Float, nan, binary32, sub}
use borrow.Author.Tests.{lt-ltb, le-ltb}
use Rattle.laws.specs.Lists.{at, tab}
use Rattle.laws.specs.Sum.{zero_f}
use Rattle.laws.proofs.Changed.{Changed, changed_none, changed_more, changed_end}
use Rattle.imdct.specs.Halves.{unfolded}

-- the first n places in the order in which they are stored
abbrev pub Stored : ℕ → ℕ → Type 0
Stored n k = (k < 36) × (4 * (k % 9) + k / 9 < n)

-- those places are stored, the others still +0.0
abbrev pub Unfolds : List Float → ℕ → List Float → Type 0
Unfolds sums n l = Changed nan (replicate 36 zero_f) (Stored n) (unfolded sums) l

module _ (sums : List Float) where
  pub unfolds_none : Unfolds sums 0 (replicate 36 zero_f)
  unfolds_none = changed_none (λ k h. let g : 4 * (k % 9) + k / 9 < 0 = h.1 in omega arith)

  -- one place more
  more : {l : List Float} {a : Float} (n q : ℕ) → q < 36 → 4 * (q % 9) + q / 9 ≡ n → Unfolds sums n l → a ≡ unfolded sums q → Unfolds sums (n + 1) (set l q a)
  more n q h e w f =
      changed_more q w h f (h, omega arith) (λ k r. let g : 4 * (k % 9) + k / 9 < n = r.1 in (r.0, omega arith))
      (λ k d r. let g : 4 * (k % 9) + k / 9 < n + 1 = r.1 in let s : k < 36 = r.0 in (s, omega arith))

  -- four more
  module _ (p : ℕ) (h : p < 9) where
    first : at sums p ≡ unfolded sums p
    first = rw (lt-ltb p 9 h)

    second : sub binary32 zero_f (at sums (8 - p)) ≡ unfolded sums (9 + p)
    second = let e : 17 - (9 + p) ≡ 8 - p = omega arith in rw (le-ltb (9 + p) 9 (omega arith), lt-ltb (9 + p) 18 (omega arith), e)

    third : at sums (9 + p) ≡ unfolded sums (18 + p)
    third =
        let e : 18 + p - 9 ≡ 9 + p = omega arith in
        rw (le-ltb (18 + p) 9 (omega arith), le-ltb (18 + p) 18 (omega arith), lt-ltb (18 + p) 27 (omega arith), e)

    fourth : at sums (17 - p) ≡ unfolded sums (27 + p)
    fourth =
        let e : 44 - (27 + p) ≡ 17 - p = omega arith in
        rw (le-ltb (27 + p) 9 (omega arith), le-ltb (27 + p) 18 (omega arith), le-ltb (27 + p) 27 (omega arith), e)

    pub unfolds_more :
        {l : List Float} → Unfolds sums (4 * p) l
        → Unfolds sums (4 * (p + 1)) (set (set (set (set l p (at sums p)) (9 + p) (sub binary32 zero_f (at sums (8 - p)))) (18 + p) (at sums (9 + p))) (27 + p) (at sums (17 - p)))
    unfolds_more w =
        let e : 4 * p + 1 + 1 + 1 + 1 ≡ 4 * (p + 1) = omega arith in
        rw e at
        (more (4 * p + 1 + 1 + 1) (27 + p) (omega arith) (omega arith)
        (more (4 * p + 1 + 1) (18 + p) (omega arith) (omega arith)
        (more (4 * p + 1) (9 + p) (omega arith) (omega arith) (more (4 * p) p (omega arith) (omega arith) w first) second) third) fourth)

  -- all
  pub unfolds_all : {l : List Float} (n : ℕ) → n ≡ 36 → Unfolds sums n l → l ≡ tab 36 (unfolded sums)
  unfolds_all n e w = changed_end 36 (unfolded sums) w refl (λ k h. w.new k h (h, omega arith))
