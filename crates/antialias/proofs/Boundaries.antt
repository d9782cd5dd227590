-- What antialias makes of each place, boundary by boundary: a pair at each, and all else as it was. Assumes nothing.
use mathlib.Core.Path.{◌≡◌, sym, subst, ◌∙◌}
use mathlib.Core.Bool.{cond}
use mathlib.Core.List.{List}
use Prim.Native.Nat.{ℕ, ◌+◌, ◌-◌, ◌*◌, ◌/◌, ◌%◌, ◌<◌, ◌≤◌}
use native.Mathlib.Decide.{dec_lt}
use native.Mathlib.Omega.{arith}
use lib.Dec.{ltb}
use lib.ListN.{length, set}
use lib.Ieee.{Float, nan, binary32, add, sub, mul}
use borrow.Author.Tests.{lt-ltb, le-ltb}
use Rattle.laws.specs.Lists.{at, tab}
use Rattle.laws.proofs.Lists.{tab-place, tab-same, tab-at}
use Rattle.laws.proofs.Changed.{Changed, changed_more}
use Rattle.tables.specs.Antialias.{cs, ca}
use Rattle.side_info.specs.declared.BlockType.{BlockType}
use Rattle.side_info.specs.declared.BlockType.TheVariants.{Long, Short, Mixed, Start, End}
use Rattle.antialias.specs.Antialias.{boundaries, lower, upper, Near, lower_after, upper_after, antialiased_at}

module _ (lim : ℕ) (xs : List Float) where
  pub lower-place : (sb i : ℕ) → 0 < sb → sb < lim → i < 8 → antialiased_at lim xs (lower sb i) ≡ lower_after xs sb i
  lower-place sb i p h j =
      let q : lower sb i / 18 + 1 ≡ sb = omega arith in
      let r : 17 - lower sb i % 18 ≡ i = omega arith in
      rw (le-ltb (lower sb i % 18) 8 (omega arith), le-ltb (lower sb i % 18) 10 (omega arith), lt-ltb (lower sb i / 18 + 1) lim (omega arith), q, r)

  pub upper-place : (sb i : ℕ) → 0 < sb → sb < lim → i < 8 → antialiased_at lim xs (upper sb i) ≡ upper_after xs sb i
  upper-place sb i p h j =
      let q : upper sb i / 18 ≡ sb = omega arith in
      let r : upper sb i % 18 ≡ i = omega arith in
      rw (lt-ltb (upper sb i % 18) 8 (omega arith), lt-ltb 0 (upper sb i / 18) (omega arith), lt-ltb (upper sb i / 18) lim (omega arith), q, r)

  -- a place near none of the boundaries
  pub other_place : (k : ℕ) → ((sb : ℕ) → 0 < sb → sb < lim → Near sb 8 k → ⊥) → antialiased_at lim xs k ≡ at xs k
  other_place k far = go (dec_lt (k % 18) 8) (dec_lt (k % 18) 10) (dec_lt 0 (k / 18)) (dec_lt (k / 18) lim) (dec_lt (k / 18 + 1) lim)
    where
      go : Dec (k % 18 < 8) → Dec (k % 18 < 10) → Dec (0 < k / 18) → Dec (k / 18 < lim) → Dec (k / 18 + 1 < lim) → antialiased_at lim xs k ≡ at xs k
      go (yes a) _ (yes b) (yes e) _ = absurd (far (k / 18) b e (omega arith, omega arith))
      go (yes a) _ (yes b) (no e) _ = rw (lt-ltb (k % 18) 8 a, lt-ltb 0 (k / 18) b, le-ltb (k / 18) lim (omega arith))
      go (yes a) _ (no b) _ _ = rw (lt-ltb (k % 18) 8 a, le-ltb 0 (k / 18) (omega arith))
      go (no a) (yes b) _ _ _ = rw (le-ltb (k % 18) 8 (omega arith), lt-ltb (k % 18) 10 b)
      go (no a) (no b) _ _ (yes e) = absurd (far (k / 18 + 1) (omega arith) e (omega arith, omega arith))
      go (no a) (no b) _ _ (no e) = rw (le-ltb (k % 18) 8 (omega arith), le-ltb (k % 18) 10 (omega arith), le-ltb (k / 18 + 1) lim (omega arith))

-- ---- one boundary after the other

-- no boundary lies below 1
pub antialiased-none : (xs : List Float) → length xs ≡ 576 → xs ≡ tab 576 (antialiased_at 1 xs)
antialiased-none xs e = sym (tab-at 576 xs nan e) ∙ tab-same 576 (at xs) (antialiased_at 1 xs) (λ k h. sym (other_place 1 xs k (λ sb p q w. omega arith)))

-- a place that is not near boundary sb is the same before and after it
passed : (sb : ℕ) (xs : List Float) (k : ℕ) → (Near sb 8 k → ⊥) → antialiased_at sb xs k ≡ antialiased_at (sb + 1) xs k
passed sb xs k far = go (dec_lt (k % 18) 8) (dec_lt (k % 18) 10) (dec_lt (k / 18) sb) (dec_lt (k / 18 + 1) sb)
  where
    go : Dec (k % 18 < 8) → Dec (k % 18 < 10) → Dec (k / 18 < sb) → Dec (k / 18 + 1 < sb) → antialiased_at sb xs k ≡ antialiased_at (sb + 1) xs k
    go (yes a) _ (yes b) _ = rw (lt-ltb (k % 18) 8 a, lt-ltb (k / 18) sb b, lt-ltb (k / 18) (sb + 1) (omega arith))
    go (yes a) _ (no b) _ =
        let n : k / 18 ≡ sb → ⊥ = λ q. far (omega arith, omega arith) in
        rw (lt-ltb (k % 18) 8 a, le-ltb (k / 18) sb (omega arith), le-ltb (k / 18) (sb + 1) (omega arith))
    go (no a) (yes b) _ _ = rw (le-ltb (k % 18) 8 (omega arith), lt-ltb (k % 18) 10 b)
    go (no a) (no b) _ (yes e) =
        rw (le-ltb (k % 18) 8 (omega arith), le-ltb (k % 18) 10 (omega arith), lt-ltb (k / 18 + 1) sb e, lt-ltb (k / 18 + 1) (sb + 1) (omega arith))
    go (no a) (no b) _ (no e) =
        let n : k / 18 + 1 ≡ sb → ⊥ = λ q. far (omega arith, omega arith) in
        rw (le-ltb (k % 18) 8 (omega arith), le-ltb (k % 18) 10 (omega arith), le-ltb (k / 18 + 1) sb (omega arith), le-ltb (k / 18 + 1) (sb + 1) (omega arith))

-- what the list m, made of l, has to be for boundary sb to be done
pub boundary_done :
    {l m : List Float} (sb : ℕ) (xs : List Float) → 0 < sb → length m ≡ 576 → l ≡ tab 576 (antialiased_at sb xs)
    → ((i : ℕ) → i < 8 → at m (lower sb i) ≡ lower_after l sb i) → ((i : ℕ) → i < 8 → at m (upper sb i) ≡ upper_after l sb i)
    → ((k : ℕ) → (18 * sb ≤ k + 8 → k < 18 * sb + 8 → ⊥) → at m k ≡ at l k) → sb < 32 → m ≡ tab 576 (antialiased_at (sb + 1) xs)
boundary_done {l} {m} sb xs p e was lowers uppers others h =
    sym (tab-at 576 m nan e) ∙ tab-same 576 (at m) (antialiased_at (sb + 1) xs) (λ k q. place k q (dec_lt (k + 8) (18 * sb)) (dec_lt k (18 * sb)) (dec_lt k (18 * sb + 8)))
  where
    -- beside the boundary l is as xs was
    low : (i : ℕ) → i < 8 → at l (lower sb i) ≡ at xs (lower sb i)
    low i j = tab-place 576 (antialiased_at sb xs) (lower sb i) nan was (omega arith) ∙ other_place sb xs (lower sb i) (λ n a b w. omega arith)

    up : (i : ℕ) → i < 8 → at l (upper sb i) ≡ at xs (upper sb i)
    up i j = tab-place 576 (antialiased_at sb xs) (upper sb i) nan was (omega arith) ∙ other_place sb xs (upper sb i) (λ n a b w. omega arith)

    lower_case : (i : ℕ) → i < 8 → at m (lower sb i) ≡ antialiased_at (sb + 1) xs (lower sb i)
    lower_case i j = rw (lower-place (sb + 1) xs sb i p (omega arith) j, lowers i j, low i j, up i j)

    upper_case : (i : ℕ) → i < 8 → at m (upper sb i) ≡ antialiased_at (sb + 1) xs (upper sb i)
    upper_case i j = rw (upper-place (sb + 1) xs sb i p (omega arith) j, uppers i j, low i j, up i j)

    other_case : (k : ℕ) → k < 576 → (Near sb 8 k → ⊥) → at m k ≡ antialiased_at (sb + 1) xs k
    other_case k q far = others k (λ a b. far (a, b)) ∙ tab-place 576 (antialiased_at sb xs) k nan was q ∙ passed sb xs k far

    place : (k : ℕ) → k < 576 → Dec (k + 8 < 18 * sb) → Dec (k < 18 * sb) → Dec (k < 18 * sb + 8) → at m k ≡ antialiased_at (sb + 1) xs k
    place k q (yes a) _ _ = other_case k q (λ w. omega arith)
    place k q (no a) (yes b) _ =
        let r : lower sb (18 * sb - 1 - k) ≡ k = omega arith in
        subst (λ (j : ℕ). at m j ≡ antialiased_at (sb + 1) xs j) r (lower_case (18 * sb - 1 - k) (omega arith))
    place k q (no a) (no b) (yes c) =
        let r : upper sb (k - 18 * sb) ≡ k = omega arith in
        subst (λ (j : ℕ). at m j ≡ antialiased_at (sb + 1) xs j) r (upper_case (k - 18 * sb) (omega arith))
    place k q (no a) (no b) (no c) = other_case k q (λ w. omega arith)

-- ---- one pair after the other

-- what the pairs of boundary sb make of place k
abbrev pub pair_at : List Float → ℕ → ℕ → Float
pair_at xs sb k = cond (ltb k (18 * sb)) (lower_after xs sb (18 * sb - 1 - k)) (upper_after xs sb (k - 18 * sb))

module _ (xs : List Float) (sb i : ℕ) (p : 0 < sb) (j : i < 8) where
  pub pair-lower : pair_at xs sb (lower sb i) ≡ lower_after xs sb i
  pair-lower = let r : 18 * sb - 1 - lower sb i ≡ i = omega arith in rw (lt-ltb (lower sb i) (18 * sb) (omega arith), r)

  pub pair-upper : pair_at xs sb (upper sb i) ≡ upper_after xs sb i
  pair-upper = let r : upper sb i - 18 * sb ≡ i = omega arith in rw (le-ltb (upper sb i) (18 * sb) (omega arith), r)

  -- pair i is changed, from the numbers that l still holds
  pub pair-done :
      {l keep take : List Float} → keep ≡ cs → take ≡ ca → length xs ≡ 576 → sb < 32 → Changed nan xs (Near sb i) (pair_at xs sb) l
      → Changed nan xs (Near sb (i + 1)) (pair_at xs sb)
      (set
      (set l (lower sb i) (sub binary32 (mul binary32 (at l (lower sb i)) (at keep i)) (mul binary32 (at l (upper sb i)) (at take i))))
      (upper sb i)
      (add binary32 (mul binary32 (at l (upper sb i)) (at keep i)) (mul binary32 (at l (lower sb i)) (at take i))))
  pair-done e f n h w =
      let low = w.old (lower sb i) (λ r. omega arith) in
      let up = w.old (upper sb i) (λ r. omega arith) in
      changed_more (upper sb i)
      (changed_more {E = λ k. (18 * sb ≤ k + (i + 1)) × (k < 18 * sb + i)} (lower sb i) w (omega arith)
      (rw (low, up, e, f) (sym pair-lower)) (omega arith) (λ k r. omega arith) (λ k s r. omega arith))
      (omega arith) (rw (low, up, e, f) (sym pair-upper)) (omega arith) (λ k r. omega arith) (λ k s r. omega arith)

-- ---- how many

pub some_boundary : (kind : BlockType) → 0 < boundaries kind
some_boundary Long = omega arith
some_boundary Short = omega arith
some_boundary Mixed = omega arith
some_boundary Start = omega arith
some_boundary End = omega arith

pub boundaries-most : (kind : BlockType) → boundaries kind ≤ 32
boundaries-most Long = omega arith
boundaries-most Short = omega arith
boundaries-most Mixed = omega arith
boundaries-most Start = omega arith
boundaries-most End = omega arith
