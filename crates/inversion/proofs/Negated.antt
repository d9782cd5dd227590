-- Inversion in parts: each part negates the odd places among those that a test picks. Assumes nothing.
use mathlib.Core.Path.{◌≡◌, sym, subst, ap, ◌∙◌}
use mathlib.Core.Bool.{cond}
use mathlib.Core.List.{List}
use Prim.Native.Nat.{ℕ, ◌+◌, ◌*◌, ◌/◌, ◌%◌, ◌<◌, ◌≤◌}
use native.Mathlib.Decide.{ℕ_discrete, dec_lt}
use native.Mathlib.Omega.{arith}
use lib.Dec.{eqb}
use lib.ListN.{length, set, get_or-eq_default}
use lib.Ieee.{Float, nan, neg}
use borrow.Author.Tests.{eq-eqb, ne_eqb}
use Rattle.laws.specs.Lists.{at, tab}
use Rattle.laws.proofs.Lists.{tab-place, length-tab}
use Rattle.laws.proofs.Changed.{Changed, changed_more, changed_end}
use Rattle.inversion.specs.Inversion.{inverted_at, turned_where}

-- the rule: an odd place is negated
abbrev pub odd_negated : List Float → ℕ → Float
odd_negated xs k = cond (eqb (k % 18 % 2) 1) (neg (at xs k)) (at xs k)

-- the places of D by the rule, the others as they were
abbrev pub Done : List Float → (ℕ → Type 0) → List Float → Type 0
Done xs D l = Changed nan xs D (odd_negated xs) l

-- ---- which places: odd ones of subband sb, below its place i
abbrev pub OddBelow : ℕ → ℕ → ℕ → Type 0
OddBelow sb i k = (k / 18 ≡ sb) × ((k % 18 < i) × (k % 18 % 2 ≡ 1))

-- the first i of the numbers of subband sb from its place from on
abbrev pub Run : ℕ → ℕ → ℕ → ℕ → Type 0
Run sb from i k = (k / 18 ≡ sb) × ((from ≤ k % 18) × (k % 18 < from + i))

-- the first j of eight subbands
abbrev pub Subbands : ℕ → ℕ → ℕ → Type 0
Subbands sb j k = (k / 18 % 4 ≡ sb) × (k / 18 < sb + 4 * j)

-- the odd subbands whose numbers modulo 4 are below sb
abbrev pub Odds : ℕ → ℕ → Type 0
Odds sb k = (k / 18 % 2 ≡ 1) × (k / 18 % 4 < sb)

both_decided : {A B : Type 0} → Dec A → Dec B → Dec (A × B)
both_decided (yes a) (yes b) = yes (a, b)
both_decided (no a) _ = no (λ r. a r.0)
both_decided (yes _) (no b) = no (λ r. b r.1)

-- the odd place left over is not among the sixteen
pub left_outside : (sb from i left : ℕ) → 0 < from → from < 3 → i ≤ 16 → left + 16 * from ≡ 33 → Run sb from i (18 * sb + left) → ⊥
left_outside sb from i left f f' h m r = go (dec_lt from 2)
  where
    go : Dec (from < 2) → ⊥
    go (yes q) = omega arith
    go (no q) = omega arith

module _ (xs : List Float) (e : length xs ≡ 576) where
  -- ---- one part more, and the end

  done_more :
      {l m : List Float} {D E : ℕ → Type 0} (u : ℕ → ℕ) (v : ℕ) → Done xs D l → m ≡ tab 576 (turned_where u v l)
      → ((k : ℕ) → k < 576 → u k ≡ v → (D k → ⊥) × E k) → ((k : ℕ) → (u k ≡ v → ⊥) → (D k → E k) × (E k → D k)) → Done xs E m
  done_more {l} {m} {D} {E} u v w f picked others = record {
    long = long ∙ sym e;
    new = λ k q r. new k (rw (sym e) q) r (ℕ_discrete (u k) v);
    old = λ k r. old k r (ℕ_discrete (u k) v) (dec_lt k 576);
  }
    where
      long : length m ≡ 576
      long = ap length f ∙ length-tab 576 (turned_where u v l)

      there : (k : ℕ) → k < 576 → at m k ≡ turned_where u v l k
      there k q = tab-place 576 (turned_where u v l) k nan f q

      new : (k : ℕ) → k < 576 → E k → Dec (u k ≡ v) → at m k ≡ odd_negated xs k
      new k q r (yes a) = there k q ∙ rw (eq-eqb (u k) v a, w.old k (picked k q a).0)
      new k q r (no a) = there k q ∙ rw (ne_eqb (u k) v a) (w.new k (rw e q) ((others k a).1 r))

      old : (k : ℕ) → (E k → ⊥) → Dec (u k ≡ v) → Dec (k < 576) → at m k ≡ at xs k
      old k r (yes a) (yes q) = absurd (r (picked k q a).1)
      old k r (no a) (yes q) = there k q ∙ rw (ne_eqb (u k) v a) (w.old k (λ s. r ((others k a).0 s)))
      old k r _ (no q) = get_or-eq_default m nan (omega (arith, long)) ∙ sym (get_or-eq_default xs nan (omega (arith, e)))

  done_end :
      {l : List Float} {D : ℕ → Type 0} (u : ℕ → ℕ) (v : ℕ) → Done xs D l → ((k : ℕ) → Dec (D k)) → ((k : ℕ) → D k → u k ≡ v)
      → ((k : ℕ) → k < 576 → (D k → ⊥) → u k ≡ v → k % 18 % 2 ≡ 1 → ⊥) → l ≡ tab 576 (turned_where u v xs)
  done_end {l} {D} u v w dec picked all = changed_end 576 (turned_where u v xs) w e (λ k q. place k q (dec k) (ℕ_discrete (u k) v) (ℕ_discrete (k % 18 % 2) 1))
    where
      place : (k : ℕ) → k < 576 → Dec (D k) → Dec (u k ≡ v) → Dec (k % 18 % 2 ≡ 1) → at l k ≡ turned_where u v xs k
      place k q (yes a) _ _ = rw (eq-eqb (u k) v (picked k a)) (w.new k (rw e q) a)
      place k q (no a) (no b) _ = rw (ne_eqb (u k) v b) (w.old k a)
      place k q (no a) (yes b) (yes c) = absurd (all k q a b c)
      place k q (no a) (yes b) (no c) = rw (eq-eqb (u k) v b, ne_eqb (k % 18 % 2) 1 c) (w.old k a)

  -- ---- place by place

  pub odd_more :
      {l m : List Float} (sb i : ℕ) → sb < 32 → i < 18 → i % 2 ≡ 1 → Done xs (OddBelow sb i) l → m ≡ set l (18 * sb + i) (neg (at l (18 * sb + i)))
      → Done xs (OddBelow sb (i + 2)) m
  odd_more sb i s h o w is =
      let n = 18 * sb + i in
      subst (Done xs (OddBelow sb (i + 2))) (sym is)
      (changed_more n w (omega (arith, e)) (rw (eq-eqb (n % 18 % 2) 1 (omega arith), w.old n (λ r. omega arith))) (omega arith) (λ k r. omega arith) (λ k t r. omega arith))

  pub odd_end : {l : List Float} (sb i : ℕ) → 18 ≤ i → Done xs (OddBelow sb i) l → l ≡ tab 576 (turned_where (λ k. k / 18) sb xs)
  odd_end sb i h w =
      done_end (λ k. k / 18) sb w (λ k. both_decided (ℕ_discrete (k / 18) sb) (both_decided (dec_lt (k % 18) i) (ℕ_discrete (k % 18 % 2) 1))) (λ k r. r.0) (λ k q r t o. r (omega arith))

  -- ---- sixteen of a subband's places, and the odd one left over

  pub run_end :
      {l : List Float} {a : Float} (sb from i left : ℕ) → sb < 32 → 0 < from → from < 3 → i ≡ 16 → left + 16 * from ≡ 33 → Done xs (Run sb from i) l
      → a ≡ neg (at l (18 * sb + left)) → set l (18 * sb + left) a ≡ tab 576 (turned_where (λ k. k / 18) sb xs)
  run_end {l} {a} sb from i left s f f' h m w is =
      done_end (λ k. k / 18) sb all (λ k. both_decided (ℕ_discrete (k / 18) sb) (dec_lt 0 (k % 18))) (λ k r. r.0) (λ k q r t o. r (omega arith))
    where
      n : ℕ
      n = 18 * sb + left

      covered : Dec (from < 2) → (k : ℕ) → (k ≡ n → ⊥) → (k / 18 ≡ sb) × (0 < k % 18) → Run sb from i k
      covered (yes q) k t r = omega arith
      covered (no q) k t r = omega arith

      all : Done xs (λ k. (k / 18 ≡ sb) × (0 < k % 18)) (set l n a)
      all =
          changed_more n w (omega (arith, e)) (is ∙ rw (eq-eqb (n % 18 % 2) 1 (omega arith), w.old n (left_outside sb from i left f f' (omega arith) m))) (omega arith)
          (λ k r. omega arith) (covered (dec_lt from 2))

  -- ---- part by part

  pub subbands_more :
      {l m : List Float} (sb j : ℕ) → sb < 4 → Done xs (Subbands sb j) l → m ≡ tab 576 (turned_where (λ k. k / 18) (sb + 4 * j) l) → Done xs (Subbands sb (j + 1)) m
  subbands_more sb j h w f = done_more (λ k. k / 18) (sb + 4 * j) w f (λ k q r. (λ t. omega arith, omega arith)) (λ k r. (λ t. omega arith, λ t. omega arith))

  pub subbands-end : {l : List Float} (sb j : ℕ) → 8 ≤ j → Done xs (Subbands sb j) l → l ≡ tab 576 (turned_where (λ k. k / 18 % 4) sb xs)
  subbands-end sb j h w =
      done_end (λ k. k / 18 % 4) sb w (λ k. both_decided (ℕ_discrete (k / 18 % 4) sb) (dec_lt (k / 18) (sb + 4 * j))) (λ k r. r.0) (λ k q r t o. r (omega arith))

  pub odds_more : {l m : List Float} (sb : ℕ) → sb % 2 ≡ 1 → Done xs (Odds sb) l → m ≡ tab 576 (turned_where (λ k. k / 18 % 4) sb l) → Done xs (Odds (sb + 2)) m
  odds_more sb h w f = done_more (λ k. k / 18 % 4) sb w f (λ k q r. (λ t. omega arith, omega arith)) (λ k r. (λ t. omega arith, λ t. omega arith))

  pub odds_end : {l : List Float} (sb : ℕ) → 4 ≤ sb → Done xs (Odds sb) l → l ≡ tab 576 (inverted_at xs)
  odds_end sb h w =
      done_end (λ k. k / 18 % 2) 1 w (λ k. both_decided (ℕ_discrete (k / 18 % 2) 1) (dec_lt (k / 18 % 4) sb)) (λ k r. r.0) (λ k q r t o. r (omega arith))

-- an even subband stays as it was
pub even_kept : (xs : List Float) (k : ℕ) → (k / 18 % 2 ≡ 1 → ⊥) → inverted_at xs k ≡ at xs k
even_kept xs k h = rw (ne_eqb (k / 18 % 2) 1 h)
