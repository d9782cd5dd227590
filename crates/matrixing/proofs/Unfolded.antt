-- A slot's 64 places from the 32 sums that the others mirror and the one in the middle. Assumes nothing.
use mathlib.Core.Path.{◌≡◌, refl, sym, ap, subst, ◌∙◌}
use mathlib.Core.List.{List}
use Prim.Native.Nat.{ℕ, ◌+◌, ◌-◌, ◌<◌, ◌≤◌}
use native.Mathlib.Decide.{dec_lt}
use native.Mathlib.Omega.{arith}
use borrow.Author.Tests.{lt-ltb, le-ltb}
use lib.ListN.{set}
use lib.Ieee.{Float, nan, binary32, sub}
use Rattle.laws.specs.Lists.{at, tab}
use Rattle.laws.specs.Sum.{zero_f}
use Rattle.laws.proofs.Lists.{tab-place, tab-same, Fills, fills_more}
use Rattle.matrixing.specs.Matrixing.{matrixed_at}
use Rattle.matrixing.specs.Halves.{half_place, unfolded}
use Rattle.matrixing.proofs.Mirrored.{opposed-at, mirrored-at}

-- a turn of a loop that fills from place a on
pub fills-next : {f : ℕ → Float} (a i : ℕ) {l : List Float} {x : Float} → Fills 64 f (a + i) l → a + i < 64 → x ≡ f (a + i) → Fills 64 f (a + (i + 1)) (set l (a + i) x)
fills-next {f} a i w h e = let n : a + i + 1 ≡ a + (i + 1) = omega arith in rw n at (fills_more w h e)

module _ (sums : List Float) (m : Float) where
  abbrev placed : ℕ → Float
  placed = unfolded sums m

  pub at_front : (i : ℕ) → i < 16 → at sums i ≡ placed i
  at_front i h = rw (lt-ltb i 16 h)

  pub at-middle : m ≡ placed 16
  at-middle = refl

  pub at-opposed : (i : ℕ) → i < 16 → sub binary32 zero_f (at sums (15 - i)) ≡ placed (17 + i)
  at-opposed i h =
      let e : 32 - (17 + i) ≡ 15 - i = omega arith in
      rw (le-ltb (17 + i) 16 (omega arith), le-ltb (17 + i) 17 (omega arith), lt-ltb (17 + i) 33 (omega arith), e)

  pub at-mirrored : (i : ℕ) → i < 15 → at sums (31 - i) ≡ placed (33 + i)
  at-mirrored i h =
      let e : 64 - (33 + i) ≡ 31 - i = omega arith in
      rw (le-ltb (33 + i) 16 (omega arith), le-ltb (33 + i) 17 (omega arith), le-ltb (33 + i) 33 (omega arith), lt-ltb (33 + i) 48 (omega arith), e)

  pub at_back : (i : ℕ) → at sums (16 + i) ≡ placed (48 + i)
  at_back i =
      let e : 48 + i - 32 ≡ 16 + i = omega arith in
      rw (le-ltb (48 + i) 16 (omega arith), le-ltb (48 + i) 17 (omega arith), le-ltb (48 + i) 33 (omega arith), le-ltb (48 + i) 48 (omega arith), e)

  module _ (s : List Float) (e : sums ≡ tab 32 (λ i. matrixed_at s (half_place i))) (d : m ≡ matrixed_at s 16) where
    -- the place that sum i is made for
    sum-at : (i q : ℕ) → i < 32 → half_place i ≡ q → at sums i ≡ matrixed_at s q
    sum-at i q h p = tab-place 32 (λ i. matrixed_at s (half_place i)) i nan e h ∙ ap (matrixed_at s) p

    abbrev Right : ℕ → Type 0
    Right q = placed q ≡ matrixed_at s q

    opposed : (i : ℕ) → i < 16 → Right (17 + i)
    opposed i h =
        let p : 32 - (15 - i) ≡ 17 + i = omega arith in
        sym (at-opposed i h) ∙ ap (sub binary32 zero_f) (sum-at (15 - i) (15 - i) (omega arith) (omega arith)) ∙ sym (opposed-at s (15 - i) (omega arith)) ∙ ap (matrixed_at s) p

    mirrored : (i : ℕ) → i < 15 → Right (33 + i)
    mirrored i h =
        let p : 48 - (15 - i) ≡ 33 + i = omega arith in
        sym (at-mirrored i h) ∙ sum-at (31 - i) (48 + (15 - i)) (omega arith) (omega arith) ∙ mirrored-at s (15 - i) (omega arith) ∙ ap (matrixed_at s) p

    back : (i : ℕ) → i < 16 → Right (48 + i)
    back i h = sym (at_back i) ∙ sum-at (16 + i) (48 + i) (omega arith) (omega arith)

    from : (a q : ℕ) → a ≤ q → Right (a + (q - a)) → Right q
    from a q h r = let p : a + (q - a) ≡ q = omega arith in subst Right p r

    place_at : (q : ℕ) → q < 64 → Right q
    place_at q h = first (dec_lt q 16)
      where
        fourth : Dec (q < 48) → 33 ≤ q → Right q
        fourth (yes k) l = from 33 q l (mirrored (q - 33) (omega arith))
        fourth (no k) l = from 48 q (omega arith) (back (q - 48) (omega arith))

        third : Dec (q < 33) → 17 ≤ q → Right q
        third (yes k) l = from 17 q l (opposed (q - 17) (omega arith))
        third (no k) l = fourth (dec_lt q 48) (omega arith)

        second : Dec (q < 17) → 16 ≤ q → Right q
        second (yes k) l = let p : 16 ≡ q = omega arith in subst Right p (sym at-middle ∙ d)
        second (no k) l = third (dec_lt q 33) (omega arith)

        first : Dec (q < 16) → Right q
        first (yes k) = sym (at_front q k) ∙ sum-at q q (omega arith) (omega arith)
        first (no k) = second (dec_lt q 17) (omega arith)

    pub unfolded-all : tab 64 placed ≡ tab 64 (matrixed_at s)
    unfolded-all = tab-same 64 placed (matrixed_at s) place_at
