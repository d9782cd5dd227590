-- The theorems for a reader: a pattern that passes the test is the f32 nearest to the number among all f32 values, and there is one such f32. Assumes nothing.
use mathlib.Core.Path.{◌≡◌, sym, ap, ◌∙◌, subst}
use mathlib.Core.Bool.{Bool, false}
use Prim.Native.Nat.{ℕ, ◌+◌, ◌*◌, ◌^◌, ◌<◌}
use native.Mathlib.Nat.{le_antisymm, le_of_suc-le-suc, lt_irrefl, lt_of_not-le, lt_trans}
use lib.Dec.{T}
use lib.Ieee.{Float, binary32, fits, of_bits, to_bits}
use lib.Ieee.Bits.{of_bits-to_bits, of_bits-fits, to_bits-lt}
use lib.Ieee.Exact.{HasValue}
use Rattle.nearest.specs.Nearest.{units, nearest_root, NearestTo, BelowRoot, AboveRoot, NearestF32}
use Rattle.nearest.proofs.Order.{in_order, same_pattern}
use Rattle.nearest.proofs.Value.{units-value, finite_pattern, same_size}
use Rattle.nearest.proofs.Test.{between, Tests, between-finite, between-below, between-above, near, root-tests, found}

-- the pattern of a finite f32 that is not negative, and its size by it
module _ (y : Float) (c : ℕ) (f : T (fits binary32 y)) (v : HasValue y false c (2 ^ 149)) where
  there : HasValue (of_bits binary32 (to_bits binary32 y)) false c (2 ^ 149)
  there = subst (λ (z : Float). HasValue z false c (2 ^ 149)) (sym (of_bits-to_bits binary32 y f)) v

  finite : to_bits binary32 y < 0x7f80_0000
  finite = finite_pattern (to_bits binary32 y) c (2 ^ 149) (to_bits-lt binary32 y f) there

  sized : c ≡ units (to_bits binary32 y)
  sized = same_size (of_bits binary32 (to_bits binary32 y)) c (units (to_bits binary32 y)) (2 ^ 149) there (units-value (to_bits binary32 y) finite)

-- ---- of any number that two statements give

module _ (Below Above : ℕ → Type 0) where
  -- a finite pattern is nearest whose middles towards every smaller one lie below the number, and towards every larger one above it
  pub nearest_pattern : (b : ℕ) → b < 0x7f80_0000 → ((c : ℕ) → c < b → Below (units c + units b)) → ((c : ℕ) → b < c → Above (units b + units c))
      → NearestTo Below Above (of_bits binary32 b)
  nearest_pattern b small lower upper = record {
    fit = of_bits-fits binary32 b;
    size = units b;
    value = units-value b small;
    below = λ y c f v h.
        subst (λ (z : ℕ). Below (z + units b)) (sym (sized y c f v))
        (lower (to_bits binary32 y) (in_order (to_bits binary32 y) b (subst (λ (z : ℕ). z < units b) (sized y c f v) h)));
    above = λ y c f v h.
        subst (λ (z : ℕ). Above (units b + z)) (sym (sized y c f v))
        (upper (to_bits binary32 y) (in_order b (to_bits binary32 y) (subst (λ (z : ℕ). units b < z) (sized y c f v) h)));
  }

  -- there is one such f32, where nothing lies both below the number and above it
  module _ (apart : (m : ℕ) → Below m → Above m → ⊥) where
    no_smaller : (r s : Float) (p : NearestTo Below Above r) (q : NearestTo Below Above s) → p.size < q.size → ⊥
    no_smaller r s p q h = apart (p.size + q.size) (q.below r p.size p.fit p.value h) (p.above s q.size q.fit q.value h)

    same-size_of : (r s : Float) (p : NearestTo Below Above r) (q : NearestTo Below Above s) → p.size ≡ q.size
    same-size_of r s p q =
        le_antisymm (le_of_suc-le-suc (lt_of_not-le (no_smaller s r q p))) (le_of_suc-le-suc (lt_of_not-le (no_smaller r s p q)))

    pub only_one : (r s : Float) → NearestTo Below Above r → NearestTo Below Above s → r ≡ s
    only_one r s p q =
        sym (of_bits-to_bits binary32 r p.fit)
        ∙ ap (of_bits binary32)
        (same_pattern (to_bits binary32 r) (to_bits binary32 s)
        (sym (sized r p.size p.fit p.value) ∙ same-size_of r s p q ∙ sized s q.size q.fit q.value))
        ∙ of_bits-to_bits binary32 s q.fit

-- a pattern that passes the test is nearest
pub nearest_between : {Below Above : ℕ → Type 0} {below above : ℕ → Bool} → Tests Below Above below above → (b : ℕ) → T (between below above b)
    → NearestTo Below Above (of_bits binary32 b)
nearest_between {Below} {Above} {below} {above} x b t =
    nearest_pattern Below Above b (between-finite below above b t) (between-below x b t) (between-above x b t)

-- ---- of a root

pub nearest : (k num den b : ℕ) → T (near k num den b) → NearestF32 k num den (nearest_root k num den)
nearest k num den b t = subst (NearestF32 k num den) (found k num den b t) (nearest_between (root-tests k num den) b t)

pub unique : (k num den : ℕ) (r s : Float) → NearestF32 k num den r → NearestF32 k num den s → r ≡ s
unique k num den = only_one (BelowRoot k num den) (AboveRoot k num den) (λ m h g. lt_irrefl (m ^ k * den) (lt_trans h g))
