-- A pattern that passes one test against its two neighbours passes it against all, and at a root it is the one that `pattern_from` finds. Assumes nothing.
use mathlib.Core.Path.{◌≡◌, sym, ap, subst, ◌∙◌}
use mathlib.Core.Bool.{Bool, true, false, not, ◌&&◌, cond}
use Prim.Native.Nat.{ℕ, zero, suc, ◌+◌, ◌-◌, ◌*◌, ◌%◌, ◌^◌, ◌<◌, ◌≤◌}
use native.Mathlib.Nat.{le_refl, lt_of_le_of_lt, lt_of_lt_of_le, le_of_lt, mul-le-mul_right, pow-le-pow_left, add-le-add, mod-le, le_of_suc-le-suc, not-suc-le-zero, pow-suc}
use native.Mathlib.Decide.{dec_lt}
use native.Mathlib.Omega.{arith}
use lib.Dec.{T, ltb, ltb→lt}
use lib.Pow.{pow_pos}
use lib.Ieee.{binary32, of_bits, nan_bits}
use lib.Ieee.Bits.{nan_bits_above}
use lib.Ieee.Fits.{and_l, and_r}
use borrow.Author.Tests.{le-ltb, lt-ltb}
use Rattle.nearest.specs.Nearest.{units, middle_below, pattern_from, nearest_root, BelowRoot, AboveRoot}
use Rattle.nearest.proofs.Order.{units_mono}

-- ---- the test, of any number x that two statements give, as in `NearestTo`

-- the middles between pattern b and its two neighbours lie on the two sides of x, as two tests of the middles say
abbrev pub under : (ℕ → Bool) → ℕ → Bool
under below zero = true
under below (suc b) = below (units b + units (suc b))

abbrev pub over : (ℕ → Bool) → ℕ → Bool
over above b = above (units b + units (suc b))

abbrev pub between : (below above : ℕ → Bool) → ℕ → Bool
between below above b = ltb b 0x7f80_0000 && (under below b && over above b)

-- what is asked of the tests and of the statements: a test that passes says so, what is smaller than a number below x lies below x too, and what is larger than one above x above it
pub record Tests (Below Above : ℕ → Type 0) (below above : ℕ → Bool) : Type 0 where
  pub is_below : (m : ℕ) → T (below m) → Below m
  pub is_above : (m : ℕ) → T (above m) → Above m
  pub lower : (l m : ℕ) → l ≤ m → Below m → Below l
  pub upper : (l m : ℕ) → l ≤ m → Above l → Above m

pub between-finite : (below above : ℕ → Bool) (b : ℕ) → T (between below above b) → b < 0x7f80_0000
between-finite below above b t = ltb→lt b 0x7f80_0000 (and_l (ltb b 0x7f80_0000) (under below b && over above b) t)

-- then the middles between b and every other pattern lie so too
module _ {Below Above : ℕ → Type 0} {below above : ℕ → Bool} (x : Tests Below Above below above) where
  below_all : (b c : ℕ) → T (under below b) → c < b → Below (units c + units b)
  below_all zero c t h = absurd (not-suc-le-zero h)
  below_all (suc b) c t h =
      x.lower (units c + units (suc b)) (units b + units (suc b)) (add-le-add (units_mono c b (le_of_suc-le-suc h)) (le_refl (units (suc b))))
      (x.is_below (units b + units (suc b)) t)

  module _ (b : ℕ) (t : T (between below above b)) where
    sides : T (under below b && over above b)
    sides = and_r (ltb b 0x7f80_0000) (under below b && over above b) t

    pub between-below : (c : ℕ) → c < b → Below (units c + units b)
    between-below c h = below_all b c (and_l (under below b) (over above b) sides) h

    pub between-above : (c : ℕ) → b < c → Above (units b + units c)
    between-above c h =
        x.upper (units b + units (suc b)) (units b + units c) (add-le-add (le_refl (units b)) (units_mono (suc b) c h))
        (x.is_above (units b + units (suc b)) (and_r (under below b) (over above b) sides))

-- ---- the test of a root

abbrev pub below_root : ℕ → ℕ → ℕ → ℕ → Bool
below_root k num den m = ltb (m ^ k * den) (num * 2 ^ (150 * k))

abbrev pub above_root : ℕ → ℕ → ℕ → ℕ → Bool
above_root k num den m = ltb (num * 2 ^ (150 * k)) (m ^ k * den)

abbrev pub near : ℕ → ℕ → ℕ → ℕ → Bool
near k num den = between (below_root k num den) (above_root k num den)

pub root-tests : (k num den : ℕ) → Tests (BelowRoot k num den) (AboveRoot k num den) (below_root k num den) (above_root k num den)
root-tests k num den = record {
  is_below = λ m. ltb→lt (m ^ k * den) (num * 2 ^ (150 * k));
  is_above = λ m. ltb→lt (num * 2 ^ (150 * k)) (m ^ k * den);
  lower = λ l m h g. lt_of_le_of_lt (mul-le-mul_right den (pow-le-pow_left h k)) g;
  upper = λ l m h g. lt_of_lt_of_le g (mul-le-mul_right den (pow-le-pow_left h k));
}

pub near-finite : (k num den b : ℕ) → T (near k num den b) → b < 0x7f80_0000
near-finite k num den = between-finite (below_root k num den) (above_root k num den)

-- such a pattern is no NaN's
pub no_nan : (b : ℕ) → b < 0x7f80_0000 → T (not (nan_bits binary32 b))
no_nan b h = subst (λ (t : Bool). T (not t)) (sym (nan_bits_above binary32 b ∙ le-ltb 0x7f80_0000 (b % 0x8000_0000) (le_of_lt (lt_of_le_of_lt (mod-le b 0x8000_0000) h)))) tt

-- ---- the search by bits ends at it

module _ (k num den b : ℕ) (t : T (near k num den b)) where
  yes_below : (c : ℕ) → 0 < c → c ≤ b → middle_below k num den c ≡ true
  yes_below c p h =
      lt-ltb ((units (c - 1) + units c) ^ k * den) (num * 2 ^ (150 * k))
      ((root-tests k num den).lower (units (c - 1) + units c) (units (c - 1) + units b) (add-le-add (le_refl (units (c - 1))) (units_mono c b h))
      (between-below (root-tests k num den) b t (c - 1) (omega arith)))

  not-below : (c : ℕ) → b < c → middle_below k num den c ≡ false
  not-below c h =
      le-ltb ((units (c - 1) + units c) ^ k * den) (num * 2 ^ (150 * k))
      (le_of_lt ((root-tests k num den).upper (units b + units c) (units (c - 1) + units c) (add-le-add (units_mono b (c - 1) (omega arith)) (le_refl (units c)))
      (between-above (root-tests k num den) b t c h)))

  search_ends : (i p : ℕ) → p ≤ b → b < p + 2 ^ i → pattern_from k num den i p ≡ b
  unfolding pattern_from
  search_ends zero p h g = omega arith
  search_ends (suc i) p h g = split (dec_lt b (p + 2 ^ i)) (search_ends i)
    where
      split : Dec (b < p + 2 ^ i) → ((p : ℕ) → p ≤ b → b < p + 2 ^ i → pattern_from k num den i p ≡ b)
          → pattern_from k num den i (cond (middle_below k num den (p + 2 ^ i)) (p + 2 ^ i) p) ≡ b
      split (yes l) r = rw (not-below (p + 2 ^ i) l) (r p h l)
      split (no l) r = rw (yes_below (p + 2 ^ i) (omega (arith, pow_pos i)) (omega arith)) (r (p + 2 ^ i) (omega arith) (omega (arith, pow-suc 2 i)))

  pub found : of_bits binary32 b ≡ nearest_root k num den
  unfolding nearest_root
  found = ap (of_bits binary32) (sym (search_ends 31 0 (omega arith) (omega (arith, near-finite k num den b t))))
