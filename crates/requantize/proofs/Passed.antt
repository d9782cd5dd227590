-- What is known of an accepted channel: each check of requantize that passes, as a bound on the numbers that it looked at. Assumes nothing.
use mathlib.Core.Path.{◌≡◌, refl}
use mathlib.Core.Bool.{Bool, true, false, cond, and-eq-true_iff}
use mathlib.Core.List.{List}
use Prim.Native.Nat.{ℕ, ◌+◌, ◌*◌, ◌<◌, ◌≤◌}
use native.Mathlib.Nat.{mul-le-mul}
use native.Mathlib.Omega.{arith}
use lib.Dec.{leb}
use lib.IntN.{ℤ, nat_abs}
use lib.ListN.{get_or}
use borrow.Author.Tests.{ltb-false, leb-true, not-false}
use Rattle.laws.specs.Checks.{first, all_to, all_at_most}
use Rattle.laws.proofs.Checks.{passes, all-each, each-at-most}
use Rattle.side_info.specs.declared.SideInfo.{SideInfo}
use Rattle.bands.specs.Starts.{pretab}
use Rattle.bands.specs.Bands.{KnownTable}
use Rattle.bands.proofs.Tables.{known}
use Rattle.side_info.specs.Side.{factor_too_high, subblock_gain_too_high, number_too_large}
use Rattle.requantize.specs.Requantize.{multiplier, pre, number_at, requantize_checks}

pub pretab-small : (k : ℕ) → get_or pretab k 0 ≤ 3
unfolding pretab all_to
pretab-small = each-at-most 3 pretab refl

module _ (s : SideInfo) where
  module _ (h : factor_too_high s ≡ false) where
    factors : (all_at_most 15 s.scalefac_l ≡ true) × (all_at_most 15 s.scalefac_s ≡ true)
    factors = (and-eq-true_iff _ _).0 (not-false _ h)

    pub long-factor : (k : ℕ) → get_or s.scalefac_l k 0 ≤ 15
    long-factor = each-at-most 15 s.scalefac_l factors.0

    short-factor : (k : ℕ) → get_or s.scalefac_s k 0 ≤ 15
    short-factor = each-at-most 15 s.scalefac_s factors.1

  pub subblock : subblock_gain_too_high s ≡ false → (win : ℕ) → get_or s.subblock_gain win 0 ≤ 7
  subblock h = each-at-most 7 s.subblock_gain (not-false _ h)

  multiplier-small : multiplier s ≤ 4
  multiplier-small = go s.scalefac_scale
    where
      go : (b : Bool) → cond b 4 2 ≤ 4
      go true = omega arith
      go false = omega arith

  pub pre-small : (k : ℕ) → pre s k ≤ 3
  pre-small k = go s.preflag
    where
      go : (b : Bool) → cond b (get_or pretab k 0) 0 ≤ 3
      go true = pretab-small k
      go false = omega arith

  -- so what the gain is lessened by is small
  module _ (h : factor_too_high s ≡ false) {m : ℕ} (e : m ≡ multiplier s) where
    pub long-less : (k : ℕ) {p : ℕ} → p ≡ pre s k → m * (get_or s.scalefac_l k 0 + p) ≤ 4 * 18
    long-less k q =
        let sum : get_or s.scalefac_l k 0 + pre s k ≤ 18 = omega (arith, long-factor h k, pre-small k) in
        rw (e, q) (mul-le-mul multiplier-small sum)

    pub short-less : (k : ℕ) → m * get_or s.scalefac_s k 0 ≤ 4 * 15
    short-less k = rw e (mul-le-mul multiplier-small (short-factor h k))

-- ---- the checks of requantize, all passed

pub record Accepted (t : ℕ) (s : SideInfo) (xs : List ℤ) : Type 0 where
  pub table : KnownTable t
  pub count : s.count1 ≤ 576
  pub factors : factor_too_high s ≡ false
  pub gains : subblock_gain_too_high s ≡ false
  pub numbers : (i : ℕ) → i < 576 → nat_abs (number_at xs i) < 8207

pub numbers-small : (xs : List ℤ) → number_too_large xs ≡ false → (i : ℕ) → i < 576 → nat_abs (number_at xs i) < 8207
numbers-small xs e i h = let l = leb-true (nat_abs (number_at xs i)) 8206 (all-each 576 (λ i. leb (nat_abs (number_at xs i)) 8206) (not-false _ e) i h) in omega arith

pub accepted : (t : ℕ) (s : SideInfo) (xs : List ℤ) → first (requantize_checks t s xs) ≡ 0 → Accepted t s xs
accepted t s xs e =
    let checks = requantize_checks t s xs in
    record {
      table = known t (passes 3 checks tt e);
      count = ltb-false 576 s.count1 (passes 4 checks tt e);
      factors = passes 5 checks tt e;
      gains = passes 6 checks tt e;
      numbers = numbers-small xs (passes 7 checks tt e);
    }
