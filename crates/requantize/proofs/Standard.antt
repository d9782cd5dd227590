-- Requantize against ISO/IEC 11172-3, as specs/Standard.antt says it. Assumes nothing.
use mathlib.Core.Path.{◌≡◌, refl, sym, ap, ◌∙◌}
use mathlib.Core.Bool.{Bool, true, false, true≢false, cond, ◌||◌}
use mathlib.Core.List.{List}
use Prim.Native.Nat.{ℕ, ◌+◌, ◌*◌, ◌<◌}
use native.Mathlib.Omega.{arith}
use lib.Dec.{ltb}
use lib.IntN.{ℤ, pos, neg_ℤ, nat_abs, ◌+ℤ◌, ◌-ℤ◌, neg_ℤ-+ℤ, +ℤ_assoc}
use lib.ListN.{get_or}
use lib.Ieee.{Float, nan}
use Rattle.laws.specs.Checks.{first}
use Rattle.laws.specs.Lists.{at}
use Rattle.laws.proofs.Lists.{get_d_tab}
use Rattle.power_table.specs.Power.{power}
use Rattle.powers.specs.Powers.{gain, product}
use Rattle.powers.specs.Quarters.{InGain}
use Rattle.powers.proofs.Gains.{gain_nearest}
use Rattle.powers.proofs.Products.{power_nearest}
use Rattle.side_info.specs.declared.SideInfo.{SideInfo}
use Rattle.side_info.specs.declared.BlockType.{BlockType}
use Rattle.side_info.specs.declared.BlockType.TheVariants.{Long, Short, Mixed, Start, End}
use Rattle.bands.specs.Starts.{pretab}
use Rattle.bands.specs.Bands.{long_starts, short_starts, band_at, short_band, short_window}
use Rattle.side_info.specs.Kinds.{by_kind}
use Rattle.requantize.specs.Requantize.{multiplier, pre, long_quarters, short_quarters, number_at, raw_at, long_at, short_at, requantized_at, requantized, requantize_checks}
use Rattle.requantize.specs.Standard.{Scaled, halves, preflag, standard_long, standard_short, standard_at, reached}
use Rattle.requantize.proofs.Passed.{Accepted, accepted, subblock, long-less, short-less}
use Rattle.requantize.proofs.Minus.{in_gain}

-- ---- the standard's exponent, in quarters

minus-sum : (z : ℤ) (a b : ℕ) → z -ℤ pos (a + b) ≡ z -ℤ pos a -ℤ pos b
minus-sum z a b = ap (λ (y : ℤ). z +ℤ y) (neg_ℤ-+ℤ (pos a) (pos b)) ∙ sym (+ℤ_assoc z (neg_ℤ (pos a)) (neg_ℤ (pos b)))

twice : (b : Bool) (n : ℕ) → cond b 4 2 * n ≡ 2 * cond b 2 1 * n
twice true n = refl
twice false n = refl

times : (b : Bool) (n : ℕ) → cond b n 0 ≡ cond b 1 0 * n
times true n = omega arith
times false n = omega arith

module _ (s : SideInfo) (k : ℕ) where
  pub long_exponent : long_quarters s k ≡ standard_long s k
  long_exponent =
      rw (times s.preflag (get_or pretab k 0), twice s.scalefac_scale (get_or s.scalefac_l k 0 + preflag s * get_or pretab k 0))
      (minus-sum (pos s.global_gain) 210 (2 * halves s * (get_or s.scalefac_l k 0 + preflag s * get_or pretab k 0)))

  pub short_exponent : (win : ℕ) → short_quarters s k win ≡ standard_short s k win
  short_exponent win =
      let sub = 8 * get_or s.subblock_gain win 0 in
      let less = 2 * halves s * get_or s.scalefac_s (3 * k + win) 0 in
      rw (twice s.scalefac_scale (get_or s.scalefac_s (3 * k + win) 0))
      (minus-sum (pos s.global_gain) (210 + sub) less ∙ ap (λ (z : ℤ). z -ℤ pos less) (minus-sum (pos s.global_gain) 210 sub))

-- ---- each position

-- the choice by the block type, where a position is reached and where not
chosen : (kind : BlockType) (a b m : Bool) (r : Float) {x ql qs : ℤ} {l s : Float} → by_kind kind a b (m || b) ≡ true → Scaled x ql l → Scaled x qs s
    → Scaled x (by_kind kind ql qs (cond m ql qs)) (by_kind kind (cond a l r) (cond b s r) (cond m l (cond b s r)))
chosen Long true b m r e u v = u
chosen Long false b m r e u v = absurd (true≢false (sym e))
chosen Start true b m r e u v = u
chosen Start false b m r e u v = absurd (true≢false (sym e))
chosen End true b m r e u v = u
chosen End false b m r e u v = absurd (true≢false (sym e))
chosen Short a true m r e u v = v
chosen Short a false m r e u v = absurd (true≢false (sym e))
chosen Mixed a b true r e u v = u
chosen Mixed a true false r e u v = v
chosen Mixed a false false r e u v = absurd (true≢false (sym e))

-- a position that is not reached has the raw number, by whichever block type
pub left-raw : (kind : BlockType) (a b m : Bool) (l s r : Float) → by_kind kind a b (m || b) ≡ false → by_kind kind (cond a l r) (cond b s r) (cond m l (cond b s r)) ≡ r
left-raw Long true b m l s r e = absurd (true≢false e)
left-raw Long false b m l s r e = refl
left-raw Start true b m l s r e = absurd (true≢false e)
left-raw Start false b m l s r e = refl
left-raw End true b m l s r e = absurd (true≢false e)
left-raw End false b m l s r e = refl
left-raw Short a true m l s r e = absurd (true≢false e)
left-raw Short a false m l s r e = refl
left-raw Mixed a b true l s r e = absurd (true≢false e)
left-raw Mixed a true false l s r e = absurd (true≢false e)
left-raw Mixed a false false l s r e = refl

module _ (t : ℕ) (s : SideInfo) (xs : List ℤ) (i : ℕ) (h : i < 576) where
  is_at : at (requantized t s xs) i ≡ requantized_at t s xs i
  unfolding requantized
  is_at = get_d_tab 576 (requantized_at t s xs) i nan h

  -- the gain is a byte, and no check fails
  module _ (byte : s.global_gain < 256) (e : first (requantize_checks t s xs) ≡ 0) where
    ok : Accepted t s xs
    ok = accepted t s xs e

    scaled : (q q' : ℤ) → InGain q → q ≡ q' → Scaled (number_at xs i) q' (product (number_at xs i) (gain q))
    scaled q q' iq eq = rw (← eq) (record {
      p = power (nat_abs (number_at xs i));
      g = gain q;
      is_power = power_nearest (nat_abs (number_at xs i)) (ok.numbers i h);
      is_gain = gain_nearest q iq;
      is = refl;
    })

    long_in_gain : (k : ℕ) → InGain (long_quarters s k)
    long_in_gain k =
        let less = long-less s ok.factors refl k refl in
        in_gain s.global_gain (210 + multiplier s * (get_or s.scalefac_l k 0 + pre s k)) (omega arith) (omega arith) (omega arith)

    short_in_gain : (k win : ℕ) → InGain (short_quarters s k win)
    short_in_gain k win =
        let less = short-less s ok.factors refl (3 * k + win) in
        let sub = subblock s ok.gains win in
        let all = 210 + 8 * get_or s.subblock_gain win 0 + multiplier s * get_or s.scalefac_s (3 * k + win) 0 in
        in_gain s.global_gain all (omega arith) (omega arith) (omega arith)

    -- a position that is reached holds the standard's number
    pub standard : reached t s i ≡ true → Scaled (number_at xs i) (standard_at t s i) (at (requantized t s xs) i)
    standard r =
        let k = band_at (long_starts t) i in
        let b = short_band (short_starts t) i in
        let w = short_window (short_starts t) i in
        let long = scaled (long_quarters s k) (standard_long s k) (long_in_gain k) (long_exponent s k) in
        let short = scaled (short_quarters s b w) (standard_short s b w) (short_in_gain b w) (short_exponent s b w) in
        rw is_at (chosen s.block_type _ _ (ltb i 36) (raw_at xs i) r long short)

  -- and one that is not holds the raw number
  pub not-reached : reached t s i ≡ false → at (requantized t s xs) i ≡ raw_at xs i
  not-reached r = is_at ∙ left-raw s.block_type _ _ (ltb i 36) (long_at t s xs i) (short_at t s xs i) (raw_at xs i) r
