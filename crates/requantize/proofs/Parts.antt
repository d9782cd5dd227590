-- Requantize by the two parts of the table: what each step leaves, at the positions that are reached, becomes the floats of the sizes, and with the signs and the numbers that are not
-- reached it is that of the numbers. Assumes nothing.
use mathlib.Core.Path.{◌≡◌, refl, sym, ap, ◌∙◌}
use mathlib.Core.Bool.{Bool, true, false, true≢false, cond, ◌||◌}
use mathlib.Core.List.{List}
use Prim.Native.Nat.{ℕ, ◌-◌, ◌<◌}
use native.Mathlib.Omega.{arith}
use lib.Dec.{T, leb, ltb}
use lib.IntN.{ℤ, pos, nat_abs}
use lib.ListN.{get_or}
use lib.Ieee.{Float, nan, binary32, mul, fits, of_bits}
use lib.Ieee.Bits.{of_bits-fits}
use lib.Ieee.Fits.{mul-fits}
use borrow.Author.Tests.{lt-ltb, leb-true, ltb-true, ltb-false, le-leb}
use Rattle.laws.specs.Checks.{first}
use Rattle.laws.specs.Lists.{at, tab}
use Rattle.laws.proofs.Checks.{all-each}
use Rattle.laws.proofs.Lists.{tab-place, tab-same}
use Rattle.laws.proofs.One.{one, one-times}
use Rattle.nearest.specs.Nearest.{units, pattern_from, nearest_root}
use Rattle.power_table.specs.Power.{power, HighTable}
use Rattle.powers.specs.Powers.{gain, signed}
use Rattle.side_info.specs.declared.SideInfo.{SideInfo}
use Rattle.side_info.specs.declared.BlockType.{BlockType}
use Rattle.side_info.specs.declared.BlockType.TheVariants.{Long, Short, Mixed, Start, End}
use Rattle.side_info.specs.Kinds.{by_kind}
use Rattle.side_info.specs.Side.{numbers_low}
use Rattle.bands.specs.Bands.{long_starts, short_starts, band_at, short_band, short_begin, short_window}
use Rattle.requantize.specs.Requantize.{number_at, raw_at, long_quarters, short_quarters, requantized_at, requantized, requantize_checks}
use Rattle.requantize.specs.Standard.{reached}
use Rattle.requantize.specs.Parts.{size_at, low_size, low_sizes, factor, multiplied, Sized}
use Rattle.requantize.proofs.Sizes.{pass_too, signed-at}
use Rattle.requantize.proofs.Standard.{left-raw}

-- ---- one number

power-one : power 1 ≡ one
unfolding power nearest_root of_bits pattern_from units
power-one = refl

gain-fits : (q : ℤ) → T (fits binary32 (gain q))
unfolding gain nearest_root
gain-fits q = of_bits-fits binary32 _

one_power : (x : Float) → T (fits binary32 x) → mul binary32 (power 1) x ≡ x
one_power x h = ap (λ (p : Float). mul binary32 p x) power-one ∙ one-times x h

-- by the two parts: a power times a gain, or one times a gain and then times the power
by_parts : (n : ℕ) (q : ℤ) (b : Bool) → mul binary32 (cond b (power 1) (power n)) (mul binary32 (power (cond b n 1)) (gain q)) ≡ mul binary32 (power n) (gain q)
by_parts n q true = one_power (mul binary32 (power n) (gain q)) (mul-fits binary32 (power n) (gain q))
by_parts n q false = ap (mul binary32 (power n)) (one_power (gain q) (gain-fits q))

-- ---- the positions that are reached

-- a change goes through the choice by the block type, where the position is reached
into_reached : (f : Float → Float) (kind : BlockType) (a b m : Bool) (l s r u : Float) {v w : Float} → by_kind kind a b (m || b) ≡ true → f l ≡ v → f s ≡ w
    → f (by_kind kind (cond a l r) (cond b s r) (cond m l (cond b s r))) ≡ by_kind kind (cond a v u) (cond b w u) (cond m v (cond b w u))
into_reached f Long true b m l s r u h e g = e
into_reached f Long false b m l s r u h e g = absurd (true≢false (sym h))
into_reached f Start true b m l s r u h e g = e
into_reached f Start false b m l s r u h e g = absurd (true≢false (sym h))
into_reached f End true b m l s r u h e g = e
into_reached f End false b m l s r u h e g = absurd (true≢false (sym h))
into_reached f Short a true m l s r u h e g = g
into_reached f Short a false m l s r u h e g = absurd (true≢false (sym h))
into_reached f Mixed a b true l s r u h e g = e
into_reached f Mixed a true false l s r u h e g = g
into_reached f Mixed a false false l s r u h e g = absurd (true≢false (sym h))

-- ---- the first part

-- what stands in for the sizes is accepted where the numbers are
pub low_pass : (t : ℕ) (s : SideInfo) (xs : List ℤ) {ys : List ℤ} → ys ≡ low_sizes xs → first (requantize_checks t s xs) ≡ 0 → first (requantize_checks t s ys) ≡ 0
low_pass t s xs {ys} e = pass_too t s xs ys (λ i h. rw (tab-place 576 (λ i. pos (low_size (number_at xs i))) i (pos 0) e h) (low (nat_abs (number_at xs i))))
  where
    low : (n : ℕ) → leb (cond (ltb n 4104) n 1) 8206 ≡ true
    low n = go (ltb n 4104) refl
      where
        go : (b : Bool) → ltb n 4104 ≡ b → leb (cond b n 1) 8206 ≡ true
        go true e = le-leb n 8206 (omega (arith, ltb-true n 4104 e))
        go false e = refl

module _ (t : ℕ) (s : SideInfo) (xs : List ℤ) {fs : List Float} (e : fs ≡ requantized t s (low_sizes xs)) where
  low-at : (i : ℕ) → i < 576 → at fs i ≡ requantized_at t s (low_sizes xs) i
  unfolding requantized
  low-at i h = tab-place 576 (requantized_at t s (low_sizes xs)) i nan e h

  -- it is enough where it has all sizes
  pub low_enough : numbers_low xs ≡ true → Sized t s xs fs
  low_enough l i h r =
      let same = tab-same 576 (λ i. pos (low_size (number_at xs i))) (size_at xs)
      (λ i h. ap (λ (b : Bool). pos (cond b (nat_abs (number_at xs i)) 1)) (few (nat_abs (number_at xs i)) (all-each 576 (λ i. leb (nat_abs (number_at xs i)) 4103) l i h))) in
      low-at i h ∙ ap (λ (ys : List ℤ). requantized_at t s ys i) same
    where
      few : (n : ℕ) → leb n 4103 ≡ true → ltb n 4104 ≡ true
      few n e = lt-ltb n 4104 (omega (arith, leb-true n 4103 e))

  -- the second makes up for the others
  pub high_enough : {gs : List Float} → gs ≡ multiplied xs fs → Sized t s xs gs
  high_enough {gs} eg i h r =
      let x = number_at xs i in
      let small = ltb (nat_abs x) 4104 in
      let short = ltb (short_begin (short_starts t) (short_band (short_starts t) i)) s.count1 in
      tab-place 576 (λ i. mul binary32 (factor (number_at xs i)) (at fs i)) i nan eg h
      ∙ ap (mul binary32 (factor x)) (low-at i h)
      ∙ rw (tab-place 576 (λ i. pos (low_size (number_at xs i))) i (pos 0) refl h, tab-place 576 (size_at xs) i (pos 0) refl h)
      (into_reached (mul binary32 (factor x)) s.block_type (ltb i s.count1) short (ltb i 36) _ _ _ _ r
      (by_parts (nat_abs x) (long_quarters s (band_at (long_starts t) i)) small)
      (by_parts (nat_abs x) (short_quarters s (short_band (short_starts t) i) (short_window (short_starts t) i)) small))

-- ---- the second part

-- where the code looks for a number's factor
module _ {t : List ℕ} (p : HighTable t) (xs : List ℤ) (small : (i : ℕ) → i < 576 → nat_abs (number_at xs i) < 8207) {ys : List ℤ} (e : ys ≡ tab 576 (λ i. pos (nat_abs (number_at xs i) - 4103))) where
  pub place_at : (i : ℕ) → i < 576 → number_at ys i ≡ pos (nat_abs (number_at xs i) - 4103)
  place_at i h = tab-place 576 (λ i. pos (nat_abs (number_at xs i) - 4103)) i (pos 0) e h

  pub place_in : (i : ℕ) → i < 576 → (nat_abs (number_at ys i) < 4104) × (number_at ys i ≡ pos (nat_abs (number_at ys i)))
  place_in i h = rw (place_at i h) (omega (arith, small i h), refl)

  found : (n : ℕ) → n < 8207 → of_bits binary32 (get_or t (n - 4103) 0) ≡ cond (ltb n 4104) (power 1) (power n)
  found n h = go (ltb n 4104) refl
    where
      go : (b : Bool) → ltb n 4104 ≡ b → of_bits binary32 (get_or t (n - 4103) 0) ≡ cond b (power 1) (power n)
      go true e = let l = ltb-true n 4104 e in let none : n - 4103 ≡ 0 = omega (arith, l) in rw none p.one
      go false e = p.entry n (omega (arith, ltb-false n 4104 e)) h

  pub factors : (fs : List Float) {gs : List Float} → gs ≡ tab 576 (λ i. mul binary32 (of_bits binary32 (get_or t (nat_abs (number_at ys i)) 0)) (at fs i))
      → gs ≡ multiplied xs fs
  factors fs eg =
      eg
      ∙ tab-same 576 (λ i. mul binary32 (of_bits binary32 (get_or t (nat_abs (number_at ys i)) 0)) (at fs i)) (λ i. mul binary32 (factor (number_at xs i)) (at fs i))
      (λ i h. rw (place_at i h) (ap (λ (p : Float). mul binary32 p (at fs i)) (found (nat_abs (number_at xs i)) (small i h))))

-- ---- the signs, and the numbers that are not reached

pub sized-signed : (t : ℕ) (s : SideInfo) (xs : List ℤ) (n : ℕ) (fs : List Float) {gs hs : List Float} → Sized t s xs fs → ((i : ℕ) → i < 576 → ltb i n ≡ reached t s i)
    → gs ≡ tab 576 (λ i. signed (number_at xs i) (at fs i)) → hs ≡ tab 576 (λ i. cond (ltb i n) (at gs i) (raw_at xs i)) → hs ≡ requantized t s xs
unfolding requantized
sized-signed t s xs n fs {gs} z e eg eh =
    eh ∙ tab-same 576 (λ i. cond (ltb i n) (at gs i) (raw_at xs i)) (requantized_at t s xs) (λ i h. rw (e i h) (split i h (reached t s i) refl))
  where
    split : (i : ℕ) → i < 576 → (b : Bool) → reached t s i ≡ b → cond b (at gs i) (raw_at xs i) ≡ requantized_at t s xs i
    split i h true r =
        tab-place 576 (λ i. signed (number_at xs i) (at fs i)) i nan eg h ∙ ap (signed (number_at xs i)) (z i h r) ∙ signed-at t s xs refl i h
    split i h false r =
        sym (left-raw s.block_type (ltb i s.count1) (ltb (short_begin (short_starts t) (short_band (short_starts t) i)) s.count1) (ltb i 36) _ _ (raw_at xs i) r)
