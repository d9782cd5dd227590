-- The laws of a table that holds the powers of a channel's numbers: how the code finds a place in it, what it says of a part of the numbers, and the tables that are lent. Assumes nothing.
use mathlib.Core.Path.{◌≡◌, refl, sym, ap, subst, ◌∙◌}
use mathlib.Core.Bool.{Bool, true, false, not, cond}
use mathlib.Core.List.{List}
use Prim.Native.Nat.{ℕ, suc, ◌+◌, ◌-◌, ◌%◌, ◌<◌, ◌≤◌}
use native.Mathlib.Nat.{add-zero, add_comm}
use native.Mathlib.Omega.{arith}
use lib.Dec.{T, leb, ltb}
use lib.IntN.{ℤ, pos, negsuc, nat_abs}
use lib.ListN.{length, get_or}
use lib.Ieee.{Float, binary32, mul, of_bits, nan_bits}
use lib.Ieee.Bits.{nan_bits_above}
use mir.Syntax.{w16}
use mir.Val.{SFits, to_z, of_z}
use mir.ValLaws.{to_z-of_z}
use borrow.Author.Tests.{le-ltb, leb-true, ltb-true}
use Rattle.laws.proofs.Bits.{neg_bits}
use Rattle.laws.proofs.Checks.{all-each}
use Rattle.laws.specs.Lists.{tab}
use Rattle.laws.proofs.Lists.{length-tab, tab-place}
use Rattle.laws.proofs.Negation.{mul-neg-left}
use Rattle.laws.proofs.Parts.{part, part_length, part_at}
use Rattle.nearest.proofs.Test.{no_nan}
use Rattle.power_table.specs.Power.{power, PowerTable, LowTable, SignedTable}
use Rattle.powers.specs.Powers.{signed, product}
use Rattle.powers.proofs.Floor.{sub_ge}
use Rattle.side_info.specs.Side.{numbers_small}
use Rattle.requantize.specs.Requantize.{number_at}
use Rattle.requantize.specs.Lookup.{Held, Holds}
use Rattle.requantize.specs.Parts.{sizes, low_size, low_sizes}

-- ---- one number

-- the sign goes through the product
mul-signed : (x : ℤ) (p g : Float) → mul binary32 (signed x p) g ≡ signed x (mul binary32 p g)
mul-signed (pos n) p g = refl
mul-signed (negsuc n) p g = mul-neg-left binary32 p g

-- the value of x, as the machine hands x on, times the gain
pub value_product : (x : ℤ) → SFits w16 x → {v : Float} (g : Float)
    → v ≡ signed (to_z w16 (of_z w16 x)) (power (nat_abs (to_z w16 (of_z w16 x)))) → mul binary32 v g ≡ product x g
value_product x f g e =
    ap (λ (p : Float). mul binary32 p g) (e ∙ ap (λ (z : ℤ). signed z (power (nat_abs z))) (to_z-of_z w16 x f)) ∙ mul-signed x _ g

-- ---- a part of the numbers

pub holds-part : {t : List ℕ} {zero : ℤ} {xs : List ℤ} (a e : ℕ) → e ≤ length xs → Holds t zero xs → Holds t zero (part a e xs)
holds-part {t} {zero} {xs} a e le h = record {
  short = h.short;
  each = λ i l.
      let long = part_length a e xs le in
      rw (part_at a e xs i (pos 0) (omega arith)) (h.each (a + i) (omega arith));
}

-- ---- the large table and its first part, for sizes

-- sizes below the table's length
module _ {t : List ℕ} (n : ℕ) (long : length t ≡ n) (short : n ≤ 8207) (entry : (k : ℕ) → k < n → of_bits binary32 (get_or t k 0) ≡ power k)
    (number : (k : ℕ) → k < n → get_or t k 0 < 0x7f80_0000) where
  held : (k : ℕ) → k < n → Held t (pos 0) (pos k)
  held k h = record { place = k; stands = ap pos (add-zero k); inside = omega arith; number = no_nan (get_or t k 0) (number k h); value = entry k h }

  sizes_hold : (f : ℕ → ℕ) {ys : List ℤ} → ((i : ℕ) → i < 576 → f i < n) → ys ≡ tab 576 (λ i. pos (f i)) → Holds t (pos 0) ys
  sizes_hold f {ys} small e = record {
    short = omega arith;
    each = λ i l.
        let h : i < 576 = subst (λ (m : ℕ). i < m) (ap length e ∙ length-tab 576 (λ i. pos (f i))) l in
        subst (Held t (pos 0)) (sym (tab-place 576 (λ i. pos (f i)) i (pos 0) e h)) (held (f i) (small i h));
  }

pub large_holds : {t : List ℕ} (xs : List ℤ) {ys : List ℤ} → PowerTable t → ((i : ℕ) → i < 576 → nat_abs (number_at xs i) < 8207) → ys ≡ sizes xs → Holds t (pos 0) ys
large_holds xs p = sizes_hold 8207 p.long (omega arith) p.entry p.number (λ i. nat_abs (number_at xs i))

pub low-holds : {t : List ℕ} (xs : List ℤ) {ys : List ℤ} → LowTable t → ys ≡ low_sizes xs → Holds t (pos 0) ys
low-holds xs p = sizes_hold 4104 p.long (omega arith) p.entry p.number (λ i. low_size (number_at xs i)) (λ i h. low_small (nat_abs (number_at xs i)))
  where
    low_small : (n : ℕ) → cond (ltb n 4104) n 1 < 4104
    low_small n = go (ltb n 4104) refl
      where
        go : (b : Bool) → ltb n 4104 ≡ b → cond b n 1 < 4104
        go true e = ltb-true n 4104 e
        go false e = omega arith

-- ---- the small one, for numbers with their signs

-- a finite pattern with the sign's bit is no NaN's either
no_nan_below : (b : ℕ) → b < 0x7f80_0000 → T (not (nan_bits binary32 (0x8000_0000 + b)))
no_nan_below b h = subst (λ (t : Bool). T (not t)) (sym (nan_bits_above binary32 (0x8000_0000 + b) ∙ le-ltb 0x7f80_0000 ((0x8000_0000 + b) % 0x8000_0000) (omega arith))) tt

module _ {t : List ℕ} (p : SignedTable t) where
  small_held : (x : ℤ) → nat_abs x < 256 → Held t (pos 255) x
  small_held (pos n) h = record {
    place = 255 + n;
    stands = ap pos (add_comm n 255);
    inside = omega (arith, p.long);
    number = no_nan (get_or t (255 + n) 0) (p.number n h);
    value = p.entry n h;
  }
  small_held (negsuc n) h = record {
    place = 255 - suc n;
    stands = sub_ge 255 (suc n) (omega arith);
    inside = omega (arith, p.long);
    number = rw (p.opposite (suc n) (omega arith) h) (no_nan_below (get_or t (255 + suc n) 0) (p.number (suc n) h));
    value = rw (p.opposite (suc n) (omega arith) h, add_comm 0x8000_0000 (get_or t (255 + suc n) 0), ← neg_bits (get_or t (255 + suc n) 0) (omega (arith, p.number (suc n) h)), p.entry (suc n) h);
  }

  pub small-holds : (xs : List ℤ) → length xs ≡ 576 → numbers_small xs ≡ true → Holds t (pos 255) xs
  small-holds xs long e = record {
    short = omega (arith, p.long);
    each = λ i l.
        let few = leb-true (nat_abs (number_at xs i)) 255 (all-each 576 (λ i. leb (nat_abs (number_at xs i)) 255) e i (omega arith)) in
        small_held (number_at xs i) (omega arith);
  }
