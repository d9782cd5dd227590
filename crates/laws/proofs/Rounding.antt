-- What does not round to a zero, and what is its own rounding. Assumes nothing.
use mathlib.Core.Path.{◌≡◌, refl, sym, ap, subst, ◌∙◌}
use mathlib.Core.Bool.{Bool, true, false, cond, ◌&&◌}
use Prim.Native.Nat.{ℕ, zero, suc, ◌+◌, ◌-◌, ◌*◌, ◌/◌, ◌%◌, ◌^◌, ◌<◌, ◌≤◌, compare}
use native.Mathlib.Nat.{lt_irrefl, lt_of_not-le, le_trans, le_of_eq, lt_of_lt_of_le, zero-lt-suc, mul_left_comm, mul-le-mul_left, le-div_iff_mul-le, div-mul-le_self}
use native.Mathlib.Nat.{zero-mul, mul-one, one-mul, mul_comm, mul_assoc, mul-pos, pow-suc, pow-succ', eq_of_mul-eq-mul_right}
use native.Mathlib.Omega.{arith}
use lib.Dec.{T, eqb, ltb, leb, lit<, eqb→eq, ltb→lt, leb→le, le→leb}
use lib.IntN.{ℤ, pos, negsuc}
use lib.Pow.{pow_pos, pow-add, pow-lt, pow_mono, shl_lt}
use lib.Ieee.Digits.{back, size-lt, size_reaches}
use lib.Ieee.Exact.{HasValue, odd_sign, round_exact}
use lib.Ieee.Fits.{round_is, round-fits, down_pos, up_pos, and_l, and_r}
use lib.Ieee.Nearest.{nearest-ge}
use lib.Ieee.{Float, nan, inf, fin, binary32, prec, emax, low, up, down, size, nearest, odd, units, round, fits}

-- ---- what does not round to a zero

-- an infinite number, or a finite one that is no zero
pub data Big : Float → Type 0 where
  far : (s : Bool) → Big (inf s)
  some : (s : Bool) (m : ℕ) (e : ℤ) → Big (fin s (suc m) e)

value_big : (x : Float) (s : Bool) (a c : ℕ) → HasValue x s a c → 0 < a → Big x
value_big nan s a c v h = absurd v
value_big (inf t) s a c v h = absurd v
value_big (fin t zero e) s a c v h =
    absurd (lt_irrefl 0 (subst (λ (x : ℕ). 0 < x) (sym v.1 ∙ ap (λ (y : ℕ). y * c) (zero-mul (up e)) ∙ zero-mul c) (mul-pos h (down_pos e))))
value_big (fin t (suc m) e) s a c v h = some t m e

units_big : (s : Bool) (q k : ℕ) → 0 < q → Big (units binary32 s q k)
unfolding units
units_big s q k h = go (ltb (q * 2 ^ k) (2 ^ (low binary32 + suc (emax binary32))))
  where
    go : (b : Bool) → Big (cond b (odd (suc (prec binary32)) s q k (low binary32)) (inf s))
    go true = value_big (odd (suc (prec binary32)) s q k (low binary32)) s (q * 2 ^ k) (2 ^ low binary32) (odd_sign (suc (prec binary32)) s q k (low binary32)) (mul-pos h (pow_pos k))
    go false = far s

size_pos : (w : ℕ) → 1 ≤ w → 0 < size w
size_pos w h = go (size w) (size-lt w)
  where
    go : (z : ℕ) → w < 2 ^ z → 0 < z
    go zero l = absurd (lt_irrefl w (lt_of_lt_of_le l h))
    go (suc z) l = zero-lt-suc z

less : (z p : ℕ) → 0 < z → 0 < p → z - p < z
less z p h k = omega arith

-- a fraction of at least the smallest value
pub round_big : (s : Bool) (num den : ℕ) → 0 < den → den ≤ num * 2 ^ low binary32 → Big (round binary32 s num den)
round_big s num den D h =
    let n = num * 2 ^ low binary32 in
    let w = n / den in
    let one : 1 ≤ w = (le-div_iff_mul-le D).1 (le_trans (le_of_eq (one-mul den)) h) in
    let k = size w - prec binary32 in
    let u = den * 2 ^ k in
    let p : 2 ^ k ≤ w = size_reaches w k (less (size w) (prec binary32) (size_pos w one) (lit< tt)) in
    let q : u ≤ n = le_trans (mul-le-mul_left den p) (le_trans (le_of_eq (mul_comm den w)) (div-mul-le_self n den)) in
    let r : 1 ≤ n / u = (le-div_iff_mul-le (mul-pos D (pow_pos k))).1 (le_trans (le_of_eq (one-mul u)) q) in
    subst Big (sym (round_is binary32 s num den)) (units_big s (nearest (n / u) (compare (n % u * 2) u)) k (le_trans r (nearest-ge (n / u) (compare (n % u * 2) u))))

-- ---- a number that fits is its own rounding

even_odd : (m t : ℕ) → m % 2 ≡ 1 → m ≡ 2 * t → ⊥
even_odd m t o h = omega arith

odd_pow : (m n a b : ℕ) → m % 2 ≡ 1 → n % 2 ≡ 1 → m * 2 ^ a ≡ n * 2 ^ b → (m ≡ n) × (a ≡ b)
odd_pow m n zero zero o p h = (sym (mul-one m) ∙ h ∙ mul-one n, refl)
odd_pow m n zero (suc b) o p h = absurd (even_odd m (n * 2 ^ b) o (sym (mul-one m) ∙ h ∙ ap (λ (x : ℕ). n * x) (pow-succ' 2 b) ∙ mul_left_comm n 2 (2 ^ b)))
odd_pow m n (suc a) zero o p h = absurd (even_odd n (m * 2 ^ a) p (sym (mul-one n) ∙ sym h ∙ ap (λ (x : ℕ). m * x) (pow-succ' 2 a) ∙ mul_left_comm m 2 (2 ^ a)))
odd_pow m n (suc a) (suc b) o p h =
    let r = odd_pow m n a b o p (eq_of_mul-eq-mul_right 2 (zero-lt-suc 1) (m * 2 ^ a) (n * 2 ^ b)
    (mul_assoc m (2 ^ a) 2 ∙ ap (λ (x : ℕ). m * x) (sym (pow-suc 2 a)) ∙ h ∙ ap (λ (x : ℕ). n * x) (pow-suc 2 b) ∙ sym (mul_assoc n (2 ^ b) 2))) in
    (r.0, ap suc r.1)

-- what `fits` says of a number that is no zero
pub record Fitting (m : ℕ) (e : ℤ) : Type 0 where
  pub is_odd : suc m % 2 ≡ 1
  pub short : suc m < 2 ^ prec binary32
  pub deep : down e ≤ 2 ^ low binary32
  pub small : suc m * up e < 2 ^ suc (emax binary32) * down e

pub fitting : (s : Bool) (m : ℕ) (e : ℤ) → T (fits binary32 (fin s (suc m) e)) → Fitting m e
unfolding fits
fitting s m e t =
    let a = eqb (suc m % 2) 1 in
    let b = ltb (suc m) (2 ^ prec binary32) in
    let c = leb (down e) (2 ^ low binary32) in
    let d = ltb (suc m * up e) (2 ^ suc (emax binary32) * down e) in
    let abc : T (a && b && c) = and_l (a && b && c) d t in
    let ab : T (a && b) = and_l (a && b) c abc in
    record {
      is_odd = eqb→eq (suc m % 2) 1 (and_l a b ab);
      short = ltb→lt (suc m) (2 ^ prec binary32) (and_r a b ab);
      deep = leb→le (down e) (2 ^ low binary32) (and_r (a && b) c abc);
      small = ltb→lt (suc m * up e) (2 ^ suc (emax binary32) * down e) (and_r (a && b && c) d t);
    }

-- equal values of odd numbers are written the same
same-written : (m n : ℕ) (e g : ℤ) → suc m % 2 ≡ 1 → suc n % 2 ≡ 1 → suc n * up g * down e ≡ suc m * up e * down g → (suc n ≡ suc m) × (g ≡ e)
same-written m n (pos b) (pos a) o p h =
    let r = odd_pow (suc n) (suc m) a b p o (sym (mul-one (suc n * 2 ^ a)) ∙ h ∙ mul-one (suc m * 2 ^ b)) in
    (r.0, ap pos r.1)
same-written m n (negsuc b) (pos a) o p h =
    let r = odd_pow (suc n) (suc m) (a + suc b) 0 p o
    (ap (λ (x : ℕ). suc n * x) (pow-add 2 a (suc b)) ∙ sym (mul_assoc (suc n) (2 ^ a) (2 ^ suc b)) ∙ h ∙ mul-one (suc m * 1)) in
    absurd (never a b r.1)
  where
    never : (a b : ℕ) → a + suc b ≡ 0 → ⊥
    never a b e = omega arith
same-written m n (pos b) (negsuc a) o p h =
    let r = odd_pow (suc n) (suc m) 0 (b + suc a) p o
    (sym (mul-one (suc n * 1)) ∙ h ∙ mul_assoc (suc m) (2 ^ b) (2 ^ suc a) ∙ ap (λ (x : ℕ). suc m * x) (sym (pow-add 2 b (suc a)))) in
    absurd (never b a (sym r.1))
  where
    never : (a b : ℕ) → a + suc b ≡ 0 → ⊥
    never a b e = omega arith
same-written m n (negsuc b) (negsuc a) o p h =
    let r = odd_pow (suc n) (suc m) (suc b) (suc a) p o
    (ap (λ (x : ℕ). x * 2 ^ suc b) (sym (mul-one (suc n))) ∙ h ∙ ap (λ (x : ℕ). x * 2 ^ suc a) (mul-one (suc m))) in
    (r.0, ap negsuc (same r.1))
  where
    same : {a b : ℕ} → suc b ≡ suc a → a ≡ b
    same e = omega arith

unique : (x : Float) (t : Bool) (m : ℕ) (e : ℤ) → T (fits binary32 x) → suc m % 2 ≡ 1 → HasValue x t (suc m * up e) (down e) → x ≡ fin t (suc m) e
unique nan t m e p o v = absurd v
unique (inf u) t m e p o v = absurd v
unique (fin u zero g) t m e p o v =
    absurd (lt_irrefl 0 (subst (λ (x : ℕ). 0 < x) (sym v.1 ∙ ap (λ (y : ℕ). y * down e) (zero-mul (up g)) ∙ zero-mul (down e)) (mul-pos (mul-pos (zero-lt-suc m) (up_pos e)) (down_pos g))))
unique (fin u (suc n) g) t m e p o v =
    let r = same-written m n e g o (fitting u n g p).is_odd v.1 in
    λ i. fin (v.0 i) (r.0 i) (r.1 i)

pub exponent_le : (a b : ℕ) → 2 ^ a ≤ 2 ^ b → a ≤ b
exponent_le a b h = go (leb a b) (leb→le a b) (λ n. lt_irrefl (2 ^ b) (lt_of_lt_of_le (pow-lt (lt_of_not-le n)) h)) (le→leb a b)
  where
    go : (c : Bool) → (T c → a ≤ b) → ((a ≤ b → ⊥) → ⊥) → (a ≤ b → T c) → a ≤ b
    go true f g k = f tt
    go false f g k = absurd (g k)

under : (k : ℕ) → 24 + (149 - suc k) ≤ 149 + 128
under k = omega arith

own_value : (s : Bool) (m : ℕ) (e : ℤ) → Fitting m e → HasValue (round binary32 s (suc m * up e) (down e)) s (suc m * up e) (down e)
own_value s m (pos k) F =
    round_exact binary32 s (suc m * 2 ^ k) 1 (suc m) (k + 149) (down_pos (pos k)) F.short
    (subst (λ (x : ℕ). x < 2 ^ (149 + 128)) (mul_assoc (suc m) (2 ^ k) (2 ^ 149) ∙ ap (λ (x : ℕ). suc m * x) (sym (pow-add 2 k 149)))
    (shl_lt 128 149 (lt_of_lt_of_le F.small (le_of_eq (mul-one (2 ^ 128))))))
    (mul_assoc (suc m) (2 ^ k) (2 ^ 149) ∙ ap (λ (x : ℕ). suc m * x) (sym (pow-add 2 k 149)) ∙ sym (mul-one (suc m * 2 ^ (k + 149))))
own_value s m (negsuc k) F =
    let l : suc k ≤ 149 = exponent_le (suc k) 149 F.deep in
    round_exact binary32 s (suc m * 1) (2 ^ suc k) (suc m) (149 - suc k) (down_pos (negsuc k)) F.short
    (lt_of_lt_of_le (shl_lt 24 (149 - suc k) F.short) (pow_mono (under k)))
    (ap (λ (x : ℕ). x * 2 ^ 149) (mul-one (suc m))
    ∙ ap (λ (x : ℕ). suc m * 2 ^ x) (sym (back 149 (suc k) l))
    ∙ ap (λ (x : ℕ). suc m * x) (pow-add 2 (149 - suc k) (suc k))
    ∙ sym (mul_assoc (suc m) (2 ^ (149 - suc k)) (2 ^ suc k)))

pub rounds_to : (s : Bool) (m : ℕ) (e : ℤ) → T (fits binary32 (fin s (suc m) e)) → round binary32 s (suc m * up e) (down e) ≡ fin s (suc m) e
rounds_to s m e p =
    let F = fitting s m e p in
    unique (round binary32 s (suc m * up e) (down e)) s m e (round-fits binary32 s (suc m * up e) (down e)) F.is_odd (own_value s m e F)
