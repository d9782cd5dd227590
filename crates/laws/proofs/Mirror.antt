-- Mirrored sums: a sum with each term negated is +0.0 minus the sum, for every float, infinite and NaN too. Assumes nothing.
use mathlib.Core.Path.{◌≡◌, refl, sym, ap, subst, ◌∙◌}
use mathlib.Core.Bool.{Bool, true, false, not, cond, ◌&&◌}
use Prim.Native.Nat.{ℕ, zero, suc, ◌+◌, ◌-◌, ◌*◌, ◌^◌, ◌<◌, ◌≤◌}
use native.Mathlib.Nat.{lt_irrefl, lt_of_not-le, le_trans, le_of_eq, lt_of_lt_of_le, zero-lt-suc, mul-le-mul_right, mul-lt-mul_of_pos_right, lt_of_le_of_lt, le-add_right}
use native.Mathlib.Nat.{add-zero, zero-add, sub-zero, zero-mul, mul-one, one-mul, mul_comm, mul_assoc, mul_right_comm, mul-pos, pow-succ', add-mul, mul-sub}
use native.Mathlib.Omega.{arith}
use lib.Dec.{T, ltb, lit<, eqb→eq, ltb→lt, lt→ltb}
use lib.IntN.{ℤ, pos, negsuc}
use lib.Pow.{pow_pos, pow-add}
use lib.Ieee.Digits.{back}
use Rattle.laws.specs.Sum.{zero_f, sum_to}
use Rattle.laws.proofs.Sum.{sum_same}
use Rattle.laws.proofs.Zeros.{zero-round}
use borrow.Author.Tests.{ltb-true, ltb-false}
use lib.Ieee.Fits.{round-fits, neg-fits, mul-fits, down_pos, up_pos}
use lib.Ieee.{Float, nan, inf, fin, binary32, up, down, round, neg, add, sub, mul, fits, sum, of_bits}
use Rattle.laws.proofs.Negation.{round-neg, mul-neg-right}
use Rattle.laws.proofs.Rounding.{Big, far, some, Fitting, fitting, round_big, rounds_to, exponent_le}

-- ---- sums of two numbers of which one is a zero

none_below : (a : ℕ) → a < 0 → ⊥
none_below a l = omega arith

sum-right : (s t : Bool) (a c : ℕ) → 0 < a → sum binary32 s a t 0 c ≡ round binary32 s a c
unfolding sum
sum-right true true a c h = ap (λ (x : ℕ). round binary32 true x c) (add-zero a)
sum-right false false a c h = ap (λ (x : ℕ). round binary32 false x c) (add-zero a)
sum-right true false a c h = go (ltb a 0) (ltb 0 a) (λ l. none_below a (ltb→lt a 0 l)) (lt→ltb 0 a h)
  where
    go : (p q : Bool) → (T p → ⊥) → T q → cond p (round binary32 false (0 - a) c) (round binary32 (true && q) (a - 0) c) ≡ round binary32 true a c
    go true q n y = absurd (n tt)
    go false true n y = ap (λ (x : ℕ). round binary32 true x c) (sub-zero a)
    go false false n y = absurd y
sum-right false true a c h = go (ltb a 0) (λ l. none_below a (ltb→lt a 0 l))
  where
    go : (p : Bool) → (T p → ⊥) → cond p (round binary32 true (0 - a) c) (round binary32 (false && ltb 0 a) (a - 0) c) ≡ round binary32 false a c
    go true n = absurd (n tt)
    go false n = ap (λ (x : ℕ). round binary32 false x c) (sub-zero a)

sum_left : (t : Bool) (b c : ℕ) → 0 < b → sum binary32 false 0 t b c ≡ round binary32 t b c
unfolding sum
sum_left false b c h = ap (λ (x : ℕ). round binary32 false x c) (zero-add b)
sum_left true b c h = go (ltb 0 b) (lt→ltb 0 b h)
  where
    go : (p : Bool) → T p → cond p (round binary32 true (b - 0) c) (round binary32 (false && ltb b 0) (0 - b) c) ≡ round binary32 true b c
    go true y = ap (λ (x : ℕ). round binary32 true x c) (sub-zero b)
    go false y = absurd y

-- ---- what a sum from +0.0 can be: no -0.0, and written in the one way

pub data Kept : Float → Type 0 where
  k_nan : Kept nan
  k_inf : (s : Bool) → Kept (inf s)
  k-zero : Kept (fin false 0 (pos 0))
  k_some : (s : Bool) (m : ℕ) (e : ℤ) → T (fits binary32 (fin s (suc m) e)) → Kept (fin s (suc m) e)

kept_of_big : {x : Float} → Big x → T (fits binary32 x) → Kept x
kept_of_big (far s) p = k_inf s
kept_of_big (some s m e) p = k_some s m e p

-- a zero of either sign added on the right changes nothing
pub keep_right : {x : Float} → Kept x → (t : Bool) → add binary32 x (fin t 0 (pos 0)) ≡ x
unfolding add
keep_right k_nan t = refl
keep_right (k_inf s) t = refl
keep_right k-zero true = refl
keep_right k-zero false = refl
keep_right (k_some s m e p) t =
    ap (λ (x : ℕ). sum binary32 s (suc m * up e * 1) t x (down e * 1)) (ap (λ (y : ℕ). y * down e) (zero-mul 1) ∙ zero-mul (down e))
    ∙ sum-right s t (suc m * up e * 1) (down e * 1) (mul-pos (mul-pos (zero-lt-suc m) (up_pos e)) (lit< tt))
    ∙ ap (λ (x : ℕ). round binary32 s x (down e * 1)) (mul-one (suc m * up e))
    ∙ ap (λ (x : ℕ). round binary32 s (suc m * up e) x) (mul-one (down e))
    ∙ rounds_to s m e p

-- +0.0 added on the left
keep_left : (t : Bool) (n : ℕ) (d : ℤ) → T (fits binary32 (fin t (suc n) d)) → add binary32 (fin false 0 (pos 0)) (fin t (suc n) d) ≡ fin t (suc n) d
unfolding add
keep_left t n d p =
    ap (λ (x : ℕ). sum binary32 false x t (suc n * up d * 1) (1 * down d)) (ap (λ (y : ℕ). y * down d) (zero-mul 1) ∙ zero-mul (down d))
    ∙ sum_left t (suc n * up d * 1) (1 * down d) (mul-pos (mul-pos (zero-lt-suc n) (up_pos d)) (lit< tt))
    ∙ ap (λ (x : ℕ). round binary32 t x (1 * down d)) (mul-one (suc n * up d))
    ∙ ap (λ (x : ℕ). round binary32 t (suc n * up d) x) (one-mul (down d))
    ∙ rounds_to t n d p

-- ---- a sum of two numbers that are no zeros: a whole number of smallest values, so that it rounds to a zero only where it is one

record Counted (A C : ℕ) : Type 0 where
  many : ℕ
  above : 0 < many
  is : A * 2 ^ 149 ≡ many * C

counted : (m : ℕ) (e : ℤ) → Fitting m e → Counted (suc m * up e) (down e)
counted m (pos k) F = record { many = suc m * 2 ^ k * 2 ^ 149; above = mul-pos (mul-pos (zero-lt-suc m) (pow_pos k)) (pow_pos 149); is = sym (mul-one (suc m * 2 ^ k * 2 ^ 149)) }
counted m (negsuc k) F =
    record {
      many = suc m * 2 ^ (149 - suc k);
      above = mul-pos (zero-lt-suc m) (pow_pos (149 - suc k));
      is =
          ap (λ (x : ℕ). x * 2 ^ 149) (mul-one (suc m))
          ∙ ap (λ (x : ℕ). suc m * 2 ^ x) (sym (back 149 (suc k) (exponent_le (suc k) 149 F.deep)))
          ∙ ap (λ (x : ℕ). suc m * x) (pow-add 2 (149 - suc k) (suc k))
          ∙ sym (mul_assoc (suc m) (2 ^ (149 - suc k)) (2 ^ suc k));
    }

-- over the product of both denominators, either way round
widened : (a c d : ℕ) → Counted a c → Counted (a * d) (c * d)
widened a c d w = record { many = w.many; above = w.above; is = mul_right_comm a d (2 ^ 149) ∙ ap (λ (x : ℕ). x * d) w.is ∙ mul_assoc w.many c d }

widened' : (a c d : ℕ) → Counted a c → Counted (a * d) (d * c)
widened' a c d w = subst (Counted (a * d)) (mul_comm c d) (widened a c d w)

at_least : (g C : ℕ) → 0 < g → C ≤ g * C
at_least g C h = le_trans (le_of_eq (sym (one-mul C))) (mul-le-mul_right C h)

both_counted : (A B C : ℕ) → Counted A C → Counted B C → C ≤ (A + B) * 2 ^ 149
both_counted A B C v w =
    le_trans (at_least (v.many + w.many) C (lt_of_lt_of_le v.above (le-add_right v.many w.many)))
    (le_of_eq (add-mul v.many w.many C ∙ ap (λ (x : ℕ). x + w.many * C) (sym v.is) ∙ ap (λ (x : ℕ). A * 2 ^ 149 + x) (sym w.is) ∙ sym (add-mul A B (2 ^ 149))))

sub-mul : (a b c : ℕ) → (a - b) * c ≡ a * c - b * c
sub-mul a b c = mul_comm (a - b) c ∙ mul-sub c a b ∙ ap (λ (x : ℕ). x - c * b) (mul_comm c a) ∙ ap (λ (x : ℕ). a * c - x) (mul_comm c b)

apart-counted : (A B C : ℕ) → 0 < C → Counted A C → Counted B C → A < B → C ≤ (B - A) * 2 ^ 149
apart-counted A B C c v w l =
    let p : v.many * C < w.many * C = lt_of_le_of_lt (le_of_eq (sym v.is)) (lt_of_lt_of_le (mul-lt-mul_of_pos_right l (pow_pos 149)) (le_of_eq w.is)) in
    let q : v.many < w.many = lt_of_not-le λ n. lt_irrefl (v.many * C) (lt_of_lt_of_le p (mul-le-mul_right C n)) in
    le_trans (at_least (w.many - v.many) C (rest v.many w.many q))
    (le_of_eq (sub-mul w.many v.many C ∙ ap (λ (x : ℕ). x - v.many * C) (sym w.is) ∙ ap (λ (x : ℕ). B * 2 ^ 149 - x) (sym v.is) ∙ sym (sub-mul B A (2 ^ 149))))
  where
    rest : (a b : ℕ) → a < b → 0 < b - a
    rest a b h = omega arith

-- ---- the mirror image of a number: +0.0 minus it

unfoldable pub mirror : Float → Float
mirror x = sub binary32 (fin false 0 (pos 0)) x

mirror_big : {x : Float} → Big x → T (fits binary32 x) → mirror x ≡ neg x
unfolding mirror sub neg add
mirror_big (far s) p = refl
mirror_big (some s m e) p = keep_left (not s) m e (neg-fits binary32 (fin s (suc m) e) p)

mirror-zero : mirror (fin false 0 (pos 0)) ≡ fin false 0 (pos 0)
unfolding mirror sub neg add
mirror-zero = refl

-- where a fraction does not round to a zero, the opposite one rounds to its mirror image
flip : (s : Bool) (N C : ℕ) → 0 < C → C ≤ N * 2 ^ 149 → round binary32 (not s) N C ≡ mirror (round binary32 s N C)
flip s N C h k = round-neg binary32 s N C ∙ sym (mirror_big (round_big s N C h k) (round-fits binary32 s N C))

stays : (s : Bool) (N C : ℕ) → 0 < C → C ≤ N * 2 ^ 149 → Kept (round binary32 s N C)
stays s N C h k = kept_of_big (round_big s N C h k) (round-fits binary32 s N C)

module _ (A B C : ℕ) (c : 0 < C) (v : Counted A C) (w : Counted B C) where
  -- the two orders of A and B, as the tests have them
  alike : (ltb A B ≡ false) → (ltb B A ≡ false) → A - B ≡ 0
  alike p q = let x : B ≤ A = ltb-false A B p in let y : A ≤ B = ltb-false B A q in omega arith

  -- the numbers have opposite signs, and the second is negative where t says so
  apart : (t : Bool) (p q : Bool) → ltb A B ≡ p → ltb B A ≡ q
      → (Kept (cond p (round binary32 t (B - A) C) (round binary32 (not t && q) (A - B) C)))
      × (cond p (round binary32 (not t) (B - A) C) (round binary32 (t && q) (A - B) C) ≡ mirror (cond p (round binary32 t (B - A) C) (round binary32 (not t && q) (A - B) C)))
  apart t true q e f = let k : C ≤ (B - A) * 2 ^ 149 = apart-counted A B C c v w (ltb-true A B e) in (stays t (B - A) C c k, flip t (B - A) C c k)
  apart true false true e f = let k : C ≤ (A - B) * 2 ^ 149 = apart-counted B A C c w v (ltb-true B A f) in (stays false (A - B) C c k, flip false (A - B) C c k)
  apart false false true e f = let k : C ≤ (A - B) * 2 ^ 149 = apart-counted B A C c w v (ltb-true B A f) in (stays true (A - B) C c k, flip true (A - B) C c k)
  apart true false false e f = none (zero-round false (A - B) C (alike e f) c)
    where
      none : {x : Float} → x ≡ fin false 0 (pos 0) → Kept x × (x ≡ mirror x)
      none r = (subst Kept (sym r) k-zero, r ∙ sym mirror-zero ∙ ap mirror (sym r))
  apart false false false e f = none (zero-round false (A - B) C (alike e f) c)
    where
      none : {x : Float} → x ≡ fin false 0 (pos 0) → Kept x × (x ≡ mirror x)
      none r = (subst Kept (sym r) k-zero, r ∙ sym mirror-zero ∙ ap mirror (sym r))

  summed : (s t : Bool) → Kept (sum binary32 s A t B C) × (sum binary32 (not s) A (not t) B C ≡ mirror (sum binary32 s A t B C))
  unfolding sum
  summed true true = let k : C ≤ (A + B) * 2 ^ 149 = both_counted A B C v w in (stays true (A + B) C c k, flip true (A + B) C c k)
  summed false false = let k : C ≤ (A + B) * 2 ^ 149 = both_counted A B C v w in (stays false (A + B) C c k, flip false (A + B) C c k)
  summed true false = apart false (ltb A B) (ltb B A) refl refl
  summed false true = apart true (ltb A B) (ltb B A) refl refl

-- ---- one more term: the sum stays such a number, and the mirror image of the sum is the sum of mirror image and negated term

two_up : (p : ℕ) → 0 < p → 2 * p ≡ 1 → ⊥
two_up p h e = omega arith

flat : (e : ℤ) → up e * down e ≡ 1 → e ≡ pos 0
flat (pos zero) h = refl
flat (pos (suc k)) h = absurd (two_up (2 ^ k) (pow_pos k) (sym (pow-succ' 2 k) ∙ sym (mul-one (2 ^ suc k)) ∙ h))
flat (negsuc k) h = absurd (two_up (2 ^ k) (pow_pos k) (sym (pow-succ' 2 k) ∙ sym (one-mul (2 ^ suc k)) ∙ h))

pub zero_exp : (s : Bool) (e : ℤ) → T (fits binary32 (fin s zero e)) → e ≡ pos 0
unfolding fits
zero_exp s e t = flat e (eqb→eq (up e * down e) 1 t)

abbrev Step : Float → Float → Type 0
Step x y = Kept (add binary32 x y) × (add binary32 (mirror x) (neg y) ≡ mirror (add binary32 x y))

-- a zero more, of either sign
mirrored : {x : Float} → Kept x → (t : Bool) → add binary32 (mirror x) (fin t 0 (pos 0)) ≡ mirror x
unfolding mirror sub neg add
mirrored k_nan t = refl
mirrored (k_inf s) t = refl
mirrored k-zero t = keep_right k-zero t
mirrored (k_some s m e p) t =
    let q : T (fits binary32 (fin (not s) (suc m) e)) = neg-fits binary32 (fin s (suc m) e) p in
    ap (λ (z : Float). add binary32 z (fin t 0 (pos 0))) (keep_left (not s) m e q) ∙ keep_right (k_some (not s) m e q) t ∙ sym (keep_left (not s) m e q)

step-zero : {x : Float} → Kept x → (t : Bool) → Step x (fin t 0 (pos 0))
unfolding neg
step-zero w t = (subst Kept (sym (keep_right w t)) w, mirrored w (not t) ∙ ap mirror (sym (keep_right w t)))

pub step : {x : Float} → Kept x → (y : Float) → T (fits binary32 y) → Step x y
unfolding mirror sub neg add
step k_nan y p = (k_nan, refl)
step (k_inf s) nan p = (k_nan, refl)
step (k_inf true) (inf true) p = (k_inf true, refl)
step (k_inf true) (inf false) p = (k_nan, refl)
step (k_inf false) (inf true) p = (k_nan, refl)
step (k_inf false) (inf false) p = (k_inf false, refl)
step (k_inf s) (fin t n d) p = (k_inf s, refl)
step k-zero nan p = (k_nan, refl)
step k-zero (inf t) p = (k_inf t, refl)
step k-zero (fin t zero d) p = subst (λ (z : ℤ). Step (fin false 0 (pos 0)) (fin t 0 z)) (sym (zero_exp t d p)) (step-zero k-zero t)
step k-zero (fin t (suc n) d) p =
    (subst Kept (sym (keep_left t n d p)) (k_some t n d p), ap (λ (z : Float). add binary32 (fin false 0 (pos 0)) (neg z)) (sym (keep_left t n d p)))
step (k_some s m e q) nan p = (k_nan, ap (λ (z : Float). add binary32 z nan) (keep_left (not s) m e (neg-fits binary32 (fin s (suc m) e) q)))
step (k_some s m e q) (inf t) p = (k_inf t, ap (λ (z : Float). add binary32 z (inf (not t))) (keep_left (not s) m e (neg-fits binary32 (fin s (suc m) e) q)))
step (k_some s m e q) (fin t zero d) p = subst (λ (z : ℤ). Step (fin s (suc m) e) (fin t 0 z)) (sym (zero_exp t d p)) (step-zero (k_some s m e q) t)
step (k_some s m e q) (fin t (suc n) d) p =
    let v = widened (suc m * up e) (down e) (down d) (counted m e (fitting s m e q)) in
    let w = widened' (suc n * up d) (down d) (down e) (counted n d (fitting t n d p)) in
    let r = summed (suc m * up e * down d) (suc n * up d * down e) (down e * down d) (mul-pos (down_pos e) (down_pos d)) v w s t in
    (r.0, ap (λ (z : Float). add binary32 z (fin (not t) (suc n) d)) (keep_left (not s) m e (neg-fits binary32 (fin s (suc m) e) q)) ∙ r.1)

-- ---- sums from +0.0

abbrev pub Fit : ℕ → (ℕ → Float) → Type 0
Fit n f = (k : ℕ) → k < n → T (fits binary32 (f k))

both : (n : ℕ) (f : ℕ → Float) → Fit n f → Kept (sum_to n f) × (sum_to n (λ k. neg (f k)) ≡ mirror (sum_to n f))
unfolding sum_to of_bits
both zero f h = (k-zero, sym mirror-zero)
both (suc n) f h =
    let r = both n f (λ k l. h k (omega arith)) in
    let w = step r.0 (f n) (h n (omega arith)) in
    (w.0, ap (λ (z : Float). add binary32 z (neg (f n))) r.1 ∙ w.1)

pub sum_kept : (n : ℕ) (f : ℕ → Float) → Fit n f → Kept (sum_to n f)
sum_kept n f h = (both n f h).0

-- a sum with each term negated is +0.0 minus the sum
pub sum-mirror : (n : ℕ) (f : ℕ → Float) → Fit n f → sum_to n (λ k. neg (f k)) ≡ mirror (sum_to n f)
sum-mirror n f h = (both n f h).1

-- numbers x times the entries b, which are the entries a negated: +0.0 minus the sum of x times a
pub products-mirror : (n : ℕ) (x a b : ℕ → Float) → ((k : ℕ) → k < n → b k ≡ neg (a k))
    → sum_to n (λ k. mul binary32 (x k) (b k)) ≡ sub binary32 zero_f (sum_to n (λ k. mul binary32 (x k) (a k)))
unfolding mirror of_bits
products-mirror n x a b h =
    sum_same n (λ k. mul binary32 (x k) (b k)) (λ k. neg (mul binary32 (x k) (a k))) (λ k l. ap (mul binary32 (x k)) (h k l) ∙ mul-neg-right binary32 (x k) (a k))
    ∙ sum-mirror n (λ k. mul binary32 (x k) (a k)) (λ k l. mul-fits binary32 (x k) (a k))
