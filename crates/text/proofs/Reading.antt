-- What a reader takes from the texts: `decimal` and `hex` say the number, and no other text does. Assumes nothing.
use mathlib.Core.Path.{◌≡◌, refl, sym, ap, subst, ◌∙◌}
use mathlib.Core.Bool.{Bool, true, false, cond}
use mathlib.Core.List.{List, [], ◌∷◌, ◌++◌}
use Prim.Native.Nat.{ℕ, zero, suc, ◌+◌, ◌-◌, ◌*◌, ◌/◌, ◌%◌, ◌^◌, ◌≤◌, ◌<◌}
use native.Mathlib.Nat.{mod-lt, mod-eq_of_lt, div-eq_of_lt, add-zero, mul-add-div_right, mul-add-mod_self_right, div-add-mod', div-lt_iff_lt-mul, le-div_iff_mul-le}
use native.Mathlib.Nat.{one-mul, pow-zero, pow-suc, pow-succ', one-le-pow}
use native.Mathlib.Omega.{arith}
use native.Mathlib.Decide.{dec_lt}
use lib.Dec.{ltb, lit<, lit≤}
use lib.ListN.{length, get_or}
use borrow.Author.Tests.{lt-ltb, le-ltb, ltb-true, ltb-false}
use Rattle.laws.proofs.Lists.{get_d_tab}
use Rattle.text.specs.Digits.{digit, digits, digit_count_to, digit_count, decimal, hex, digit_of, said_after, Says, IsDecimal, IsHex}
use Rattle.text.proofs.Digits.{length_digits, digits_last, digits-none, length-decimal}

-- a character is a digit's, and which one
abbrev Digit : (base c : ℕ) → Type 0
Digit base c = (c ≡ digit (digit_of c)) × (digit_of c < base)

abbrev Each : (base : ℕ) → List ℕ → Type 0
Each base text = (i : ℕ) → i < length text → Digit base (get_or text i 0)

-- a reader takes a digit back from its character
digit-back : (d : ℕ) → d < 16 → digit_of (digit d) ≡ d
digit-back d h = go (ltb d 10) refl
  where
    go : (b : Bool) → ltb d 10 ≡ b → digit_of (cond b (48 + d) (87 + d)) ≡ d
    go true e = let small = ltb-true d 10 e in rw (lt-ltb (48 + d) 58 (omega arith)) (omega arith)
    go false e = let large = ltb-false d 10 e in rw (le-ltb (87 + d) 58 (omega arith)) (omega arith)

-- ---- the digits of a number say it, in any base up to 16

said-last : (base : ℕ) (xs : List ℕ) (before c : ℕ) → said_after base before (xs ++ c ∷ []) ≡ said_after base before xs * base + digit_of c
said-last base [] before c = refl
said-last base (x ∷ xs) before c = said-last base xs (before * base + digit_of x) c

module _ (base : ℕ) (some : 0 < base) (few : base ≤ 16) where
  is_digit : (q : ℕ) → Digit base (digit (q % base))
  is_digit q =
      let small = mod-lt q some in
      let back = digit-back (q % base) (omega arith) in
      (ap digit (sym back), subst (λ (d : ℕ). d < base) (sym back) small)

  digits-at : (count n i : ℕ) → i < count → get_or (digits base count n) i 0 ≡ digit (n / base ^ (count - 1 - i) % base)
  unfolding digits
  digits-at count n i h = get_d_tab count (λ k. digit (n / base ^ (count - 1 - k) % base)) i 0 h

  digits_number : (count n : ℕ) → n < base ^ count → said_after base 0 (digits base count n) ≡ n
  digits_number zero n h = let z : n < 1 = rw pow-zero at h in rw digits-none (omega arith)
  digits_number (suc count) n h =
      let less : n / base < base ^ count = (div-lt_iff_lt-mul some).1 (rw pow-suc at h) in
      let small = mod-lt n some in
      let back = digit-back (n % base) (omega arith) in
      ap (said_after base 0) (digits_last base count n)
      ∙ said-last base (digits base count (n / base)) 0 (digit (n % base))
      ∙ ap (λ (q : ℕ). q * base + digit_of (digit (n % base))) (digits_number count (n / base) less)
      ∙ ap (λ (d : ℕ). n / base * base + d) back
      ∙ div-add-mod' n base

  digits_say : (count n : ℕ) → n < base ^ count → Says base n (digits base count n)
  digits_say count n h = record {
    each = λ i k. subst (Digit base) (sym (digits-at count n i (rw length_digits at k))) (is_digit (n / base ^ (count - 1 - i)));
    number = digits_number count n h;
  }

-- ---- two texts of digits of one length that say the same number are equal

module _ (base : ℕ) where
  quotient : (u x : ℕ) → x < base → (u * base + x) / base ≡ u
  quotient u x h = mul-add-div_right (omega arith) u x ∙ ap (λ (q : ℕ). u + q) (div-eq_of_lt h) ∙ add-zero u

  remainder : (u x : ℕ) → x < base → (u * base + x) % base ≡ x
  remainder u x h = mul-add-mod_self_right u base x ∙ mod-eq_of_lt h

  -- the same number was said before them, too
  same_text : (a b : List ℕ) (u v : ℕ) → length a ≡ length b → Each base a → Each base b → said_after base u a ≡ said_after base v b → (u ≡ v) × (a ≡ b)
  same_text [] [] u v l ea eb e = (e, refl)
  same_text [] (d ∷ ds) u v l ea eb e = absurd (omega arith)
  same_text (c ∷ cs) [] u v l ea eb e = absurd (omega arith)
  same_text (c ∷ cs) (d ∷ ds) u v l ea eb e =
      let p = ea 0 (omega arith) in
      let q = eb 0 (omega arith) in
      let rest = same_text cs ds (u * base + digit_of c) (v * base + digit_of d) (omega arith) (λ i h. ea (suc i) (omega arith)) (λ i h. eb (suc i) (omega arith)) e in
      let front = sym (quotient u (digit_of c) p.1) ∙ ap (λ (n : ℕ). n / base) rest.0 ∙ quotient v (digit_of d) q.1 in
      let one = sym (remainder u (digit_of c) p.1) ∙ ap (λ (n : ℕ). n % base) rest.0 ∙ remainder v (digit_of d) q.1 in
      let head : c ≡ d = p.0 ∙ ap digit one ∙ sym q.0 in
      (front, rw (head, rest.1))

  pub says_determined : {n : ℕ} {a b : List ℕ} → length a ≡ length b → Says base n a → Says base n b → a ≡ b
  says_determined {n} {a} {b} l p q = (same_text a b 0 0 l p.each q.each (p.number ∙ sym q.number)).1

-- ---- hex

pub hex-is : (n : ℕ) → n < 2 ^ 32 → IsHex n (hex n)
unfolding hex
hex-is n h = record { says = digits_say 16 (lit< tt) (lit≤ tt) 8 n h; eight = length_digits 16 8 n }

pub hex_determined : {n : ℕ} {a b : List ℕ} → IsHex n a → IsHex n b → a ≡ b
hex_determined p q = says_determined 16 (p.eight ∙ sym q.eight) p.says q.says

-- ---- decimal: the count of digits is the least that is enough

count_enough : (most n : ℕ) → n < 10 ^ suc most → n < 10 ^ digit_count_to most n
count_enough zero n h = h
count_enough (suc most) n h =
    let less : n < 10 ^ suc most * 10 = rw pow-suc at h in
    go (ltb n 10) refl (count_enough most (n / 10) (omega arith))
  where
    go : (b : Bool) → ltb n 10 ≡ b → n / 10 < 10 ^ digit_count_to most (n / 10) → n < 10 ^ cond b 1 (suc (digit_count_to most (n / 10)))
    go true e r = ltb-true n 10 e
    go false e r = rw pow-suc (omega arith)

count-least : (most n k : ℕ) → digit_count_to most n ≡ suc k → 0 < n → 10 ^ k ≤ n
count-least most n zero e h = h
count-least zero n (suc k) e h = absurd (omega arith)
count-least (suc most) n (suc k) e h = go (ltb n 10) refl e (λ q r. count-least most (n / 10) k q r)
  where
    go : (b : Bool) → ltb n 10 ≡ b → cond b 1 (suc (digit_count_to most (n / 10))) ≡ suc (suc k)
        → (digit_count_to most (n / 10) ≡ suc k → 0 < n / 10 → 10 ^ k ≤ n / 10) → 10 ^ suc k ≤ n
    go true t e r = absurd (omega arith)
    go false t e r =
        let large = ltb-false n 10 t in
        let less = r (omega arith) (omega arith) in
        rw pow-suc (omega arith)

enough : (n : ℕ) → n < 10 ^ 20 → n < 10 ^ digit_count n
unfolding digit_count
enough n h = count_enough 19 n h

least : (n k : ℕ) → digit_count n ≡ suc (suc k) → 10 ^ suc k ≤ n
unfolding digit_count
least zero k e = absurd (omega arith)
least (suc n) k e = count-least 19 (suc n) (suc k) e (omega arith)

-- so the first of several digits is no 0
first-digit : (n p : ℕ) → 0 < p → p ≤ n → n < 10 * p → 0 < n / p % 10
first-digit n p z h k =
    let some : 1 ≤ n / p = (le-div_iff_mul-le z).1 (rw one-mul h) in
    let small : n / p < 10 = (div-lt_iff_lt-mul z).1 k in
    rw (mod-eq_of_lt small) some

no_zero : (n count : ℕ) → n < 10 ^ count → ((k : ℕ) → count ≡ suc (suc k) → 10 ^ suc k ≤ n) → 1 < count → get_or (digits 10 count n) 0 0 ≡ 48 → ⊥
no_zero n zero h low s is = omega arith
no_zero n (suc zero) h low s is = omega arith
no_zero n (suc (suc k)) h low s is =
    let place : suc (suc k) - 1 - 0 ≡ suc k = omega arith in
    let some = first-digit n (10 ^ suc k) (one-le-pow (suc k) 10 (lit< tt)) (low k refl) (rw pow-succ' at h) in
    let e : digit (n / 10 ^ suc k % 10) ≡ 48 = rw place at (sym (digits-at 10 (lit< tt) (lit≤ tt) (suc (suc k)) n 0 (omega arith)) ∙ is) in
    omega (arith, sym (digit-back (n / 10 ^ suc k % 10) (omega (arith, mod-lt (n / 10 ^ suc k) {m = 10} (lit< tt)))) ∙ ap digit_of e)

count-some : (most n : ℕ) → 0 < digit_count_to most n
count-some zero n = lit< tt
count-some (suc most) n = go (ltb n 10)
  where
    go : (b : Bool) → 0 < cond b 1 (suc (digit_count_to most (n / 10)))
    go true = lit< tt
    go false = omega arith

-- every number of 64 bits is below 10 ^ 20
pub decimal-is : (n : ℕ) → n < 10 ^ 20 → IsDecimal n (decimal n)
unfolding decimal digit_count
decimal-is n h = record {
  says = digits_say 10 (lit< tt) (lit≤ tt) (digit_count n) n (enough n h);
  some = subst (λ (m : ℕ). 0 < m) (sym (length-decimal n)) (count-some 19 n);
  no_zero_in_front = λ s is. no_zero n (digit_count n) (enough n h) (least n) (subst (λ (m : ℕ). 1 < m) (length-decimal n) s) is;
}

-- ---- decimal: a text with no 0 in front has as many digits as the number says

-- of two texts of one length, the one after the smaller number says less
less_after : (a b : List ℕ) (u v : ℕ) → u < v → length a ≡ length b → Each 10 a → said_after 10 u a < said_after 10 v b
less_after [] [] u v h l each = h
less_after [] (d ∷ ds) u v h l each = absurd (omega arith)
less_after (c ∷ cs) [] u v h l each = absurd (omega arith)
less_after (c ∷ cs) (d ∷ ds) u v h l each =
    let small = (each 0 (omega arith)).1 in
    less_after cs ds (u * 10 + digit_of c) (v * 10 + digit_of d) (omega arith) (omega arith) (λ i k. each (suc i) (omega arith))

-- and a text says less than one at least as long after a number that is not 0
less_than : (a b : List ℕ) (v : ℕ) → 0 < v → length a ≤ length b → Each 10 a → said_after 10 0 a < said_after 10 v b
less_than a [] v h l each = less_after a [] 0 v h (omega arith) each
less_than a (d ∷ ds) v h l each = go (dec_lt (length ds) (length a)) (λ k. less_than a ds (v * 10 + digit_of d) (omega arith) k each)
  where
    go : Dec (length ds < length a) → (length a ≤ length ds → said_after 10 0 a < said_after 10 (v * 10 + digit_of d) ds) → said_after 10 0 a < said_after 10 v (d ∷ ds)
    go (yes k) r = less_after a (d ∷ ds) 0 v h (omega arith) each
    go (no k) r = r (omega arith)

not_longer : {n : ℕ} (a b : List ℕ) → IsDecimal n a → IsDecimal n b → length a < length b → ⊥
not_longer a [] p q h = omega arith
not_longer {n} a (d ∷ ds) p q h = go (dec_lt 0 (digit_of d))
  where
    go : Dec (0 < digit_of d) → ⊥
    go (yes k) = omega (arith, less_than a ds (0 * 10 + digit_of d) (omega arith) (omega arith) p.says.each, p.says.number, q.says.number)
    go (no k) = let z : digit_of d ≡ 0 = omega arith in q.no_zero_in_front (omega (arith, p.some)) ((q.says.each 0 (omega arith)).0 ∙ ap digit z)

pub decimal_determined : {n : ℕ} {a b : List ℕ} → IsDecimal n a → IsDecimal n b → a ≡ b
decimal_determined {n} {a} {b} p q = says_determined 10 (go (dec_lt (length a) (length b)) (dec_lt (length b) (length a))) p.says q.says
  where
    go : Dec (length a < length b) → Dec (length b < length a) → length a ≡ length b
    go (yes h) s = absurd (not_longer a b p q h)
    go (no h) (yes k) = absurd (not_longer b a q p k)
    go (no h) (no k) = omega arith
