-- The digits of a number: the one in front of others, the last one, and how many there are. Assumes nothing.
use mathlib.Core.Path.{◌≡◌, refl, ap, ◌∙◌}
use mathlib.Core.Bool.{Bool, true, false, cond}
use mathlib.Core.List.{List, [], ◌∷◌, ◌++◌}
use Prim.Native.Nat.{ℕ, zero, suc, ◌+◌, ◌-◌, ◌/◌, ◌%◌, ◌^◌, ◌≤◌, ◌<◌}
use native.Mathlib.Nat.{div-one, pow-zero, div-div-eq-div-mul, pow-suc, pow-succ'}
use native.Mathlib.Numerals.{add-one}
use native.Mathlib.Decide.{dec_lt}
use native.Mathlib.Omega.{arith}
use lib.Dec.{ltb}
use lib.ListN.{length, set}
use borrow.Author.Tests.{lt-ltb, le-ltb}
use Rattle.laws.specs.Lists.{tab}
use Rattle.laws.proofs.Lists.{length-tab, tab-add, tab-same}
use Rattle.text.specs.Digits.{digit, digits, digit_count_to, digit_count, decimal}
use Rattle.text.specs.Line.{stored}
use Rattle.text.proofs.Texts.{stored-front}

-- ---- digit by digit

-- what is left of a number without its last digits, and without one more
pub div_more : (n base i : ℕ) → n / base ^ i / base ≡ n / base ^ (i + 1)
div_more n base i = rw (add-one, pow-suc) (div-div-eq-div-mul n (base ^ i) base)

pub digits-none : (base n : ℕ) → digits base 0 n ≡ []
unfolding digits tab
digits-none base n = refl

pub length_digits : (base count n : ℕ) → length (digits base count n) ≡ count
unfolding digits
length_digits base count n = length-tab count _

-- one digit more in front
pub digits-front : (base i n : ℕ) → digits base (i + 1) n ≡ digit (n / base ^ i % base) ∷ digits base i n
unfolding digits tab
digits-front base i n =
    let at : ℕ → ℕ = λ k. digit (n / base ^ k % base) in
    let turned : i + 1 ≡ 1 + i = omega arith in
    let first : i + 1 - 1 - 0 ≡ i = omega arith in
    ap (λ (m : ℕ). tab m (λ k. at (i + 1 - 1 - k))) turned
    ∙ tab-add 1 i (λ k. at (i + 1 - 1 - k))
    ∙ rw (first, tab-same i (λ k. at (i + 1 - 1 - (1 + k))) (λ k. at (i - 1 - k)) (λ k h. let e : i + 1 - 1 - (1 + k) ≡ i - 1 - k = omega arith in ap at e))

-- and stored in front of those that stand from a place on
pub digits-front-stored : (base n i p place : ℕ) (l : List ℕ) → place ≡ p + 1 → p < length l
    → set (stored (digits base i n) place l) p (digit (n / base ^ i % base)) ≡ stored (digits base (i + 1) n) p l
digits-front-stored base n i p place l e h = rw (e, digits-front) (stored-front (digit (n / base ^ i % base)) (digits base i n) l p h)

-- one digit more at the end
pub digits_last : (base c n : ℕ) → digits base (suc c) n ≡ digits base c (n / base) ++ digit (n % base) ∷ []
unfolding digits tab
digits_last base c n =
    let at : ℕ → ℕ = λ k. digit (n / base ^ k % base) in
    let last : suc c - 1 - c ≡ 0 = omega arith in
    rw (last, tab-same c (λ k. at (suc c - 1 - k)) (λ k. digit (n / base / base ^ (c - 1 - k) % base)) (λ k h. one k h), pow-zero, div-one)
  where
    one : (k : ℕ) → k < c → digit (n / base ^ (suc c - 1 - k) % base) ≡ digit (n / base / base ^ (c - 1 - k) % base)
    one k h =
        let e : suc c - 1 - k ≡ suc (c - 1 - k) = omega arith in
        rw (e, pow-succ', div-div-eq-div-mul)

-- ---- how many decimal digits

pub count-one : (most n : ℕ) → n < 10 → digit_count_to most n ≡ 1
count-one zero n h = refl
count-one (suc most) n h = rw (lt-ltb n 10 h)

pub count_tenth : (most n : ℕ) → 10 ≤ n → digit_count_to (suc most) n ≡ suc (digit_count_to most (n / 10))
count_tenth most n h = rw (le-ltb n 10 h)

-- a turn that counts a digit: what is left has one less
pub count_more : (count rest : ℕ) → 0 < count → count ≤ 20 → rest < 10 ^ (21 - count) → 10 ≤ rest
    → (count + 1 ≤ 20) × (rest / 10 < 10 ^ (21 - (count + 1))) × (digit_count_to (20 - count) rest ≡ suc (digit_count_to (20 - (count + 1)) (rest / 10)))
count_more count rest some most small h = (more, omega (arith, rw (room, pow-suc) at small), rw less (count_tenth (20 - (count + 1)) rest h))
  where
    split : Dec (count < 20) → count < 20
    split (yes k) = k
    split (no k) = let last : 21 - count ≡ 1 = omega arith in absurd (omega (arith, rw last at small))

    more : count + 1 ≤ 20
    more = omega (arith, split (dec_lt count 20))

    room : 21 - count ≡ suc (21 - (count + 1))
    room = omega (arith, more)

    less : 20 - count ≡ suc (20 - (count + 1))
    less = omega (arith, more)

pub length-decimal : (n : ℕ) → length (decimal n) ≡ digit_count n
unfolding decimal
length-decimal n = length_digits 10 (digit_count n) n

count_most : (most n : ℕ) → digit_count_to most n ≤ most + 1
count_most zero n = omega arith
count_most (suc most) n = go (ltb n 10) (count_most most (n / 10))
  where
    go : (b : Bool) → digit_count_to most (n / 10) ≤ most + 1 → cond b 1 (suc (digit_count_to most (n / 10))) ≤ suc most + 1
    go true h = omega arith
    go false h = omega arith

-- at most 20
pub decimal-most : (n : ℕ) → length (decimal n) ≤ 20
unfolding digit_count
decimal-most n = rw length-decimal (count_most 19 n)

-- and of a byte at most 3
pub decimal-small : (n : ℕ) → n < 256 → length (decimal n) ≤ 3
unfolding digit_count
decimal-small n h = rw length-decimal (go (ltb n 10) (ltb (n / 10) 10))
  where
    last : digit_count_to 17 (n / 10 / 10) ≡ 1
    last = count-one 17 (n / 10 / 10) (omega arith)

    go : (a b : Bool) → cond a 1 (suc (cond b 1 (suc (digit_count_to 17 (n / 10 / 10))))) ≤ 3
    go true b = omega arith
    go false true = omega arith
    go false false = rw last (omega arith)
