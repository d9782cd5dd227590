-- Zeros of either sign stay zeros: through sums, through products with finite numbers, and in lists. Assumes nothing.
use mathlib.Core.Path.{◌≡◌, refl, sym, ap, subst, ◌∙◌}
use mathlib.Core.Bool.{Bool, true, false, true≢false, cond}
use mathlib.Core.List.{List}
use Prim.Native.Nat.{ℕ, zero, suc, ◌*◌, ◌<◌}
use native.Mathlib.Nat.{zero-mul, mul-zero, mul-pos}
use native.Mathlib.Omega.{arith}
use lib.Dec.{lit<}
use lib.IntN.{pos}
use lib.ListN.{length, replicate, length-replicate, get_or-replicate}
use lib.Ieee.{Float, nan, inf, fin, binary32, of_bits, up, add, sub, mul, neg, round}
use lib.Ieee.Fits.{down_pos}
use lib.Ieee.Scale.{round_same}
use Rattle.laws.specs.Finite.{finite, all_finite}
use Rattle.laws.specs.Lists.{at, tab}
use Rattle.laws.specs.Sum.{zero_f, sum_to}
use Rattle.laws.proofs.Checks.{all_if}
use Rattle.laws.proofs.Lists.{get_d_tab}

-- a zero, of either sign
pub data Zero : Float → Type 0 where
  signed : (s : Bool) → Zero (fin s 0 (pos 0))

pub zero_is : Zero zero_f
unfolding of_bits
zero_is = signed false

pub zero-finite : {x : Float} → Zero x → finite x ≡ true
unfolding finite
zero-finite (signed s) = refl

pub zero-neg : {x : Float} → Zero x → Zero (neg x)
unfolding neg
zero-neg (signed s) = signed _

pub zero-add : {x y : Float} → Zero x → Zero y → Zero (add binary32 x y)
unfolding add
zero-add (signed true) (signed true) = signed true
zero-add (signed true) (signed false) = signed false
zero-add (signed false) (signed true) = signed false
zero-add (signed false) (signed false) = signed false

pub zero-sub : {x y : Float} → Zero x → Zero y → Zero (sub binary32 x y)
unfolding sub
zero-sub z w = zero-add z (zero-neg w)

pub zero-sum : (n : ℕ) (f : ℕ → Float) → ((k : ℕ) → k < n → Zero (f k)) → Zero (sum_to n f)
unfolding sum_to
zero-sum zero f h = zero_is
zero-sum (suc n) f h = zero-add (zero-sum n f (λ k l. h k (omega arith))) (h n (omega arith))

-- a fraction that is 0
pub zero-round : (s : Bool) (num den : ℕ) → num ≡ 0 → 0 < den → round binary32 s num den ≡ fin s 0 (pos 0)
unfolding round
zero-round s num den e h = round_same binary32 s num den 0 1 h (lit< tt) (rw e (sym (zero-mul den))) ∙ refl

to_zero : {s : Bool} {x : Float} → x ≡ fin s 0 (pos 0) → Zero x
to_zero {s} e = subst Zero (sym e) (signed s)

pub zero-fraction : (s : Bool) (num den : ℕ) → num ≡ 0 → 0 < den → Zero (round binary32 s num den)
zero-fraction s num den e h = to_zero (zero-round s num den e h)

-- a zero times a finite number
pub zero-mul-left : {x : Float} → Zero x → (y : Float) → finite y ≡ true → Zero (mul binary32 x y)
unfolding mul finite
zero-mul-left (signed s) nan h = absurd (true≢false (sym h))
zero-mul-left (signed s) (inf t) h = absurd (true≢false (sym h))
zero-mul-left (signed s) (fin t n d) h = zero-fraction _ _ _ (zero-mul (n * up d)) (mul-pos (lit< tt) (down_pos d))

-- a finite number times a zero
pub zero-mul-right : {y : Float} → Zero y → (x : Float) → finite x ≡ true → Zero (mul binary32 x y)
unfolding mul finite
zero-mul-right (signed t) nan h = absurd (true≢false (sym h))
zero-mul-right (signed t) (inf s) h = absurd (true≢false (sym h))
zero-mul-right (signed t) (fin s m e) h = zero-fraction _ _ _ (ap (λ (x : ℕ). m * up e * x) (zero-mul 1) ∙ mul-zero (m * up e)) (mul-pos (down_pos e) (lit< tt))

pub zero-cond : {x y : Float} (b : Bool) → (b ≡ true → Zero x) → (b ≡ false → Zero y) → Zero (cond b x y)
zero-cond true f g = f refl
zero-cond false f g = g refl

-- ---- lists

-- each of the first n elements is a zero
abbrev pub Zeros : ℕ → List Float → Type 0
Zeros n xs = (k : ℕ) → k < n → Zero (at xs k)

-- an element of a list by a rule, and all of them
pub zero-at : (n : ℕ) (f : ℕ → Float) (k : ℕ) → k < n → Zero (f k) → Zero (at (tab n f) k)
zero-at n f k l z = subst Zero (sym (get_d_tab n f k nan l)) z

pub zeros_tab : (n : ℕ) (f : ℕ → Float) → ((k : ℕ) → k < n → Zero (f k)) → Zeros n (tab n f)
zeros_tab n f h k l = zero-at n f k l (h k l)

pub zeros_replicate : (n : ℕ) → Zeros n (replicate n zero_f)
zeros_replicate n k l = subst Zero (sym (get_or-replicate n k zero_f nan l)) zero_is

pub zeros_finite : (n : ℕ) (xs : List Float) → length xs ≡ n → Zeros n xs → all_finite xs ≡ true
zeros_finite n xs e z = rw e (all_if n (λ i. finite (at xs i)) (λ i l. zero-finite (z i l)))

pub replicate-finite : (n : ℕ) → all_finite (replicate n zero_f) ≡ true
replicate-finite n = zeros_finite n (replicate n zero_f) (length-replicate n zero_f) (λ k l. zeros_replicate n k l)
