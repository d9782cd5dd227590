-- What was stored is read back, and storing what was read changes no byte: for halves, words and floats. Assumes nothing.
use mathlib.Core.Path.{◌≡◌, refl, sym, ap, ◌∙◌}
use mathlib.Core.Bool.{true}
use mathlib.Core.List.{List}
use Prim.Native.Nat.{ℕ, zero, suc, ◌+◌, ◌*◌, ◌/◌, ◌%◌, ◌^◌, ◌<◌, ◌≤◌}
use native.Mathlib.Nat.{zero-add, mod-eq_of_lt}
use native.Mathlib.Numerals.{add-one}
use native.Mathlib.Omega.{arith}
use lib.Dec.{T}
use lib.ListN.{length, set, length-set}
use lib.Seq.{get_or-set_same, get_or-set_other, set-get_or}
use lib.Ieee.{Float, nan, binary32, fits, of_bits, to_bits}
use lib.Ieee.Bits.{of_bits-to_bits, to_bits-of_bits, to_bits-lt}
use Rattle.laws.specs.Finite.{finite, all_finite}
use Rattle.laws.specs.Lists.{at, tab}
use Rattle.laws.proofs.Checks.{all-each}
use Rattle.laws.proofs.Finite.{no_nan}
use Rattle.laws.proofs.Lists.{length-tab, get_d_tab, length-filled, filled_at, tab-same, tab-at, Filling}
use Rattle.little_endian.specs.Bytes.{AllBytes, byte_at, half_at, word_at, float_at, half_put, word_put, float_byte, floats_put, floats_from}
use Rattle.little_endian.proofs.Filled.{float_more}

-- ---- halves

pub half_back : (half p : ℕ) (s : List ℕ) → half < 65536 → p + 2 ≤ length s → half_at (half_put half p s) p ≡ half
half_back half p s h room =
    let t = set s p (half % 256) in
    let low = get_or-set_other t (p + 1) p (half / 256 % 256) 0 (λ e. omega arith) ∙ get_or-set_same s p (half % 256) 0 (omega arith) in
    let high = get_or-set_same t (p + 1) (half / 256 % 256) 0 (omega (arith, length-set s p (half % 256))) in
    omega (arith, low, high)

pub half_again : (p : ℕ) (s : List ℕ) → AllBytes s → p + 2 ≤ length s → half_put (half_at s p) p s ≡ s
half_again p s bytes room =
    let b = bytes p (omega arith) in
    let c = bytes (p + 1) (omega arith) in
    let low : half_at s p % 256 ≡ byte_at s p = omega arith in
    let above : half_at s p / 256 ≡ byte_at s (p + 1) = omega arith in
    let high : half_at s p / 256 % 256 ≡ byte_at s (p + 1) = rw above (mod-eq_of_lt c) in
    rw (low, high, set-get_or s p 0, set-get_or s (p + 1) 0)

-- ---- words

-- four bytes are below 2 ^ 32
below : (s : List ℕ) (p : ℕ) → AllBytes s → p + 4 ≤ length s → word_at s p < 2 ^ 32
below s p bytes room =
    omega (arith, bytes p (omega arith), bytes (p + 1) (omega arith), bytes (p + 2) (omega arith), bytes (p + 2 + 1) (omega arith))

-- a byte in front of a half that is stored is as it was
before : (half p : ℕ) (s : List ℕ) (i : ℕ) → i < p → byte_at (half_put half p s) i ≡ byte_at s i
before half p s i h =
    get_or-set_other (set s p (half % 256)) (p + 1) i (half / 256 % 256) 0 (λ e. omega arith) ∙ get_or-set_other s p i (half % 256) 0 (λ e. omega arith)

pub word_back : (word p : ℕ) (s : List ℕ) → word < 2 ^ 32 → p + 4 ≤ length s → word_at (word_put word p s) p ≡ word
word_back word p s h room =
    let t = half_put (word % 65536) p s in
    let long : length t ≡ length s = simp length-set in
    let kept = before (word / 65536) (p + 2) t in
    let low = half_back (word % 65536) p s (omega arith) (omega arith) in
    let high = half_back (word / 65536) (p + 2) t (omega arith) (omega arith) in
    omega (arith, kept p (omega arith), kept (p + 1) (omega arith), low, high)

pub word_again : (p : ℕ) (s : List ℕ) → AllBytes s → p + 4 ≤ length s → word_put (word_at s p) p s ≡ s
word_again p s bytes room =
    let b = bytes p (omega arith) in
    let c = bytes (p + 1) (omega arith) in
    let low : word_at s p % 65536 ≡ half_at s p = omega arith in
    let high : word_at s p / 65536 ≡ half_at s (p + 2) = omega arith in
    rw (low, high, half_again p s bytes (omega arith), half_again (p + 2) s bytes (omega arith))

-- ---- floats

-- one float more is one word more
put_more : (xs : List Float) (s : List ℕ) (n : ℕ) → 4 * n + 4 ≤ length s → floats_put (n + 1) xs s ≡ word_put (to_bits binary32 (at xs n)) (4 * n) (floats_put n xs s)
put_more xs s n h =
    let w : Filling s (float_byte xs) (4 * n) (floats_put n xs s) = record { long = length-filled (4 * n) (float_byte xs) s (omega arith); is = refl } in
    sym (float_more xs n (to_bits binary32 (at xs n)) w h refl).is

-- two lists with the same bytes at p hold the same word there
word_same : (s t : List ℕ) (p : ℕ) → ((k : ℕ) → k < p + 4 → byte_at s k ≡ byte_at t k) → word_at s p ≡ word_at t p
word_same s t p e = rw (e p (omega arith), e (p + 1) (omega arith), e (p + 2) (omega arith), e (p + 2 + 1) (omega arith))

-- float i, among the first n: those after it do not change it
stored_float : (xs : List Float) (s : List ℕ) (n i : ℕ) → 4 * n ≤ length s → i < n → T (fits binary32 (at xs i)) → float_at (floats_put n xs s) (4 * i) ≡ at xs i
stored_float xs s n i room h fit =
    let b = to_bits binary32 (at xs i) in
    let f = float_byte xs in
    let same = word_same (floats_put n xs s) (floats_put (i + 1) xs s) (4 * i) (λ k l. filled_at (4 * n) f s k 0 (omega arith) ∙ sym (filled_at (4 * (i + 1)) f s k 0 (omega arith))) in
    let long = length-filled (4 * i) f s (omega arith) in
    let word = word_back b (4 * i) (floats_put i xs s) (to_bits-lt binary32 (at xs i) fit) (omega arith) in
    ap (of_bits binary32) (same ∙ ap (λ (t : List ℕ). word_at t (4 * i)) (put_more xs s i (omega arith)) ∙ word) ∙ of_bits-to_bits binary32 (at xs i) fit

-- every f32 number comes back, the one NaN of the logic too
pub floats-back : (xs : List Float) (s : List ℕ) → 4 * length xs ≤ length s → ((i : ℕ) → i < length xs → T (fits binary32 (at xs i)))
    → floats_from (floats_put (length xs) xs s) 0 (length xs) ≡ xs
unfolding floats_from
floats-back xs s room fit =
    let n = length xs in
    let t = floats_put n xs s in
    tab-same n (λ i. float_at t (0 + 4 * i)) (at xs) (λ i h. ap (float_at t) (zero-add (4 * i)) ∙ stored_float xs s n i room h (fit i h)) ∙ tab-at n xs nan refl

-- the first n floats of a list that begins as what was read
again : (n : ℕ) (xs : List Float) (s : List ℕ) → AllBytes s → 4 * n ≤ length s → ((i : ℕ) → i < n → (at xs i ≡ float_at s (4 * i)) × (finite (at xs i) ≡ true))
    → floats_put n xs s ≡ s
unfolding tab
again zero xs s bytes room each = refl
again (suc n) xs s bytes room each =
    let e = (each n (omega arith)).0 in
    let small : word_at s (4 * n) < 2 ^ 32 = below s (4 * n) bytes (omega arith) in
    let bits = ap (to_bits binary32) e ∙ to_bits-of_bits binary32 (word_at s (4 * n)) small (no_nan (float_at s (4 * n)) (rw e at (each n (omega arith)).1)) in
    rw (← add-one n, put_more xs s n (omega arith), again n xs s bytes (omega arith) (λ i h. each i (omega arith)), bits) (word_again (4 * n) s bytes (omega arith))

pub floats_again : (n : ℕ) (s : List ℕ) → AllBytes s → 4 * n ≤ length s → all_finite (floats_from s 0 n) ≡ true → floats_put n (floats_from s 0 n) s ≡ s
unfolding floats_from
floats_again n s bytes room each =
    let f : ℕ → Float = λ i. float_at s (0 + 4 * i) in
    let long = length-tab n f in
    again n (tab n f) s bytes room
    (λ i h. (get_d_tab n f i nan h ∙ ap (float_at s) (zero-add (4 * i)), all-each (length (tab n f)) (λ i. finite (at (tab n f) i)) each i (omega arith)))
