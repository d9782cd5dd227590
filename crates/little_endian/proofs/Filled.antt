-- What a loop fills that stores element i at place i, whatever it reads and however wide that is; and what bytes of halves and of floats fill. Assumes nothing.
use mathlib.Core.Path.{◌≡◌, sym, ap, ◌∙◌}
use mathlib.Core.List.{List, ◌++◌, append_assoc}
use Prim.Native.Nat.{ℕ, suc, ◌+◌, ◌-◌, ◌*◌, ◌/◌, ◌%◌, ◌^◌, ◌<◌, ◌≤◌}
use native.Mathlib.Nat.{div-div-eq-div-mul}
use native.Mathlib.Omega.{arith}
use lib.ListN.{length, take, drop, set}
use lib.Seq.{sets, sets-eq, drop-drop}
use Rattle.std.specs.Int.{w16, w32, to_le_bytes}
use lib.Ieee.{Float, binary32, to_bits}
use Rattle.laws.specs.Lists.{at, tab}
use Rattle.laws.proofs.Lists.{Filling, filling-none, filling_more, filling-all}
use Rattle.little_endian.specs.Bytes.{half_put, word_put, float_byte}

-- ---- element after element

module _ {A : Type 0} where
  -- the loop's invariant: i elements are stored, of which element k is f k
  pub record ReadIn (f : ℕ → A) (to₀ : List A) (i : ℕ) (to : List A) : Type 0 where
    pub within : i ≤ length to₀
    pub filling : Filling to₀ f i to

  pub read_none : (f : ℕ → A) (to₀ : List A) → ReadIn f to₀ 0 to₀
  read_none f to₀ = record { within = omega arith; filling = filling-none to₀ f }

  pub read_more : {to₀ to : List A} {f : ℕ → A} {i : ℕ} {a : A} → ReadIn f to₀ i to → i < length to₀ → a ≡ f i → ReadIn f to₀ (i + 1) (set to i a)
  read_more w h e = record { within = omega arith; filling = filling_more w.filling h e }

  pub read_all : {to₀ to : List A} {f : ℕ → A} {i : ℕ} → ReadIn f to₀ i to → length to₀ ≤ i → to ≡ tab (length to₀) f
  read_all w h = filling-all w.filling h w.within

-- ---- half after half, and float after float

pub half_more :
    {to₀ to : List ℕ} {f : ℕ → ℕ} (n half : ℕ) → Filling to₀ f n to → n + 2 ≤ length to₀ → half % 256 ≡ f n → half / 256 % 256 ≡ f (n + 1)
    → Filling to₀ f (n + 2) (half_put half n to)
half_more n half w h low high =
    let two : n + 1 + 1 ≡ n + 2 = omega arith in
    rw two at (filling_more (filling_more w (omega arith) low) (omega arith) high)

-- bytes that are copied over a part are stored one after the other
stored : (s bs : List ℕ) (a e : ℕ) → a + length bs ≡ e → e ≤ length s → take a s ++ (bs ++ drop (e - a) (drop a s)) ≡ sets s a bs
stored s bs a e n h =
    let rest : a + (e - a) ≡ a + length bs = omega arith in
    rw (drop-drop (e - a) a s, rest, ← append_assoc) (sym (sets-eq bs s a (omega arith)))

-- the second byte of a word's low half is the word's, and so is that of its high half
low_second : (word : ℕ) → word % 65536 / 256 % 256 ≡ word / 256 % 256
low_second word =
    let e : word / 256 ≡ word % 65536 / 256 + 256 * (word / 65536) = omega arith in
    rw e (omega arith)

high_second : (word : ℕ) → word / 65536 / 256 % 256 ≡ word / 16777216 % 256
high_second word = ap (λ (q : ℕ). q % 256) (div-div-eq-div-mul word 65536 256)

-- the two bytes of a half, copied over a part
pub half_stored : (half a : ℕ) (s : List ℕ) {bs : List ℕ} → bs ≡ to_le_bytes w16 half → a + 2 ≤ length s
    → take a s ++ (bs ++ drop ((a + 2) - a) (drop a s)) ≡ half_put half a s
half_stored half a s {bs} e h =
    let one : suc a ≡ a + 1 = omega arith in
    stored s bs a (a + 2) (omega (arith, ap length e)) h ∙ rw (e, one)

-- the four bytes of a word, copied over a part
pub word_stored : (word a : ℕ) (s : List ℕ) {bs : List ℕ} → bs ≡ to_le_bytes w32 word → a + 4 ≤ length s
    → take a s ++ (bs ++ drop ((a + 4) - a) (drop a s)) ≡ word_put word a s
word_stored word a s {bs} e h =
    let first : word % 65536 % 256 ≡ word % 256 = omega arith in
    let one : suc a ≡ a + 1 = omega arith in
    let two : suc (suc a) ≡ a + 2 = omega arith in
    let three : suc (suc (suc a)) ≡ a + 2 + 1 = omega arith in
    stored s bs a (a + 4) (omega (arith, ap length e)) h ∙ rw (e, first, low_second word, high_second word, three, two, one)

-- byte j of float i stands at place p
byte_of : (x : List Float) (p i j : ℕ) → p / 4 ≡ i → p % 4 ≡ j → to_bits binary32 (at x i) / 256 ^ j % 256 ≡ float_byte x p
byte_of x p i j d m = rw (d, m)

-- one float more: its bits as a word
pub float_more :
    (x : List Float) {to₀ to : List ℕ} (i b : ℕ) → Filling to₀ (float_byte x) (4 * i) to → 4 * i + 4 ≤ length to₀ → b ≡ to_bits binary32 (at x i)
    → Filling to₀ (float_byte x) (4 * (i + 1)) (word_put b (4 * i) to)
float_more x {to₀} {to} i b w h e =
    let zero : b % 65536 % 256 ≡ float_byte x (4 * i) = rw e (omega (arith, byte_of x (4 * i) i 0 (omega arith) (omega arith))) in
    let one : b % 65536 / 256 % 256 ≡ float_byte x (4 * i + 1) = low_second b ∙ rw e (byte_of x (4 * i + 1) i 1 (omega arith) (omega arith)) in
    let two : b / 65536 % 256 ≡ float_byte x (4 * i + 2) = rw e (byte_of x (4 * i + 2) i 2 (omega arith) (omega arith)) in
    let three : b / 65536 / 256 % 256 ≡ float_byte x (4 * i + 2 + 1) = high_second b ∙ rw e (byte_of x (4 * i + 2 + 1) i 3 (omega arith) (omega arith)) in
    let next : 4 * i + 2 + 2 ≡ 4 * (i + 1) = omega arith in
    rw next at (half_more (4 * i + 2) (b / 65536) (half_more (4 * i) (b % 65536) w (omega arith) zero one) (omega arith) two three)
