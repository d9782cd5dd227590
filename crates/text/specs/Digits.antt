-- Numbers as text: the digits of a number in a base, the first digit first, as ASCII codes; decimal, and the eight hex digits of a word. Assumes nothing.
use Rattle.std.specs.Prelude.{◌≡◌, cond, List, [], ◌∷◌, ℕ, zero, suc, ◌+◌, ◌-◌, ◌*◌, ◌/◌, ◌%◌, ◌^◌, ◌<◌, ltb, length, get_or}
use Rattle.laws.specs.Lists.{tab}

-- ---- the texts

-- the character of a digit: 0 to 9, and a to f from 10 on
abbrev pub digit : ℕ → ℕ
digit d = cond (ltb d 10) (48 + d) (87 + d)

-- the last `count` digits of n
unfoldable pub digits : (base count n : ℕ) → List ℕ
digits base count n = tab count (λ i. digit (n / base ^ (count - 1 - i) % base))

-- how many decimal digits n has, where it has at most `most` + 1
abbrev pub digit_count_to : (most n : ℕ) → ℕ
digit_count_to zero n = 1
digit_count_to (suc most) n = cond (ltb n 10) 1 (suc (digit_count_to most (n / 10)))

-- a number of 64 bits has at most 20
unfoldable pub digit_count : ℕ → ℕ
digit_count n = digit_count_to 19 n

-- a number of 64 bits in decimal
unfoldable pub decimal : ℕ → List ℕ
decimal n = digits 10 (digit_count n) n

-- a word as eight hex digits
unfoldable pub hex : ℕ → List ℕ
hex n = digits 16 8 n

-- ---- what a reader takes from such a text, which determines it (proofs/Reading.antt)

-- the digit that a character says
abbrev pub digit_of : ℕ → ℕ
digit_of c = cond (ltb c 58) (c - 48) (c - 87)

-- the number that a text says in a base, where `before` was said by what stands in front of it
abbrev pub said_after : (base before : ℕ) → List ℕ → ℕ
said_after base before [] = before
said_after base before (c ∷ cs) = said_after base (before * base + digit_of c) cs

-- a text of digits in a base that says n
pub record Says (base n : ℕ) (text : List ℕ) : Type 0 where
  pub each : (i : ℕ) → i < length text → (get_or text i 0 ≡ digit (digit_of (get_or text i 0))) × (digit_of (get_or text i 0) < base)
  pub number : said_after base 0 text ≡ n

-- n in decimal: at least one digit, and the first is no 0 unless it is the only one
pub record IsDecimal (n : ℕ) (text : List ℕ) : Type 0 where
  pub says : Says 10 n text
  pub some : 0 < length text
  pub no_zero_in_front : 1 < length text → get_or text 0 0 ≡ 48 → ⊥

-- n as eight hex digits
pub record IsHex (n : ℕ) (text : List ℕ) : Type 0 where
  pub says : Says 16 n text
  pub eight : length text ≡ 8
