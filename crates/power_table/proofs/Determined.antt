-- Any two tables that the promise of the powers allows are equal, any two of its first part and of its second, and any two small ones with signs. Assumes nothing.
use mathlib.Core.Path.{◌≡◌, sym, ap, subst, ◌∙◌}
use mathlib.Core.Bool.{false}
use mathlib.Core.List.{List}
use Prim.Native.Nat.{ℕ, zero, suc, ◌+◌, ◌-◌, ◌^◌, ◌<◌}
use native.Mathlib.Decide.{dec_lt}
use native.Mathlib.Omega.{arith}
use lib.ListN.{get_or, length}
use lib.Seq.{ext_get_or}
use lib.Ieee.{Float, binary32, of_bits}
use lib.Ieee.Exact.{HasValue}
use Rattle.nearest.specs.Nearest.{units}
use Rattle.nearest.proofs.Order.{same_pattern}
use Rattle.nearest.proofs.Value.{units-value, same_size}
use Rattle.power_table.specs.Power.{PowerTable, LowTable, HighTable, SignedTable}

-- different patterns of finite f32 that are not negative stand for different floats: they are of different sizes
one_to_one : (a b : ℕ) → a < 0x7f80_0000 → b < 0x7f80_0000 → of_bits binary32 a ≡ of_bits binary32 b → a ≡ b
one_to_one a b h g e =
    same_pattern a b
    (same_size (of_bits binary32 a) (units a) (units b) (2 ^ 149) (units-value a h) (subst (λ (x : Float). HasValue x false (units b) (2 ^ 149)) (sym e) (units-value b g)))

module _ {t u : List ℕ} (p : PowerTable t) (q : PowerTable u) where
  same_length : length t ≡ length u
  same_length = omega arith

  same-entry : (n : ℕ) → n < 8207 → get_or t n 0 ≡ get_or u n 0
  same-entry n h =
      one_to_one (get_or t n 0) (get_or u n 0) (p.number n (omega arith)) (q.number n (omega arith)) (p.entry n (omega arith) ∙ sym (q.entry n (omega arith)))

pub determined : {t u : List ℕ} → PowerTable t → PowerTable u → t ≡ u
determined {t} {u} p q = ext_get_or 0 t u (same_length p q) (λ n h. same-entry p q n (omega arith))

module _ {t u : List ℕ} (p : LowTable t) (q : LowTable u) where
  low-length : length t ≡ length u
  low-length = omega arith

  low-entry : (n : ℕ) → n < 4104 → get_or t n 0 ≡ get_or u n 0
  low-entry n h =
      one_to_one (get_or t n 0) (get_or u n 0) (p.number n (omega arith)) (q.number n (omega arith)) (p.entry n (omega arith) ∙ sym (q.entry n (omega arith)))

pub low_determined : {t u : List ℕ} → LowTable t → LowTable u → t ≡ u
low_determined {t} {u} p q = ext_get_or 0 t u (low-length p q) (λ n h. low-entry p q n (omega arith))

module _ {t u : List ℕ} (p : HighTable t) (q : HighTable u) where
  high_length : length t ≡ length u
  high_length = omega arith

  -- two entries that are the same float
  high_same : (k : ℕ) → k < 4104 → of_bits binary32 (get_or t k 0) ≡ of_bits binary32 (get_or u k 0) → get_or t k 0 ≡ get_or u k 0
  high_same k h e = one_to_one (get_or t k 0) (get_or u k 0) (p.number k (omega arith)) (q.number k (omega arith)) e

  -- entry 0 is the power of 1, and entry k behind it that of k + 4103
  high_entry : (k : ℕ) → k < 4104 → get_or t k 0 ≡ get_or u k 0
  high_entry zero h = high_same 0 h (p.one ∙ sym q.one)
  high_entry (suc k) h = high_same (suc k) h (rw e at (p.entry (suc k + 4103) (omega arith) (omega arith) ∙ sym (q.entry (suc k + 4103) (omega arith) (omega arith))))
    where
      e : suc k + 4103 - 4103 ≡ suc k
      e = omega arith

pub high_determined : {t u : List ℕ} → HighTable t → HighTable u → t ≡ u
high_determined {t} {u} p q = ext_get_or 0 t u (high_length p q) (λ n h. high_entry p q n (omega arith))

module _ {t u : List ℕ} (p : SignedTable t) (q : SignedTable u) where
  signed-length : length t ≡ length u
  signed-length = omega arith

  -- the power of n, and that of -n
  from-middle : (n : ℕ) → n < 256 → get_or t (255 + n) 0 ≡ get_or u (255 + n) 0
  from-middle n h =
      one_to_one (get_or t (255 + n) 0) (get_or u (255 + n) 0) (p.number n (omega arith)) (q.number n (omega arith)) (p.entry n (omega arith) ∙ sym (q.entry n (omega arith)))

  before_middle : (n : ℕ) → 0 < n → n < 256 → get_or t (255 - n) 0 ≡ get_or u (255 - n) 0
  before_middle n l h = p.opposite n l (omega arith) ∙ ap (λ (b : ℕ). 0x8000_0000 + b) (from-middle n h) ∙ sym (q.opposite n l (omega arith))

  signed-entry : (k : ℕ) → k < 511 → get_or t k 0 ≡ get_or u k 0
  signed-entry k h = split (dec_lt k 255)
    where
      at_one : (i : ℕ) → i ≡ k → get_or t i 0 ≡ get_or u i 0 → get_or t k 0 ≡ get_or u k 0
      at_one i e same = rw (← e) same

      split : Dec (k < 255) → get_or t k 0 ≡ get_or u k 0
      split (yes l) = at_one (255 - (255 - k)) (omega arith) (before_middle (255 - k) (omega arith) (omega arith))
      split (no l) = at_one (255 + (k - 255)) (omega arith) (from-middle (k - 255) (omega arith))

pub signed_determined : {t u : List ℕ} → SignedTable t → SignedTable u → t ≡ u
signed_determined {t} {u} p q = ext_get_or 0 t u (signed-length p q) (λ n h. signed-entry p q n (omega arith))
