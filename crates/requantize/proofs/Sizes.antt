-- Requantize of the numbers' sizes: what is accepted stays so, and with the numbers' signs it is that of the numbers. Assumes nothing.
use mathlib.Core.Path.{◌≡◌, refl, sym, ap, subst, ◌∙◌}
use mathlib.Core.Bool.{Bool, true, false, not, cond}
use mathlib.Core.List.{List, [], ◌∷◌}
use Prim.Native.Nat.{ℕ, suc, ◌<◌}
use lib.Dec.{leb, ltb}
use lib.IntN.{ℤ, pos, negsuc, nat_abs}
use lib.Ieee.{Float, nan, binary32, of_int}
use borrow.Author.Tests.{not-false}
use Rattle.laws.specs.Checks.{first, check}
use Rattle.laws.specs.Lists.{at, tab}
use Rattle.laws.proofs.Checks.{all-each, all_if, passes}
use Rattle.laws.proofs.Lists.{tab-place, tab-same}
use Rattle.laws.proofs.Negation.{round-neg}
use Rattle.powers.specs.Powers.{signed}
use Rattle.side_info.specs.declared.SideInfo.{SideInfo}
use Rattle.side_info.specs.declared.BlockType.{BlockType}
use Rattle.side_info.specs.declared.BlockType.TheVariants.{Long, Short, Mixed, Start, End}
use Rattle.side_info.specs.Kinds.{by_kind}
use Rattle.side_info.specs.Side.{count_too_high, factor_too_high, subblock_gain_too_high}
use Rattle.bands.specs.Bands.{table_too_high, short_starts, short_band, short_begin}
use Rattle.requantize.specs.Requantize.{number_at, requantized_at, requantized, requantize_checks}
use Rattle.requantize.specs.Parts.{size_at, sizes}

-- ---- the checks

-- numbers up to 8206 in size pass where others pass
pub pass_too : (t : ℕ) (s : SideInfo) (xs ys : List ℤ) → ((i : ℕ) → i < 576 → leb (nat_abs (number_at ys i)) 8206 ≡ true)
    → first (requantize_checks t s xs) ≡ 0 → first (requantize_checks t s ys) ≡ 0
pass_too t s xs ys each p =
    let large = passes 7 (requantize_checks t s xs) tt p in
    subst (λ (b : Bool). first (check 3 (table_too_high t) ∷ check 4 (count_too_high s.count1) ∷ check 5 (factor_too_high s) ∷ check 6 (subblock_gain_too_high s) ∷ check 7 b ∷ []) ≡ 0)
    (large ∙ sym (ap not (all_if 576 (λ i. leb (nat_abs (number_at ys i)) 8206) each))) p

pub sizes_pass : (t : ℕ) (s : SideInfo) (xs : List ℤ) {ys : List ℤ} → ys ≡ sizes xs → first (requantize_checks t s xs) ≡ 0 → first (requantize_checks t s ys) ≡ 0
sizes_pass t s xs {ys} e p =
    let each = all-each 576 (λ i. leb (nat_abs (number_at xs i)) 8206) (not-false _ (passes 7 (requantize_checks t s xs) tt p)) in
    pass_too t s xs ys (λ i h. rw (tab-place 576 (size_at xs) i (pos 0) e h) (each i h)) p

-- ---- the signs

-- a sign goes through the choice by the block type, and into each of its cases
into : (f : Float → Float) (kind : BlockType) (a b m : Bool) (l s : Float) {r v : Float} → f r ≡ v
    → f (by_kind kind (cond a l r) (cond b s r) (cond m l (cond b s r))) ≡ by_kind kind (cond a (f l) v) (cond b (f s) v) (cond m (f l) (cond b (f s) v))
into f Long true b m l s e = refl
into f Long false b m l s e = e
into f Start true b m l s e = refl
into f Start false b m l s e = e
into f End true b m l s e = refl
into f End false b m l s e = e
into f Short a true m l s e = refl
into f Short a false m l s e = e
into f Mixed a b true l s e = refl
into f Mixed a true false l s e = refl
into f Mixed a false false l s e = e

-- the raw number has the sign of its number
raw-signed : (x : ℤ) → signed x (of_int binary32 (pos (nat_abs x))) ≡ of_int binary32 x
unfolding of_int
raw-signed (pos n) = refl
raw-signed (negsuc n) = sym (round-neg binary32 false (suc n) 1)

module _ (t : ℕ) (s : SideInfo) (xs : List ℤ) {ys : List ℤ} (e : ys ≡ sizes xs) where
  pub signed-at : (i : ℕ) → i < 576 → signed (number_at xs i) (requantized_at t s ys i) ≡ requantized_at t s xs i
  signed-at i h =
      let x = number_at xs i in
      let short = ltb (short_begin (short_starts t) (short_band (short_starts t) i)) s.count1 in
      rw (tab-place 576 (size_at xs) i (pos 0) e h) (into (signed x) s.block_type (ltb i s.count1) short (ltb i 36) _ _ (raw-signed x))

  pub sizes-signed : {mid out : List Float} → mid ≡ requantized t s ys → out ≡ tab 576 (λ i. signed (number_at xs i) (at mid i)) → out ≡ requantized t s xs
  unfolding requantized
  sizes-signed {mid} em eo =
      eo
      ∙ tab-same 576 (λ i. signed (number_at xs i) (at mid i)) (requantized_at t s xs)
      (λ i h. ap (signed (number_at xs i)) (tab-place 576 (requantized_at t s ys) i nan em h) ∙ signed-at i h)
