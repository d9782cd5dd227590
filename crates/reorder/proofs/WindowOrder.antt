-- Reorder against ISO/IEC 11172-3: a band's numbers come in window by window and go out in triples, one number of each window, each exactly once. Assumes nothing.
use mathlib.Core.Path.{◌≡◌, sym, ap, ◌∙◌}
use mathlib.Core.Bool.{true, false, and-false}
use mathlib.Core.List.{List}
use Prim.Native.Nat.{ℕ, ◌+◌, ◌*◌, ◌/◌, ◌%◌, ◌<◌, ◌≤◌}
use native.Mathlib.Nat.{mod-lt, mod-eq_of_lt, mul-add-mod_self_right, div-add-mod'}
use native.Mathlib.Omega.{arith}
use lib.Dec.{leb}
use lib.Ieee.{Float}
use Rattle.laws.specs.Lists.{at}
use Rattle.side_info.specs.declared.Edition.TheVariants.{First}
use Rattle.bands.specs.Bands.{KnownTable, width, short_starts, short_begin}
use Rattle.bands.proofs.ShortBands.{short-place-is, short_offset-is}
use Rattle.bands.proofs.Tables.{short-bands}
use Rattle.bands.proofs.Windows.{window-is, window-small}
use Rattle.reorder.specs.Reorder.{reordered_bands, reorders, source, target, reordered_from}
use Rattle.reorder.proofs.Triples.{triple_from, triple_inside, place-source, moved}

-- ---- within a band of width w

-- window by window and triple by triple are inverse to one another
there : (w o : ℕ) → o < 3 * w → 3 * ((o % 3 * w + o / 3) % w) + (o % 3 * w + o / 3) / w ≡ o
there w o h =
    let triple : o / 3 < w = omega arith in
    let rest : (o % 3 * w + o / 3) % w ≡ o / 3 = mul-add-mod_self_right (o % 3) w (o / 3) ∙ mod-eq_of_lt triple in
    let window : (o % 3 * w + o / 3) / w ≡ o % 3 = window-is (o % 3) w (o / 3) triple in
    rw (rest, window) (omega arith)

back : (w o : ℕ) → o < 3 * w → (3 * (o % w) + o / w) % 3 * w + (3 * (o % w) + o / w) / 3 ≡ o
back w o h = triple_from w (o % w) (o / w) (3 * (o % w) + o / w) (window-small w o h) (omega arith) ∙ div-add-mod' o w

triple_small : (w o : ℕ) → o < 3 * w → 3 * (o % w) + o / w < 3 * w
triple_small w o h =
    let some : 0 < w = omega arith in
    let some-rest : o % w < w = mod-lt o some in
    omega (arith, some-rest, window-small w o h)

-- ---- short band k of table t

-- edition 1 never reorders band 12; the standard does, and edition 2
pub last-band : (first : ℕ) (starts : List ℕ) (count : ℕ) → reorders (reordered_bands First) first starts count 12 ≡ false
last-band first starts count = and-false (leb first 12)

module _ (t k : ℕ) (h : KnownTable t) (hk : k < 13) where
  -- number j of window win comes to place win of triple j, in a band that is reordered
  pub window_order : (last first count : ℕ) (xs : List Float) → reorders last first (short_starts t) count k ≡ true → (win j : ℕ) → win < 3 → j < width (short_starts t) k
      → reordered_from last first (short_starts t) count xs (short_begin (short_starts t) k + (3 * j + win)) ≡ at xs (short_begin (short_starts t) k + (win * width (short_starts t) k + j))
  window_order last first count xs r win j hw hj =
      moved t k h hk (3 * j + win) (omega arith) last first count xs r
      ∙ ap (λ (o : ℕ). at xs (short_begin (short_starts t) k + o)) (triple_from (width (short_starts t) k) j win (3 * j + win) hw (omega arith))

  module _ (o : ℕ) (l : o < 3 * width (short_starts t) k) where
    place-target : target (short_starts t) (short_begin (short_starts t) k + o) ≡ short_begin (short_starts t) k + (3 * (o % width (short_starts t) k) + o / width (short_starts t) k)
    place-target = rw (short_offset-is 13 192 (short_starts t) (short-bands t h) k hk o l, short-place-is 13 192 (short_starts t) (short-bands t h) k hk o l)

    -- what comes to a place of the band is from a place of the band
    pub source-inside : let from = source (short_starts t) (short_begin (short_starts t) k + o) in
        (short_begin (short_starts t) k ≤ from) × (from < short_begin (short_starts t) (k + 1))
    source-inside = rw (place-source t k h hk o l) (omega arith, omega (arith, triple_inside (width (short_starts t) k) o l, (short-bands t h).rises k hk))

  -- each number of the band comes to exactly one place of it: `target` is inverse to `source`, on both sides
  pub target_of_source : (o : ℕ) → o < 3 * width (short_starts t) k → target (short_starts t) (source (short_starts t) (short_begin (short_starts t) k + o)) ≡ short_begin (short_starts t) k + o
  target_of_source o l =
      let w = width (short_starts t) k in
      rw (place-source t k h hk o l, place-target (o % 3 * w + o / 3) (triple_inside w o l), there w o l)

  pub source_of_target : (o : ℕ) → o < 3 * width (short_starts t) k → source (short_starts t) (target (short_starts t) (short_begin (short_starts t) k + o)) ≡ short_begin (short_starts t) k + o
  source_of_target o l =
      let w = width (short_starts t) k in
      rw (place-target o l, place-source t k h hk (3 * (o % w) + o / w) (triple_small w o l), back w o l)

  pub once : (o p : ℕ) → o < 3 * width (short_starts t) k → p < 3 * width (short_starts t) k
      → source (short_starts t) (short_begin (short_starts t) k + o) ≡ source (short_starts t) (short_begin (short_starts t) k + p) → o ≡ p
  once o p l m e =
      let same = sym (target_of_source o l) ∙ ap (target (short_starts t)) e ∙ target_of_source p m in
      omega (arith, same)
