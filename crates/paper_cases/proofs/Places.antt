-- A granule's samples: one place by the rules of the stages, so that only single numbers are computed, and whole lists stage by stage. Assumes nothing.
use mathlib.Core.Path.{◌≡◌, ap, ◌∙◌}
use mathlib.Core.Bool.{true, false, cond}
use mathlib.Core.List.{List, [], ◌∷◌}
use Prim.Native.Nat.{ℕ, ◌/◌, ◌%◌, ◌<◌}
use native.Mathlib.Omega.{arith}
use lib.Dec.{T, eqb, ltb, lit<}
use lib.Ieee.{Float, nan, binary32, add, neg}
use Rattle.laws.specs.Lists.{at}
use Rattle.laws.proofs.Lists.{get_d_tab}
use Rattle.side_info.specs.declared.BlockType.{BlockType}
use Rattle.side_info.specs.declared.Edition.{Edition}
use Rattle.side_info.specs.Editions.{by_edition}
use Rattle.requantize.specs.Requantize.{requantized_at, requantized}
use Rattle.reorder.specs.Reorder.{reordered_at, reordered}
use Rattle.intensity.specs.Intensity.{left_ratio, right_ratio, scaled}
use Rattle.stereo.specs.Stereo.{mid_side_end, mid, side, position, stereo_left, stereo_right}
use Rattle.antialias.specs.Antialias.{antialiased}
use Rattle.imdct.specs.Imdct.{place_of}
use Rattle.hybrid.specs.Hybrid.{window_kind, subband_of, places_of, hybrid_at, hybrid}
use Rattle.inversion.specs.Inversion.{inverted_at, inverted}
use Rattle.history.specs.declared.Channel.{Channel}
use Rattle.granule.specs.declared.Part.{Part}
use Rattle.granule.specs.declared.Granule.{Granule}
use Rattle.granule.specs.Granule.{two}
use Rattle.backend.specs.Whole.{edition_in, part_samples, left_samples, right_samples, subbands}
use Rattle.paper_cases.specs.Cases.{Value, sample}
use Rattle.paper_cases.specs.Editions.{left_at, right_at}

pub both : {u v w x : Value} → u ≡ w → v ≡ x → (u ∷ v ∷ []) ≡ (w ∷ x ∷ [])
both e f = rw (e, f)

-- that reorder takes place i of a part from place j
abbrev From : Edition → ℕ → Part → ℕ → ℕ → Type 0
From e t p i j = (xs : List Float) → reordered_at e t p.side.block_type p.side.count1 xs i ≡ at xs j

-- the number at place j of a part, requantized
abbrev number_of : ℕ → Part → ℕ → Float
number_of t p j = requantized_at t p.side p.spectrum j

part_at : (e : Edition) (t : ℕ) (p : Part) (i j : ℕ) → i < 576 → j < 576 → From e t p i j → at (part_samples e t p) i ≡ number_of t p j
unfolding part_samples reordered requantized
part_at e t p i j h l from =
    let xs = requantized t p.side p.spectrum in
    get_d_tab 576 (reordered_at e t p.side.block_type p.side.count1 xs) i nan h ∙ from xs ∙ get_d_tab 576 (requantized_at t p.side p.spectrum) j nan l

-- place i of one channel, where reorder takes it from place j
pub alone_at : (g : Granule) (i j : ℕ) → T (ltb i 576) → T (ltb j 576) → From (edition_in g) g.table g.left i j → two g ≡ false → left_at i g ≡ sample (number_of g.table g.left j)
unfolding left_samples
alone_at g i j h l from q = rw (q, part_at (edition_in g) g.table g.left i j (lit< h) (lit< l) from)

-- ---- stereo: x and y are a place's numbers before it

abbrev left_mid : Granule → ℕ → Float → Float → Float
left_mid g i x y = cond (ltb i (mid_side_end g.mid_side g.left.side g.right.side)) (mid x y) x

abbrev right_side : Granule → ℕ → Float → Float → Float
right_side g i x y = cond (ltb i (mid_side_end g.mid_side g.left.side g.right.side)) (side x y) y

abbrev scaled_at : (ℕ → Float) → Granule → ℕ → (x y old : Float) → Float
scaled_at ratio g i x y old =
    scaled ratio (position (edition_in g) g.intensity g.table g.left.side g.right.side i) (by_edition (edition_in g) (left_mid g i x y) x) old

abbrev left_rule : Granule → ℕ → Float → Float → Float
left_rule g i x y = scaled_at left_ratio g i x y (left_mid g i x y)

abbrev right_rule : Granule → ℕ → Float → Float → Float
right_rule g i x y = scaled_at right_ratio g i x y (right_side g i x y)

-- place i of two channels, where reorder takes it from place j in both
module _ (g : Granule) (i j : ℕ) (h : T (ltb i 576)) (l : T (ltb j 576)) (from-left : From (edition_in g) g.table g.left i j) (from-right : From (edition_in g) g.table g.right i j) where
  abbrev x : Float
  x = number_of g.table g.left j

  abbrev y : Float
  y = number_of g.table g.right j

  x-is : at (part_samples (edition_in g) g.table g.left) i ≡ x
  x-is = part_at (edition_in g) g.table g.left i j (lit< h) (lit< l) from-left

  y-is : at (part_samples (edition_in g) g.table g.right) i ≡ y
  y-is = part_at (edition_in g) g.table g.right i j (lit< h) (lit< l) from-right

  left-at : two g ≡ true → at (left_samples g) i ≡ left_rule g i x y
  unfolding left_samples stereo_left
  left-at q = rw q (get_d_tab 576 _ i nan (lit< h) ∙ rw (x-is, y-is))

  right-at : at (right_samples g) i ≡ right_rule g i x y
  unfolding right_samples stereo_right
  right-at = get_d_tab 576 _ i nan (lit< h) ∙ rw (x-is, y-is)

  pub both_at : two g ≡ true → (left_at i g ∷ right_at i g ∷ []) ≡ (sample (left_rule g i x y) ∷ sample (right_rule g i x y) ∷ [])
  both_at q = both (ap sample (left-at q)) (ap sample right-at)

-- ---- whole lists, stage by stage

module _ (e : Edition) (t : ℕ) (p : Part) {xs ys : List Float} where
  pub part-is : requantized t p.side p.spectrum ≡ xs → reordered e t p.side.block_type p.side.count1 xs ≡ ys → part_samples e t p ≡ ys
  unfolding part_samples
  part-is q r = rw q r

module _ (g : Granule) {xs ys : List Float} (l : part_samples (edition_in g) g.table g.left ≡ xs) (r : part_samples (edition_in g) g.table g.right ≡ ys) where
  pub left_is : two g ≡ true → left_samples g ≡ stereo_left (edition_in g) g.table g.mid_side g.intensity g.left.side g.right.side xs ys
  unfolding left_samples
  left_is q = rw (q, l, r)

  pub right_is : right_samples g ≡ stereo_right (edition_in g) g.table g.mid_side g.intensity g.left.side g.right.side xs ys
  unfolding right_samples
  right_is = rw (l, r)

-- ---- a place of what synthesis takes

-- a number as inversion leaves it at place k
abbrev inverted_to : ℕ → Float → Float
inverted_to k x = cond (eqb (k / 18 % 2) 1) (cond (eqb (k % 18 % 2) 1) (neg x) x) x

-- of the samples xs after antialias
abbrev pub taken_from : Edition → BlockType → List Float → List Float → ℕ → Float
taken_from e kind xs os k = inverted_to k (add binary32 (place_of e (window_kind kind (k / 18)) (subband_of xs (k / 18)) (k % 18)) (at os k))

pub taken_at : (e : Edition) (kind : BlockType) (xs : List Float) (c : Channel) (k : ℕ) → k < 576 → at (subbands e kind xs c) k ≡ taken_from e kind (antialiased kind xs) c.overlap k
unfolding subbands inverted hybrid places_of
taken_at e kind xs c k h =
    let ys = antialiased kind xs in
    get_d_tab 576 (inverted_at (hybrid e kind ys c.overlap)) k nan h
    ∙ ap (inverted_to k)
    (get_d_tab 576 (hybrid_at e kind ys c.overlap) k nan h
    ∙ ap (λ (x : Float). add binary32 x (at c.overlap k)) (get_d_tab 36 (place_of e (window_kind kind (k / 18)) (subband_of ys (k / 18))) (k % 18) nan (omega arith)))
