-- Stereo: mid-side, then intensity (crate intensity), over both channels. From document 01, "Stereo", and document 02, request 5. Assumes nothing.
-- e is the edition; a is channel 0's side information and b channel 1's; ls and rs are the channels' samples.
use Rattle.std.specs.Prelude.{Bool, not, cond, ◌||◌, List, [], ◌∷◌, ℕ, max, ltb, Float}
use Rattle.std.specs.Float.{binary32}
use Rattle.std.specs.Float.Ieee.{add, sub, mul}
use Rattle.laws.specs.Checks.{Check, check, Answered}
use Rattle.laws.specs.Finite.{all_finite}
use Rattle.laws.specs.Lists.{at, tab}
use Rattle.tables.specs.Stereo.{half_root}
use Rattle.side_info.specs.declared.Edition.{Edition}
use Rattle.side_info.specs.declared.SideInfo.{SideInfo}
use Rattle.side_info.specs.Editions.{wrong_edition, edition_of, by_edition}
use Rattle.side_info.specs.Side.{count_too_high, factor_too_high}
use Rattle.bands.specs.Bands.{table_too_high}
use Rattle.intensity.specs.Intensity.{left_ratio, right_ratio, scaled, position_at, position_refused}

-- ---- mid-side

-- "below the larger `count1`", and where it is off below 0
abbrev pub mid_side_end : Bool → SideInfo → SideInfo → ℕ
mid_side_end ms a b = cond ms (max a.count1 b.count1) 0

-- "(l+r) × c and (l-r) × c with c the f32 nearest to the root of one half, rounding each step"
abbrev pub mid : Float → Float → Float
mid l r = mul binary32 (add binary32 l r) half_root

abbrev pub side : Float → Float → Float
side l r = mul binary32 (sub binary32 l r) half_root

-- place i of the left and of the right channel, where mid-side is on below n
abbrev pub mid_side_left : ℕ → List Float → List Float → ℕ → Float
mid_side_left n ls rs i = cond (ltb i n) (mid (at ls i) (at rs i)) (at ls i)

abbrev pub mid_side_right : ℕ → List Float → List Float → ℕ → Float
mid_side_right n ls rs i = cond (ltb i n) (side (at ls i) (at rs i)) (at rs i)

-- ---- the stage

-- the flags: ms, mid-side is on; on, intensity is. The position of place i: 7 where intensity is not applied to it
abbrev pub position : Edition → Bool → ℕ → SideInfo → SideInfo → ℕ → ℕ
position e on t a b i = cond on (position_at e t a b i) 7

-- the left number that intensity takes: "Then intensity", on what mid-side left; in edition 2 "mid-side skips each number that intensity is applied to", so that it is the one before
abbrev pub intensity_from : Edition → ℕ → List Float → List Float → ℕ → Float
intensity_from e n ls rs i = by_edition e (mid_side_left n ls rs i) (at ls i)

-- what position 7 leaves is what mid-side left: in edition 2 too "a band with position 7 keeps mid-side"
unfoldable pub stereo_left : Edition → ℕ → Bool → Bool → SideInfo → SideInfo → List Float → List Float → List Float
stereo_left e t ms on a b ls rs =
    let n = mid_side_end ms a b in
    tab 576 (λ i. scaled left_ratio (position e on t a b i) (intensity_from e n ls rs i) (mid_side_left n ls rs i))

unfoldable pub stereo_right : Edition → ℕ → Bool → Bool → SideInfo → SideInfo → List Float → List Float → List Float
stereo_right e t ms on a b ls rs =
    let n = mid_side_end ms a b in
    tab 576 (λ i. scaled right_ratio (position e on t a b i) (intensity_from e n ls rs i) (mid_side_right n ls rs i))

-- "stereo (over both channels) 3, 4, 5, 8 and 9", and 18 first; n is the edition's number
abbrev pub stereo_checks : (n t : ℕ) → Bool → SideInfo → SideInfo → List Float → List Float → List Check
stereo_checks n t on a b ls rs =
    check 18 (wrong_edition n)
    ∷ check 3 (table_too_high t)
    ∷ check 4 (count_too_high a.count1 || count_too_high b.count1)
    ∷ check 5 (factor_too_high a || factor_too_high b)
    ∷ check 8 (position_refused (edition_of n) on t a b)
    ∷ check 9 (not (all_finite ls) || not (all_finite rs))
    ∷ []

-- what `stereo` answers: its number, and what it leaves in the channels ls and rs
abbrev pub StereoAnswer : (n t : ℕ) → Bool → Bool → SideInfo → SideInfo → List Float → List Float → ℕ → List Float × List Float → Type 0
StereoAnswer n t ms on a b ls rs = Answered (stereo_checks n t on a b ls rs) (ls, rs) (stereo_left (edition_of n) t ms on a b ls rs, stereo_right (edition_of n) t ms on a b ls rs)
