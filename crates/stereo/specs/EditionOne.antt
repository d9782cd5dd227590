-- Stereo as it was before there were editions. From document 01, "Stereo". Assumes nothing.
-- a is channel 0's side information and b channel 1's; ls and rs are the channels' samples.
use Rattle.std.specs.Prelude.{Bool, not, cond, ◌||◌, List, [], ◌∷◌, ℕ, Float}
use Rattle.laws.specs.Checks.{Check, check, Answered}
use Rattle.laws.specs.Finite.{all_finite}
use Rattle.laws.specs.Lists.{tab}
use Rattle.side_info.specs.declared.SideInfo.{SideInfo}
use Rattle.side_info.specs.Side.{count_too_high, factor_too_high}
use Rattle.bands.specs.Bands.{table_too_high}
use Rattle.intensity.specs.EditionOne.{scaled_left, scaled_right, position_at, position_refused}
use Rattle.stereo.specs.Stereo.{mid_side_end, mid_side_left, mid_side_right}

-- the flags: ms, mid-side is on; on, intensity is
abbrev pub position : Bool → ℕ → SideInfo → SideInfo → ℕ → ℕ
position on t a b i = cond on (position_at t a b i) 7

-- "Then intensity", on what mid-side left
unfoldable pub stereo_left : ℕ → Bool → Bool → SideInfo → SideInfo → List Float → List Float → List Float
stereo_left t ms on a b ls rs = tab 576 (λ i. scaled_left (position on t a b i) (mid_side_left (mid_side_end ms a b) ls rs i))

unfoldable pub stereo_right : ℕ → Bool → Bool → SideInfo → SideInfo → List Float → List Float → List Float
stereo_right t ms on a b ls rs = tab 576 (λ i. scaled_right (position on t a b i) (mid_side_left (mid_side_end ms a b) ls rs i) (mid_side_right (mid_side_end ms a b) ls rs i))

-- "stereo (over both channels) 3, 4, 5, 8 and 9"
abbrev pub stereo_checks : ℕ → Bool → SideInfo → SideInfo → List Float → List Float → List Check
stereo_checks t on a b ls rs =
    check 3 (table_too_high t)
    ∷ check 4 (count_too_high a.count1 || count_too_high b.count1)
    ∷ check 5 (factor_too_high a || factor_too_high b)
    ∷ check 8 (position_refused on t a b)
    ∷ check 9 (not (all_finite ls) || not (all_finite rs))
    ∷ []

-- what `stereo` answers: its number, and what it leaves in the channels ls and rs
abbrev pub StereoAnswer : ℕ → Bool → Bool → SideInfo → SideInfo → List Float → List Float → ℕ → List Float × List Float → Type 0
StereoAnswer t ms on a b ls rs = Answered (stereo_checks t on a b ls rs) (ls, rs) (stereo_left t ms on a b ls rs, stereo_right t ms on a b ls rs)
