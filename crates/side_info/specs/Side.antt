-- What document 01's table of refusals says of one channel's side information and numbers. Assumes nothing.
use Rattle.std.specs.Prelude.{Bool, not, ◌&&◌, List, ℕ, leb, ltb, ℤ, pos, nat_abs, get_or}
use Rattle.laws.specs.Checks.{all_to, all_at_most}
use Rattle.side_info.specs.declared.SideInfo.{SideInfo}

-- 4: "`count1` above 576"
abbrev pub count_too_high : ℕ → Bool
count_too_high count = ltb 576 count

-- 5: "any of the 22 long or 39 short scale factors above 15"
abbrev pub factor_too_high : SideInfo → Bool
factor_too_high s = not (all_at_most 15 s.scalefac_l && all_at_most 15 s.scalefac_s)

-- 6: "a subblock gain above 7"
abbrev pub subblock_gain_too_high : SideInfo → Bool
subblock_gain_too_high s = not (all_at_most 7 s.subblock_gain)

-- 7: "a spectrum number beyond -8206 to 8206"
abbrev pub number_too_large : List ℤ → Bool
number_too_large xs = not (all_to 576 (λ i. leb (nat_abs (get_or xs i (pos 0))) 8206))

-- whether each number lies in -255 to 255
abbrev pub numbers_small : List ℤ → Bool
numbers_small xs = all_to 576 (λ i. leb (nat_abs (get_or xs i (pos 0))) 255)

-- whether each lies in -4103 to 4103
abbrev pub numbers_low : List ℤ → Bool
numbers_low xs = all_to 576 (λ i. leb (nat_abs (get_or xs i (pos 0))) 4103)
