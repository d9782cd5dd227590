-- What a test of each used channel says of the left one, and of the right one where both are used. Assumes nothing.
use mathlib.Core.Path.{◌≡◌, refl, sym}
use mathlib.Core.Bool.{Bool, true, false, true≢false, not, ◌&&◌, ◌||◌}

pub used_left : (both l r : Bool) → (l && (not both || r)) ≡ true → l ≡ true
used_left both true r e = refl
used_left both false r e = absurd (true≢false (sym e))

pub used_right : (both l r : Bool) → both ≡ true → (l && (not both || r)) ≡ true → r ≡ true
used_right true true r t e = e
used_right true false r t e = absurd (true≢false (sym e))
used_right false l r t e = absurd (true≢false (sym t))
