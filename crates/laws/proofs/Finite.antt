-- A float is finite exactly between the two infinities; then it is no NaN. Assumes nothing.
use mathlib.Core.Path.{◌≡◌, refl, sym}
use mathlib.Core.Bool.{true, false, not, true≢false}
use lib.Dec.{T}
use lib.Ieee.{Float, nan, inf, fin, lt, is_nan}
use Rattle.laws.specs.Finite.{finite}

pub inside : (x : Float) → lt (inf true) x ≡ true → lt x (inf false) ≡ finite x
unfolding lt finite
inside nan h = refl
inside (inf true) h = absurd (true≢false (sym h))
inside (inf false) h = refl
inside (fin s m e) h = refl

pub outside : (x : Float) → lt (inf true) x ≡ false → false ≡ finite x
unfolding lt finite
outside nan h = refl
outside (inf s) h = refl
outside (fin s m e) h = absurd (true≢false h)

pub no_nan : (x : Float) → finite x ≡ true → T (not (is_nan x))
unfolding finite is_nan
no_nan nan h = absurd (true≢false (sym h))
no_nan (inf s) h = tt
no_nan (fin s m e) h = tt
