-- Each refusal has a number of its own, none has 0, and so what an answer tells determines it. Assumes nothing.
use mathlib.Core.Path.{◌≡◌, refl, sym, ap, ◌∙◌}
use mathlib.Core.Bool.{cond}
use native.Mathlib.Omega.{arith}
use Prim.Native.Nat.{ℕ}
use Rattle.std.specs.Prelude.{Result, Ok, Err}
use lib.Dec.{eqb}
use Rattle.refusals.specs.declared.Refusal.{Refusal}
use Rattle.refusals.specs.declared.Refusal.TheVariants.{WrongChannels, StereoOfOne, TableTooHigh, CountTooHigh, FactorTooHigh, SubblockGainTooHigh, NumberTooLarge, PositionTooHigh}
use Rattle.refusals.specs.declared.Refusal.TheVariants.{SamplesNotFinite, HistoryNotFinite, RoomTooShort, WrongByte, RecordCutOff, TooManyRecords, WrongEdition}
use Rattle.refusals.specs.Refusals.{number, told}

pub not_0 : (r : Refusal) → number r ≡ 0 → ⊥
not_0 WrongChannels e = omega arith
not_0 StereoOfOne e = omega arith
not_0 TableTooHigh e = omega arith
not_0 CountTooHigh e = omega arith
not_0 FactorTooHigh e = omega arith
not_0 SubblockGainTooHigh e = omega arith
not_0 NumberTooLarge e = omega arith
not_0 PositionTooHigh e = omega arith
not_0 SamplesNotFinite e = omega arith
not_0 HistoryNotFinite e = omega arith
not_0 RoomTooShort e = omega arith
not_0 WrongByte e = omega arith
not_0 RecordCutOff e = omega arith
not_0 TooManyRecords e = omega arith
not_0 WrongEdition e = omega arith

-- the refusal of a number
numbered : ℕ → Refusal
numbered n =
    cond (eqb n 1) WrongChannels
    (cond (eqb n 2) StereoOfOne
    (cond (eqb n 3) TableTooHigh
    (cond (eqb n 4) CountTooHigh
    (cond (eqb n 5) FactorTooHigh
    (cond (eqb n 6) SubblockGainTooHigh
    (cond (eqb n 7) NumberTooLarge
    (cond (eqb n 8) PositionTooHigh
    (cond (eqb n 9) SamplesNotFinite
    (cond (eqb n 10) HistoryNotFinite
    (cond (eqb n 11) RoomTooShort
    (cond (eqb n 12) WrongByte
    (cond (eqb n 13) RecordCutOff
    (cond (eqb n 14) TooManyRecords WrongEdition)))))))))))))

back : (r : Refusal) → numbered (number r) ≡ r
unfolding numbered
back WrongChannels = refl
back StereoOfOne = refl
back TableTooHigh = refl
back CountTooHigh = refl
back FactorTooHigh = refl
back SubblockGainTooHigh = refl
back NumberTooLarge = refl
back PositionTooHigh = refl
back SamplesNotFinite = refl
back HistoryNotFinite = refl
back RoomTooShort = refl
back WrongByte = refl
back RecordCutOff = refl
back TooManyRecords = refl
back WrongEdition = refl

pub one_each : {r s : Refusal} → number r ≡ number s → r ≡ s
one_each {r} {s} e = sym (back r) ∙ ap numbered e ∙ back s

-- an answer that tells 0 is no refusal, and two that tell the same are refused alike; with what stands beside them they are equal
pub determined : {A : Type 0} (r s : Result A Refusal) → told r ≡ told s → ((x y : A) → r ≡ Ok x → s ≡ Ok y → x ≡ y) → r ≡ s
determined (Ok x) (Ok y) e same = ap Ok (same x y refl refl)
determined (Ok x) (Err k) e same = absurd (not_0 k (sym e))
determined (Err j) (Ok y) e same = absurd (not_0 j e)
determined (Err j) (Err k) e same = ap Err (one_each e)
