-- The table of refusals: the number of each, what an answer tells, and a straight line of checks. Assumes nothing.
use Rattle.std.specs.Prelude.{Bool, true, false, List, [], ◌∷◌, ℕ, Result, Ok, Err, codes}
use Rattle.laws.specs.Checks.{Check, check}
use Rattle.refusals.specs.declared.Refusal.{Refusal}
use Rattle.refusals.specs.declared.Refusal.TheVariants.{WrongChannels, StereoOfOne, TableTooHigh, CountTooHigh, FactorTooHigh, SubblockGainTooHigh, NumberTooLarge, PositionTooHigh, SamplesNotFinite, HistoryNotFinite, RoomTooShort, WrongByte, RecordCutOff, TooManyRecords, WrongEdition}

-- the number in document 01's table, and document 02's 18
abbrev pub number : Refusal → ℕ
number WrongChannels = 1
number StereoOfOne = 2
number TableTooHigh = 3
number CountTooHigh = 4
number FactorTooHigh = 5
number SubblockGainTooHigh = 6
number NumberTooLarge = 7
number PositionTooHigh = 8
number SamplesNotFinite = 9
number HistoryNotFinite = 10
number RoomTooShort = 11
number WrongByte = 12
number RecordCutOff = 13
number TooManyRecords = 14
number WrongEdition = 18

-- what the number stands for, in a few words of our own: a line for each row of the paper's table
abbrev pub words : Refusal → List ℕ
words WrongChannels = codes "the channel count is not 1 or 2"
words StereoOfOne = codes "mid-side or intensity is asked for with one channel"
words TableTooHigh = codes "the band table is above 2"
words CountTooHigh = codes "count1 is above 576"
words FactorTooHigh = codes "a scale factor is above 15"
words SubblockGainTooHigh = codes "a subblock gain is above 7"
words NumberTooLarge = codes "a spectrum number is beyond -8206 to 8206"
words PositionTooHigh = codes "a band that intensity applies to has a position above 7"
words SamplesNotFinite = codes "a sample is infinite or not a number"
words HistoryNotFinite = codes "a number of the history is infinite or not a number"
words RoomTooShort = codes "the room for outputs is too short"
words WrongByte = codes "a byte of the record is not one that it may be"
words RecordCutOff = codes "the record is cut off"
words TooManyRecords = codes "a record follows the last that can be counted"
words WrongEdition = codes "the edition is not 1 or 2"

-- what an answer tells: 0 where nothing is refused, and else the number of the refusal
abbrev pub told : {A : Type 0} → Result A Refusal → ℕ
told (Ok a) = 0
told (Err r) = number r

-- one check: its refusal, if it fails
abbrev pub refused_if : Bool → Refusal → Result (Unit {0}) Refusal
refused_if true r = Err r
refused_if false r = Ok tt

-- ---- a straight line of checks, each with a `?`

-- one check more: a refusal so far is passed on, and where there is none the check is made
abbrev pub checked : Result (Unit {0}) Refusal → Bool → Refusal → Result (Unit {0}) Refusal
checked (Ok u) b r = refused_if b r
checked (Err k) b r = Err k

-- what a line of checks answers, each whether it fails and its refusal, after what was answered before it
abbrev pub line : Result (Unit {0}) Refusal → List (Bool × Refusal) → Result (Unit {0}) Refusal
line before [] = before
line before (c ∷ cs) = line (checked before c.0 c.1) cs

-- the same checks by their numbers
abbrev pub checks_of : List (Bool × Refusal) → List Check
checks_of [] = []
checks_of (c ∷ cs) = check (number c.1) c.0 ∷ checks_of cs
