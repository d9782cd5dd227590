-- What the answers of the reader's parts say, by their tests. Assumes nothing.
use mathlib.Core.Path.{◌≡◌, refl}
use mathlib.Core.Bool.{Bool, true, false, cond, ◌||◌}
use Rattle.std.proofs.Common.{Result, Ok, Err}
use Rattle.granule.specs.declared.Part.{Part}
use Rattle.refusals.specs.declared.Refusal.{Refusal}
use Rattle.refusals.specs.declared.Refusal.TheVariants.{WrongChannels, WrongByte}
use Rattle.refusals.specs.Refusals.{number}
use Rattle.records.specs.declared.read.Top.{Top}

-- ---- the first bytes, by their two tests; `more` are the tests of the same number that come after

abbrev top : (count wrong : Bool) → Top → Result Top Refusal
top count wrong t = cond count (Err WrongChannels) (cond wrong (Err WrongByte) (Ok t))

pub top_refused : (count wrong more : Bool) (t : Top) {e : Refusal} → Err e ≡ top count wrong t → number e ≡ cond count 1 (cond (wrong || more) 12 0)
top_refused true wrong more t {e} h = let q : e ≡ WrongChannels = cc in rw q refl
top_refused false true more t {e} h = let q : e ≡ WrongByte = cc in rw q refl
top_refused false false more t h = absurd (cc)

pub top_is : (count wrong : Bool) (t : Top) {x : Top} → Ok x ≡ top count wrong t → (count ≡ false) × (wrong ≡ false) × (x ≡ t)
top_is true wrong t h = absurd (cc)
top_is false true t h = absurd (cc)
top_is false false t h = (refl, refl, (cc))

-- ---- a part, by its test

pub part_refused : (wrong : Bool) (p : Part) {e : Refusal} → Err e ≡ cond wrong (Err WrongByte) (Ok p) → (wrong ≡ true) × (number e ≡ 12)
part_refused true p {e} h = let q : e ≡ WrongByte = cc in (refl, rw q refl)
part_refused false p h = absurd (cc)

pub part_is : (wrong : Bool) (p : Part) {x : Part} → Ok x ≡ cond wrong (Err WrongByte) (Ok p) → (wrong ≡ false) × (x ≡ p)
part_is true p h = absurd (cc)
part_is false p h = (refl, (cc))
