-- The two ratios are those of the position, 7 leaves both channels, and no other position gets here. Assumes nothing.
use mathlib.Core.Path.{◌≡◌, refl, sym, ap, ◌∙◌}
use mathlib.Core.Bool.{Bool, true, false, cond}
use Prim.Native.Nat.{ℕ, ◌≤◌, ◌<◌}
use native.Mathlib.Decide.{dec_lt}
use native.Mathlib.Omega.{arith}
use borrow.Author.Tests.{lt-ltb, ne_eqb}
use lib.Dec.{eqb}
use Rattle.std.proofs.Common.{Option, Ok, Some, None}
use lib.Ieee.{Float, nan, binary32, mul}
use Rattle.laws.specs.Lists.{at}
use Rattle.laws.proofs.Lists.{tab-same, tab-at}
use Rattle.intensity.specs.declared.Ratios.{Ratios}
use Rattle.intensity.specs.Intensity.{left_ratio, right_ratio, choice_of, scaled, in_run}
use Rattle.intensity.proofs.band_runs.scale_by_position.Goals as goal

-- what the ratios of a choice are
record Scales (p : ℕ) (by : Ratios) : Type 0 where
  seven : eqb p 7 ≡ false
  left : by.left ≡ left_ratio p
  right : by.right ≡ right_ratio p

module _ (p : ℕ) (h : p ≤ 7) where
  scales : (by : Ratios) → choice_of p ≡ Ok (Some by) → Scales p by
  scales by e = go (dec_lt p 7)
    where
      go : Dec (p < 7) → Scales p by
      go (yes k) =
          let q : Ok (Some (record { left = left_ratio p; right = right_ratio p })) ≡ Ok (Some by) = (rw (lt-ltb p 7 k) at e) in
          let s : record { left = left_ratio p; right = right_ratio p } ≡ by = cc in
          record { seven = ne_eqb p 7 (λ q. omega arith); left = sym (ap (λ (x : Ratios). x.left) s); right = sym (ap (λ (x : Ratios). x.right) s) }
      go (no k) = let e7 : p ≡ 7 = omega arith in let q = rw e7 at e in absurd (cc)

  leaves : choice_of p ≡ Ok None → p ≡ 7
  leaves e = go (dec_lt p 7)
    where
      go : Dec (p < 7) → p ≡ 7
      go (yes k) = let q = rw (lt-ltb p 7 k) at e in absurd (cc)
      go (no k) = omega arith

-- a place, within the run or not, by either ratio
module _ (p : ℕ) (ratio : ℕ → Float) where
  place-scaled : {by : Float} → eqb p 7 ≡ false → by ≡ ratio p → (here : Bool) (l x : Float) → cond here (mul binary32 by l) x ≡ scaled ratio (cond here p 7) l x
  place-scaled seven e true l x = rw (seven, e)
  place-scaled seven e false l x = refl

  place_kept : p ≡ 7 → (here : Bool) (l x : Float) → x ≡ scaled ratio (cond here p 7) l x
  place_kept e true l x = rw e
  place_kept e false l x = refl

pub returns-in-Some : goal.returns-in-Some
returns-in-Some c =
    let run = c.args.run in
    let w = scales run.position c.requires c.in-Some.by (sym c.ratios_of.ensures ∙ ap (λ (o : Option Ratios). Ok o) c.in-Some.is) in
    let here = in_run run.start run.step run.count in
    let f = c.args.from.now in record {
      left = c.scale_run.ensures.left ∙ tab-same 576 _ _ (λ i h. place-scaled run.position left_ratio w.seven w.left (here i) (at f i) (at c.args.left.now i));
      right = c.scale_run.ensures.right ∙ tab-same 576 _ _ (λ i h. place-scaled run.position right_ratio w.seven w.right (here i) (at f i) (at c.args.right.now i));
    }

pub returns-in_default : goal.returns-in_default
returns-in_default c =
    let run = c.args.run in
    let f = c.args.from.now in
    let l = c.args.left.now in
    let r = c.args.right.now in
    let here = in_run run.start run.step run.count in
    let e = leaves run.position c.requires (sym c.ratios_of.ensures ∙ ap (λ (o : Option Ratios). Ok o) c.in_default.is) in record {
      left = sym (tab-at 576 l nan c.told-left) ∙ tab-same 576 (at l) _ (λ i h. place_kept run.position left_ratio e (here i) (at f i) (at l i));
      right = sym (tab-at 576 r nan c.told-right) ∙ tab-same 576 (at r) _ (λ i h. place_kept run.position right_ratio e (here i) (at f i) (at r i));
    }
