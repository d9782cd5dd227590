use mathlib.Core.Path.{◌≡◌, sym, ap, ◌∙◌}
use mathlib.Core.Bool.{Bool, true, false, ◌&&◌}
use mathlib.Core.Logic.{◌⊎◌, inl, inr}
use native.Mathlib.Omega.{arith}
use borrow.Author.Rules.{rules}
use lib.IntN.{ℤ, pos}
use lib.ListN.{get_or}
use lib.Signed.{lt_z, le_z}
use mir.Syntax.{w16}
use mir.Val.{to_z, of_z}
use mir.ValLaws.{to_z-of_z}
use Rattle.laws.specs.Checks.{all_to}
use Rattle.laws.proofs.Flag.{flag-none, flag_turns, flag-end}
use Rattle.side_info.proofs.Within.{too_low, too_high, neither}
use Rattle.side_info.proofs.numbers_within.Goals as goal
use Rattle.side_info.proofs.numbers_within.Goals.{then-x-low, else-x-low, then-high-x, else-high-x}

pub loop-x-init : goal.loop-x-init
loop-x-init c = (omega arith, flag-none _)

pub loop-x-preserved : goal.loop-x-preserved
loop-x-preserved c =
    let l = c.loop-x in
    let z = get_or c.args.spectrum.now l.x-index (pos 0) in
    let back : to_z w16 (of_z w16 z) ≡ z = to_z-of_z w16 z (search rules) in
    let low : ℤ = to_z w16 (of_z w16 c.args.low) in
    let high : ℤ = to_z w16 (of_z w16 c.args.high) in
    let is_low : Bool = lt_z (to_z w16 (of_z w16 z)) low in
    let is_high : Bool = lt_z high (to_z w16 (of_z w16 z)) in
    let first : ((is_low ≡ true) × (c.if-x-low.bad ≡ 1)) ⊎ ((is_low ≡ false) × (c.if-x-low.bad ≡ l.bad)) =
    elim c.if-x-low.branch [ then-x-low w ↦ inl (w.if-x-low.true, w.bad-is) | else-x-low w ↦ inr (w.if-x-low.false, w.bad-is) ] in
    let second : ((is_high ≡ true) × (c.if-high-x.bad ≡ 1)) ⊎ ((is_high ≡ false) × (c.if-high-x.bad ≡ c.if-x-low.bad)) =
    elim c.if-high-x.branch [ then-high-x w ↦ inl (w.if-high-x.true, w.bad-is) | else-high-x w ↦ inr (w.if-high-x.false, w.bad-is) ] in (
      omega arith,
      flag_turns _ l.x-index l.invariant.1
          (λ e. too_low low z high (ap (λ (x : ℤ). lt_z x low) (sym back) ∙ e))
          (λ e. too_high low z high (ap (λ (x : ℤ). lt_z high x) (sym back) ∙ e))
          (λ e f. neither low z high (ap (λ (x : ℤ). lt_z x low) (sym back) ∙ e) (ap (λ (x : ℤ). lt_z high x) (sym back) ∙ f))
          first second,
    )

pub returns : goal.returns
returns c =
    let l = c.loop-x in
    let a = c.args in
    let f = c.ranges in
    flag-end _ 576 l.x-index l.invariant.1 (omega arith) (omega arith)
    ∙ ap (λ (x : ℤ). all_to 576 (λ i. le_z x (get_or a.spectrum.now i (pos 0)) && le_z (get_or a.spectrum.now i (pos 0)) (to_z w16 (of_z w16 a.high)))) (to_z-of_z w16 a.low f.low)
    ∙ ap (λ (x : ℤ). all_to 576 (λ i. le_z a.low (get_or a.spectrum.now i (pos 0)) && le_z (get_or a.spectrum.now i (pos 0)) x)) (to_z-of_z w16 a.high f.high)
