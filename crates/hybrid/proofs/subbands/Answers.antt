use mathlib.Core.Path.{◌≡◌, ap, ◌∙◌}
use Prim.Native.Nat.{◌+◌, ◌-◌, ◌*◌}
use native.Mathlib.Omega.{arith}
use lib.ListN.{length, length-take, length-drop}
use Rattle.laws.proofs.Lists.{length-tab, filling-none, filling-part}
use Rattle.hybrid.proofs.Halves.{places_long, first-half, second_half}
use Rattle.hybrid.proofs.subbands.Goals as goal

pub loop-sb-init : goal.loop-sb-init
loop-sb-init c = (omega arith, filling-none _ _, filling-none _ _)

pub store-requires : goal.store-requires
store-requires c =
    let l = c.loop-sb in
    let n = ap length c.overlapped-sums.ensures ∙ length-tab _ _ in
    (omega (arith, n), simp (length-take, length-drop) (omega (arith, l.invariant.1.long, c.told-samples)))

pub store-requires-in-loop-sb : goal.store-requires-in-loop-sb
store-requires-in-loop-sb c =
    let l = c.loop-sb in
    let n = places_long _ _ l.sb l.samples c.subband_places-places.ensures in
    (omega (arith, n), simp (length-take, length-drop) (omega (arith, l.invariant.2.long, c.told-overlap)))

pub loop-sb-preserved : goal.loop-sb-preserved
loop-sb-preserved c =
    let l = c.loop-sb in
    let n = l.sb in
    let xs = c.args.samples.now in
    let places = c.subband_places-places.ensures in
    let e : 18 * (n + 1) ≡ 18 * n + 18 = omega arith in (
      omega arith,
      rw e
          (filling-part (18 * n) 18 (18 * n + 18 - 18 * n) l.invariant.1 (omega (arith, c.told-samples, c)) (omega arith)
          c.store.ensures
          (λ i h. first-half _ _ n xs l.invariant.1 places i h l.invariant.2 c.overlapped-sums.ensures)),
      rw e
          (filling-part (18 * n) 18 (18 * n + 18 - 18 * n) l.invariant.2 (omega (arith, c.told-overlap, c)) (omega arith) c.store-in-loop-sb.ensures
          (λ i h. second_half _ _ n xs l.invariant.1 places i h)),
    )

pub returns : goal.returns
returns c =
    let l = c.loop-sb in
    let e : l.sb ≡ c.args.used = omega arith in
    (rw e at l.invariant.1.is, rw e at l.invariant.2.is)
