-- The left channel fills the front of the room, and with two channels the right one the part from place 576 on. Assumes nothing.
use mathlib.Core.Path.{◌≡◌, refl, sym, ap, ◌∙◌}
use mathlib.Core.Bool.{Bool, true, false, true≢false, cond}
use mathlib.Core.List.{List, ◌++◌}
use Prim.Native.Nat.{ℕ, ◌+◌, ◌-◌, ◌≤◌}
use native.Mathlib.Omega.{arith}
use lib.ListN.{length, take, drop, length-take, length-drop}
use lib.Ieee.{Float}
use borrow.Author.Tests.{lt-ltb, le-ltb}
use Rattle.laws.specs.Lists.{filled}
use Rattle.laws.proofs.Lists.{Filling, filling-part, length-filled, tab-same}
use Rattle.granule.specs.Granule.{two}
use Rattle.backend.specs.Whole.{pair_at}
use Rattle.backend.proofs.granule_step.Goals as goal

-- the pair's rule, in its two parts
module _ (f g : ℕ → Float) where
  left-part : {o l : List Float} → 576 ≤ length o → l ≡ filled 576 f o → Filling o (pair_at f g) 576 l
  left-part {o} {l} h e = record {
    long = ap length e ∙ length-filled 576 f o h;
    is = e ∙ rw (tab-same 576 f (pair_at f g) (λ k q. rw (lt-ltb k 576 q)));
  }

  right-part : (i : ℕ) → g i ≡ pair_at f g (576 + i)
  right-part i = let e : 576 + i - 576 ≡ i = omega arith in rw (le-ltb (576 + i) 576 (omega arith), e)

-- with one channel, and with two
as_one : {A : Type 0} (both : Bool) (x y : A) {z : A} → both ≡ false → z ≡ y → z ≡ cond both x y
as_one true x y one e = absurd (true≢false one)
as_one false x y one e = e

as_two : {A : Type 0} (both : Bool) (x y : A) {z : A} → both ≡ true → z ≡ x → z ≡ cond both x y
as_two true x y two e = e
as_two false x y two e = absurd (true≢false (sym two))

-- the right channel's outputs after the left one's: o is the room with those
right-room : (x y : ℕ → Float) (room : List Float) {o p : List Float} → 1152 ≤ length room → o ≡ filled 576 x room → p ≡ filled 576 y (take (length o - 576) (drop 576 o))
    → take 576 o ++ (p ++ drop (length o - 576) (drop 576 o)) ≡ filled 1152 (pair_at x y) room
right-room x y room {o} enough eo ep =
    let q = left-part x y {o = room} {l = o} (omega arith) eo in
    (filling-part 576 576 (length o - 576) q enough (omega (arith, q.long)) ep (λ i k. right-part x y i)).is

-- the room is enough for one channel
enough_for_one : (both : Bool) (n : ℕ) → cond both 1152 576 ≤ n → 576 ≤ n
enough_for_one true n h = omega arith
enough_for_one false n h = h

enough_for_two : (both : Bool) (n : ℕ) → both ≡ true → cond both 1152 576 ≤ n → 1152 ≤ n
enough_for_two true n e h = h
enough_for_two false n e h = absurd (true≢false (sym e))

pub channel_step-left_peak-requires : goal.channel_step-left_peak-requires
channel_step-left_peak-requires c = enough_for_one c.args.both _ c.requires

pub returns-then-not-both : goal.returns-then-not-both
returns-then-not-both c =
    let one = c.if-not-both.true in
    record {
      left = c.channel_step-left_peak.ensures.history;
      right = as_one c.args.both _ _ one refl;
      outputs = as_one c.args.both _ _ one c.channel_step-left_peak.ensures.outputs;
      peaks = (c.channel_step-left_peak.ensures.peak, as_one c.args.both _ _ one refl);
    }

pub slice_bounds-channel_step-count : goal.slice_bounds-channel_step-count
slice_bounds-channel_step-count c = omega (arith, enough_for_two c.args.both (length c.args.out.now) c.if-not-both.false c.requires, c.channel_step-left_peak.auto)

pub slice_bounds-channel_step-start : goal.slice_bounds-channel_step-start
slice_bounds-channel_step-start c = omega (arith, enough_for_two c.args.both (length c.args.out.now) c.if-not-both.false c.requires, c.channel_step-left_peak.auto)

pub channel_step-right_peak-requires : goal.channel_step-right_peak-requires
channel_step-right_peak-requires c =
    simp (length-take, length-drop) (omega (arith, enough_for_two c.args.both (length c.args.out.now) c.if-not-both.false c.requires, c.channel_step-left_peak.auto))

pub returns : goal.returns
returns c =
    let a = c.args in
    let two = c.if-not-both.false in record {
      left = c.channel_step-left_peak.ensures.history;
      right = as_two a.both _ _ two c.channel_step-right_peak.ensures.history;
      outputs = as_two a.both _ _ two (right-room _ _ a.out.now (enough_for_two c.args.both (length c.args.out.now) c.if-not-both.false c.requires) c.channel_step-left_peak.ensures.outputs c.channel_step-right_peak.ensures.outputs);
      peaks = (c.channel_step-left_peak.ensures.peak, as_two a.both _ _ two c.channel_step-right_peak.ensures.peak);
    }
