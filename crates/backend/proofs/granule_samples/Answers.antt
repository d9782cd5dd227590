-- One channel has no stereo; with two, stereo takes the samples of both. Assumes nothing.
use mathlib.Core.Path.{◌≡◌, sym, ◌∙◌}
use mathlib.Core.Bool.{true, false, true≢false}
use mathlib.Core.List.{List}
use Prim.Native.Nat.{ℕ}
use lib.Ieee.{Float}
use Rattle.requantize.specs.Requantize.{requantized}
use Rattle.reorder.specs.Reorder.{reordered}
use Rattle.stereo.specs.Stereo.{stereo_left, stereo_right}
use Rattle.side_info.specs.declared.Edition.{Edition}
use Rattle.granule.specs.declared.Part.{Part}
use Rattle.granule.specs.declared.Granule.{Granule}
use Rattle.granule.specs.Granule.{two}
use Rattle.backend.specs.Whole.{edition_in, part_samples, left_samples, right_samples}
use Rattle.backend.proofs.granule_samples.Goals as goal

-- l and r are the samples before stereo, l' and r' those after it
module _ (g : Granule) where
  own : {l : List Float} → two g ≡ false → l ≡ part_samples (edition_in g) g.table g.left → l ≡ left_samples g
  unfolding left_samples
  own one e = rw one e

  module _ {l r : List Float} (el : l ≡ part_samples (edition_in g) g.table g.left) (er : r ≡ part_samples (edition_in g) g.table g.right) where
    left_is : {l' : List Float} → two g ≡ true → l' ≡ stereo_left (edition_in g) g.table g.mid_side g.intensity g.left.side g.right.side l r → l' ≡ left_samples g
    unfolding left_samples
    left_is both e = rw both (rw (el, er) at e)

    right_is : {r' : List Float} → r' ≡ stereo_right (edition_in g) g.table g.mid_side g.intensity g.left.side g.right.side l r → r' ≡ right_samples g
    unfolding right_samples
    right_is e = rw (el, er) at e

-- requantized, and then reordered
part-is : (e : Edition) (t : ℕ) (p : Part) {a b : List Float} → a ≡ requantized t p.side p.spectrum → b ≡ reordered e t p.side.block_type p.side.count1 a → b ≡ part_samples e t p
unfolding part_samples
part-is e t p ea eb = rw ea at eb

pub returns-then-not-two : goal.returns-then-not-two
returns-then-not-two c =
    let a = c.args.a in
    let g = a.granule.now in
    let one = sym c.two.ensures ∙ c.if-not-two.true in record {
      left = own g one (part-is (edition_in g) g.table g.left c.granule_numbers.ensures.left (rw (a.edition_named, a.table_named) at c.reorder_step.ensures));
      right = λ both. absurd (true≢false (sym both ∙ one));
    }

pub returns : goal.returns
returns c =
    let a = c.args.a in
    let g = a.granule.now in
    let both = sym c.two.ensures ∙ c.if-not-two.false in
    let l = part-is (edition_in g) g.table g.left c.granule_numbers.ensures.left (rw (a.edition_named, a.table_named) at c.reorder_step.ensures) in
    let r = part-is (edition_in g) g.table g.right (c.granule_numbers.ensures.right both) (rw (a.edition_named, a.table_named) at c.reorder_step-2.ensures) in record {
      left = left_is g l r both (rw (a.edition_named, a.table_named) at c.stereo_step.ensures.left);
      right = λ both. right_is g l r (rw (a.edition_named, a.table_named) at c.stereo_step.ensures.right);
    }
