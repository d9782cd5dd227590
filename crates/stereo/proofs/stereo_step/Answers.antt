-- Mid-side, and then intensity from the numbers that it takes. Assumes nothing.
use mathlib.Core.Path.{◌∙◌}
use Rattle.bands.proofs.Tables.{passed}
use Rattle.intensity.specs.Intensity.{left_ratio, right_ratio, position_at, position_refused}
use Rattle.intensity.proofs.Places.{after_both}
use Rattle.stereo.specs.Stereo.{mid_side_left, mid_side_right, intensity_from, stereo_left, stereo_right}
use Rattle.stereo.proofs.stereo_step.Goals as goal

pub intensity_stereo-requires : goal.intensity_stereo-requires
unfolding position_refused
intensity_stereo-requires c = rw (c.if-intensity.true, passed c.args.table.number c.args.table.known) at c.requires.2

pub returns-then-intensity : goal.returns-then-intensity
unfolding stereo_left stereo_right
returns-then-intensity c =
    let end = c.mid_side_end-n in
    let e = c.args.edition in
    let ls = c.args.left.now in
    let rs = c.args.right.now in
    let by = position_at e c.args.table.number c.args.a c.args.b in
    let g = intensity_from e end.result ls rs in
    rw (c.if-intensity.true, ← end.ensures) (record {
      left = c.intensity_stereo.ensures.left ∙ after_both 576 left_ratio by g (mid_side_left end.result ls rs) c.mid_side_keeping.ensures.from c.mid_side_keeping.ensures.left;
      right = c.intensity_stereo.ensures.right ∙ after_both 576 right_ratio by g (mid_side_right end.result ls rs) c.mid_side_keeping.ensures.from c.mid_side_keeping.ensures.right;
    })

pub returns-else-intensity : goal.returns-else-intensity
unfolding stereo_left stereo_right
returns-else-intensity c = rw (c.if-intensity.false, ← c.mid_side_end-n.ensures) c.mid_side_below.ensures
