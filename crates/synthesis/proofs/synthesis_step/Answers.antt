-- The queue's parts give the outputs, and its front is the next blocks. Assumes nothing.
use mathlib.Core.Path.{◌≡◌, ◌∙◌}
use native.Mathlib.Omega.{arith}
use lib.ListN.{length, length-take}
use Rattle.synthesis.specs.Synthesis.{output_at}
use Rattle.synthesis.proofs.Levels.{filled_peak}
use Rattle.synthesis.proofs.Queue.{queue_outputs, queue_end}
use Rattle.synthesis.proofs.synthesis_step.Goals as goal

pub slice_bounds-copy_from_slice-end-2 : goal.slice_bounds-copy_from_slice-end-2
slice_bounds-copy_from_slice-end-2 c = simp length-take (omega arith)

pub copy_from_slice-requires : goal.copy_from_slice-requires
copy_from_slice-requires c = simp length-take (omega arith)

pub queue_blocks-requires : goal.queue_blocks-requires
queue_blocks-requires c = c.args.tables.now.cosines

pub returns : goal.returns
returns c =
    let outputs = c.all_outputs in
    let made = c.queue_blocks in
    let a = c.args in
    let long : length a.blocks.now ≡ 1024 = omega arith in
    let filled = queue_outputs a.samples.now a.blocks.now made.ensures a.out.now outputs.ensures in record {
      blocks = queue_end a.samples.now a.blocks.now made.ensures long c.copy_from_slice.ensures.after;
      outputs = filled;
      peak = c.peak.ensures ∙ filled_peak (output_at a.samples.now a.blocks.now) a.out.now filled;
    }
