-- The stages one after the other: each takes what the one before it left. Assumes nothing.
use mathlib.Core.Path.{◌≡◌, ap, ◌∙◌}
use mathlib.Core.List.{List}
use Prim.Native.Nat.{ℕ}
use lib.Ieee.{Float}
use Rattle.laws.specs.Lists.{filled}
use Rattle.side_info.specs.declared.BlockType.{BlockType}
use Rattle.side_info.specs.declared.Edition.{Edition}
use Rattle.antialias.specs.Antialias.{antialiased}
use Rattle.hybrid.specs.Hybrid.{hybrid, overlap_after}
use Rattle.inversion.specs.Inversion.{inverted}
use Rattle.synthesis.specs.Synthesis.{blocks_after, output_at, synthesized, peak_of}
use Rattle.history.specs.declared.Channel.{Channel}
use Rattle.backend.specs.Whole.{subbands, channel_after, channel_output}
use Rattle.backend.proofs.channel_step.Goals as goal

-- the samples after antialias, hybrid and inversion
taken : (e : Edition) (kind : BlockType) (xs : List Float) (c : Channel) {a b x : List Float} → a ≡ antialiased kind xs → b ≡ hybrid e kind a c.overlap → x ≡ inverted b → x ≡ subbands e kind xs c
unfolding subbands
taken e kind xs c ea eb ex = ex ∙ ap inverted (eb ∙ ap (λ (y : List Float). hybrid e kind y c.overlap) ea)

-- the overlap, the blocks, the room and the peak
module _ (e : Edition) (kind : BlockType) (xs : List Float) (c : Channel) {a x : List Float} (ea : a ≡ antialiased kind xs) (ex : x ≡ subbands e kind xs c) where
  history : {o v : List Float} → o ≡ overlap_after e kind a → v ≡ blocks_after x c.blocks 18 → record { overlap = o; blocks = v } ≡ channel_after e kind xs c
  unfolding channel_after
  history eo ev = rw (eo, ev, ea, ex)

  outputs : (room : List Float) {out : List Float} → out ≡ synthesized x c.blocks room → out ≡ filled 576 (channel_output e kind xs c) room
  unfolding channel_output
  outputs room q = rw ex at q

  peak : {n : ℕ} → n ≡ peak_of (output_at x c.blocks) → n ≡ peak_of (channel_output e kind xs c)
  unfolding channel_output
  peak q = rw ex at q

pub returns : goal.returns
returns c =
    let r = c.args in
    let was = r.channel.now in
    let ea = c.antialias_step.ensures in
    let ex = taken r.edition r.kind r.samples.now was ea c.hybrid_step.ensures.0 c.inversion_step.ensures in record {
      history = history r.edition r.kind r.samples.now was ea ex c.hybrid_step.ensures.1 c.synthesis_step.ensures.blocks;
      outputs = outputs r.edition r.kind r.samples.now was ea ex r.out.now c.synthesis_step.ensures.outputs;
      peak = peak r.edition r.kind r.samples.now was ea ex c.synthesis_step.ensures.peak;
    }
