-- The samples of the used channels, and then their stages. Assumes nothing.
use mathlib.Core.Path.{◌≡◌, refl, ap, ◌∙◌}
use mathlib.Core.Bool.{Bool, true, false, cond}
use mathlib.Core.List.{List}
use Prim.Native.Nat.{ℕ}
use lib.Ieee.{Float}
use Rattle.laws.specs.Lists.{filled}
use Rattle.synthesis.specs.Synthesis.{peak_of}
use Rattle.history.specs.declared.Channel.{Channel}
use Rattle.history.specs.declared.History.{History}
use Rattle.granule.specs.declared.Granule.{Granule}
use Rattle.granule.specs.Granule.{two}
use Rattle.backend.specs.Whole.{edition_in, left_samples, right_samples, left_kind, right_kind, channel_after, channel_output, pair_at, history_after, granule_room, granule_peaks}
use Rattle.backend.proofs.accepted_step.Goals as goal

-- what stands for two channels may be worked out by any samples where there is one
by_samples : {A : Type 0} (both : Bool) (f : List Float → A) (z : A) {r s : List Float} → (both ≡ true → r ≡ s) → cond both (f r) z ≡ cond both (f s) z
by_samples true f z e = ap f (e refl)
by_samples false f z e = refl

-- l and r are the samples of the channels: r only where it is used
module _ (g : Granule) (h : History) {l r : List Float} (el : l ≡ left_samples g) (er : two g ≡ true → r ≡ right_samples g) where
  history : {c d : Channel} → c ≡ channel_after (edition_in g) (left_kind g) l h.left → d ≡ cond (two g) (channel_after (edition_in g) (right_kind g) r h.right) h.right
      → record { left = c; right = d } ≡ history_after g h
  unfolding history_after
  history ec ed = rw (ec, el, ed, by_samples (two g) (λ s. channel_after (edition_in g) (right_kind g) s h.right) h.right er)

  room : (o : List Float) {p : List Float}
      → p ≡ cond (two g) (filled 1152 (pair_at (channel_output (edition_in g) (left_kind g) l h.left) (channel_output (edition_in g) (right_kind g) r h.right)) o) (filled 576 (channel_output (edition_in g) (left_kind g) l h.left) o)
      → p ≡ granule_room g h o
  unfolding granule_room
  room o e =
      let x : List Float → ℕ → Float = λ s. channel_output (edition_in g) (left_kind g) s h.left in
      e
      ∙ by_samples (two g) (λ s. filled 1152 (pair_at (x l) (channel_output (edition_in g) (right_kind g) s h.right)) o) (filled 576 (x l) o) er
      ∙ ap (λ (s : List Float). cond (two g) (filled 1152 (pair_at (x s) (channel_output (edition_in g) (right_kind g) (right_samples g) h.right)) o) (filled 576 (x s) o)) el

  peaks : {p q : ℕ} → p ≡ peak_of (channel_output (edition_in g) (left_kind g) l h.left) → q ≡ cond (two g) (peak_of (channel_output (edition_in g) (right_kind g) r h.right)) 0
      → record { left = p; right = q } ≡ granule_peaks g h
  unfolding granule_peaks
  peaks ep eq = rw (ep, el, eq, by_samples (two g) (λ s. peak_of (channel_output (edition_in g) (right_kind g) s h.right)) 0 er)

pub returns : goal.returns
returns c =
    let r = c.args in
    let g = r.a.granule.now in
    let step = rw (r.a.edition_named, c.two.ensures) at c.granule_step.ensures in
    let l = c.granule_samples.ensures.left in
    let right = c.granule_samples.ensures.right in record {
      history = history g r.h.now l right step.left step.right;
      outputs = room g r.h.now l right r.out.now step.outputs;
      peaks = peaks g r.h.now l right step.peaks.0 step.peaks.1;
    }
