-- Demand 3: two granules settle everything. Two runs from any two histories that are given the same two granules, as granules or as records' bytes, neither of which refuses, agree from then on.
-- Assumes nothing.
use mathlib.Core.Path.{◌≡◌, refl, sym, ap, ◌∙◌}
use mathlib.Core.Bool.{Bool, true, false, cond}
use mathlib.Core.List.{List, ◌∷◌}
use Prim.Native.Nat.{ℕ, ◌+◌, ◌-◌, ◌*◌, ◌<◌, ◌≤◌}
use native.Mathlib.Decide.{ℕ_discrete}
use native.Mathlib.Omega.{arith}
use borrow.Author.Tests.{lt-ltb, le-ltb, eq-eqb}
use lib.Dec.{eqb}
use lib.Ieee.{Float, nan}
use Rattle.laws.specs.Checks.{first}
use Rattle.laws.specs.Lists.{at, filled}
use Rattle.laws.proofs.Lists.{filled_at}
use Rattle.side_info.specs.declared.BlockType.{BlockType}
use Rattle.side_info.specs.declared.Edition.{Edition}
use Rattle.antialias.specs.Antialias.{antialiased}
use Rattle.hybrid.specs.Hybrid.{overlap_after}
use Rattle.synthesis.proofs.Forgets.{same_blocks, same_outputs, block-is}
use Rattle.matrixing.specs.Matrixing.{slot_samples, matrixed}
use Rattle.history.specs.declared.Channel.{Channel}
use Rattle.history.specs.declared.History.{History}
use Rattle.history.proofs.Histories.{whole}
use Rattle.granule.specs.declared.Granule.{Granule}
use Rattle.granule.specs.Granule.{two}
use Rattle.backend.specs.Calls.{lent, Reply, Answer, rendering}
use Rattle.backend.specs.Whole.{edition_in, left_samples, right_samples, left_kind, right_kind, subbands, channel_after, channel_output, pair_at, pair_output, history_after, granule_room, granule_peaks}
use Rattle.settling.specs.Settling.{Door, granules, records, Call, lending, reply, history_next, replies, history_last, Taken, Agree, uses_right, UseNoOther, none, call, Accepted, KnownHistory, Settled, TwoGranulesSettle}
use Rattle.settling.proofs.Doors.{number_at, Lawful, granules_lawful, records_lawful, answer-taken, answer-number, given-refused}

-- ---- one channel

module _ (e : Edition) (kind : BlockType) (xs : List Float) where
  -- what synthesis takes knows nothing of the history but its overlap
  same-subbands : (c d : Channel) → c.overlap ≡ d.overlap → subbands e kind xs c ≡ subbands e kind xs d
  unfolding subbands
  same-subbands c d o = rw o

  -- and from equal overlaps a granule makes equal histories
  same-channel : (c d : Channel) → c.overlap ≡ d.overlap → channel_after e kind xs c ≡ channel_after e kind xs d
  unfolding channel_after
  same-channel c d o =
      ap (λ (v : List Float). record { overlap = overlap_after e kind (antialiased kind xs); blocks = v })
      (rw (same-subbands c d o) (same_blocks (subbands e kind xs d) c.blocks d.blocks 18 (omega arith)))

  -- and equal outputs from place 480 on
  same-output : (c d : Channel) → c.overlap ≡ d.overlap → (p : ℕ) → 480 ≤ p → channel_output e kind xs c p ≡ channel_output e kind xs d p
  unfolding channel_output
  same-output c d o p h = rw (same-subbands c d o) (same_outputs (subbands e kind xs d) c.blocks d.blocks p h)

  -- and what the history is
  block_of_slot : (c : Channel) (b i : ℕ) → b < 16 → i < 64 → (n : ℕ) → n + b ≡ 17 → at (channel_after e kind xs c).blocks (64 * b + i) ≡ at (matrixed (slot_samples (subbands e kind xs c) n)) i
  unfolding channel_after
  block_of_slot c b i h l n q =
      let slot : 17 - b ≡ n = omega arith in
      rw (← slot) (block-is (subbands e kind xs c) c.blocks 18 b i (omega arith) h l)

  known : (c : Channel) → KnownHistory e kind xs c (channel_after e kind xs c)
  unfolding channel_after
  known c = record { overlap = refl; blocks = λ b i h l. block_of_slot c b i h l _ (omega arith) }

-- ---- one granule, from histories that agree in the channels that it uses

-- answers with equal replies, and histories that agree
pub record Alike (both : Bool) (a b : Answer) : Type 0 where
  pub said : a.reply ≡ b.reply
  pub histories : Agree both a.history b.history

either : {both : Bool} {a b p q : Answer} (t : Bool) → Alike both a p → Alike both b q → Alike both (cond t a b) (cond t p q)
either true e f = e
either false e f = f

module _ (both : Bool) (g : Granule) (u : two g ≡ true → both ≡ true) (h k : History) (a : Agree both h k) where
  -- where it uses both, the histories are equal
  by_channels : {A : Type 0} (f : History → A) → (two g ≡ false → f h ≡ f k) → f h ≡ f k
  by_channels f left = go (two g) refl
    where
      go : (t : Bool) → two g ≡ t → f h ≡ f k
      go true e = ap f (whole a.left (a.right (u e)))
      go false e = left e

  same-room : (room : List Float) → granule_room g h room ≡ granule_room g k room
  unfolding granule_room
  same-room room = by_channels (λ h. granule_room g h room) (λ e. rw (e, a.left))

  same-peaks : granule_peaks g h ≡ granule_peaks g k
  unfolding granule_peaks
  same-peaks = by_channels (granule_peaks g) (λ e. rw (e, a.left))

  agree_after : Agree both (history_after g h) (history_after g k)
  unfolding history_after
  agree_after = record { left = rw a.left; right = λ b. rw (a.right b) }

  rendered_alike : (room : List Float) → Alike both (rendering (lent g room) h) (rendering (lent g room) k)
  rendered_alike room = record { said = rw (same-room room, same-peaks); histories = agree_after }

-- ---- one call, and runs, from such histories

module _ (d : Door) (law : Lawful d) where
  pub alike : (both : Bool) (c : Call d) → (uses_right d c.given ≡ true → both ≡ true) → (h k : History) → Agree both h k
      → Alike both (d.answers c.given c.room h) (d.answers c.given c.room k)
  alike both c u h k a = split (ℕ_discrete (first (d.checks c.given)) 0)
    where
      g : Granule
      g = d.granule_of c.given

      split : Dec (first (d.checks c.given) ≡ 0) → Alike both (d.answers c.given c.room h) (d.answers c.given c.room k)
      split (yes z) =
          let uses : two g ≡ true → both ≡ true = λ t. u (rw (eq-eqb (first (d.checks c.given)) 0 z, t)) in
          let same_number : number_at d c.given c.room h ≡ number_at d c.given c.room k = by_channels both g uses h k a (number_at d c.given c.room) (λ e. rw (e, a.left)) in
          rw (law.answered c.given c.room h, law.answered c.given c.room k, same_number)
          (either (eqb (number_at d c.given c.room k) 0) (rendered_alike both g uses h k a c.room) (record { said = refl; histories = a }))
      split (no z) = rw (given-refused d law c.given c.room h z, given-refused d law c.given c.room k z) (record { said = refl; histories = a })

  same-replies : {both : Bool} {cs : List (Call d)} → UseNoOther d both cs → (h k : History) → Agree both h k → replies d cs h ≡ replies d cs k
  same-replies none h k a = refl
  same-replies {both} (call c cs u w) h k a =
      let s = alike both c u h k a in
      ap (λ (rs : List Reply). reply d c h ∷ rs) (same-replies w (history_next d c h) (history_next d c k) s.histories)
      ∙ ap (λ (r : Reply). r ∷ replies d cs (history_next d c k)) s.said

  agree-last : {both : Bool} {cs : List (Call d)} → UseNoOther d both cs → (h k : History) → Agree both h k → Agree both (history_last d cs h) (history_last d cs k)
  agree-last none h k a = a
  agree-last {both} (call c cs u w) h k a = agree-last w (history_next d c h) (history_next d c k) (alike both c u h k a).histories

-- ---- the outputs of a granule

module _ (g : Granule) (room : List Float) (h : History) (p : ℕ) (l : p < 576) where
  pub left-at : at (granule_room g h room) p ≡ channel_output (edition_in g) (left_kind g) (left_samples g) h.left p
  unfolding granule_room
  left-at = go (two g) (channel_output (edition_in g) (left_kind g) (left_samples g) h.left) (channel_output (edition_in g) (right_kind g) (right_samples g) h.right)
    where
      go : (t : Bool) (f r : ℕ → Float) → at (cond t (filled 1152 (pair_at f r) room) (filled 576 f room)) p ≡ f p
      go true f r = filled_at 1152 (pair_at f r) room p nan (omega arith) ∙ rw (lt-ltb p 576 l)
      go false f r = filled_at 576 f room p nan l

  pub right-at : two g ≡ true → at (granule_room g h room) (576 + p) ≡ channel_output (edition_in g) (right_kind g) (right_samples g) h.right p
  unfolding granule_room
  right-at q =
      let back : 576 + p - 576 ≡ p = omega arith in
      rw q (filled_at 1152 (pair_output g h) room (576 + p) nan (omega arith) ∙ rw (le-ltb (576 + p) 576 (omega arith), back))

-- ---- the second granule: from histories whose overlaps are equal, in the channels that it uses

module _ (g : Granule) (h k : History) (left : h.left.overlap ≡ k.left.overlap) (right : two g ≡ true → h.right.overlap ≡ k.right.overlap) where
  agreed : Agree (two g) (history_after g h) (history_after g k)
  unfolding history_after
  agreed = record {
    left = same-channel (edition_in g) (left_kind g) (left_samples g) h.left k.left left;
    right = λ e. rw e (same-channel (edition_in g) (right_kind g) (right_samples g) h.right k.right (right e));
  }

  module _ (a b : List Float) (p : ℕ) (m : 480 ≤ p) (l : p < 576) where
    left-same : at (granule_room g h a) p ≡ at (granule_room g k b) p
    left-same = left-at g a h p l ∙ same-output (edition_in g) (left_kind g) (left_samples g) h.left k.left left p m ∙ sym (left-at g b k p l)

    right-same : two g ≡ true → at (granule_room g h a) (576 + p) ≡ at (granule_room g k b) (576 + p)
    right-same e = right-at g a h p l e ∙ same-output (edition_in g) (right_kind g) (right_samples g) h.right k.right (right e) p m ∙ sym (right-at g b k p l e)

left_known_after : (g : Granule) (h : History) → KnownHistory (edition_in g) (left_kind g) (left_samples g) h.left (history_after g h).left
unfolding history_after
left_known_after g h = known (edition_in g) (left_kind g) (left_samples g) h.left

right_known_after : (g : Granule) (h : History) → two g ≡ true → KnownHistory (edition_in g) (right_kind g) (right_samples g) h.right (history_after g h).right
unfolding history_after
right_known_after g h e = rw e (known (edition_in g) (right_kind g) (right_samples g) h.right)

-- ---- the theorem: the first granule leaves such histories

-- two granules that use the same channels leave histories whose overlaps are those of the granule
module _ (g : Granule) (h k : History) where
  left_overlaps : (history_after g h).left.overlap ≡ (history_after g k).left.overlap
  unfolding history_after channel_after
  left_overlaps = refl

  right_overlaps : two g ≡ true → (history_after g h).right.overlap ≡ (history_after g k).right.overlap
  unfolding history_after channel_after
  right_overlaps e = rw e

module _ (d : Door) (law : Lawful d) where
  -- what a call that is not refused answers, and what it leaves
  module _ (c : Call d) (h : History) (e : Taken d c h) where
    taken : d.answers c.given c.room h ≡ rendering (lent (d.granule_of c.given) c.room) h
    taken = answer-taken d law c.given c.room h (sym (answer-number d law c.given c.room h) ∙ e)

    pub leaves : history_next d c h ≡ history_after (d.granule_of c.given) h
    leaves = ap (λ (r : Answer). r.history) taken

    pub fills : (reply d c h).room ≡ granule_room (d.granule_of c.given) h c.room
    fills = ap (λ (r : Answer). r.reply.room) taken

    pub sounds : (reply d c h).peaks ≡ granule_peaks (d.granule_of c.given) h
    sounds = ap (λ (r : Answer). r.reply.peaks) taken

  module _ (x y : d.Given) (h k : History) (a a' b b' : List Float) (acc : Accepted d x y h k a a' b b') where
    abbrev g : Granule
    g = d.granule_of y

    -- the histories between the two calls
    abbrev h₁ : History
    h₁ = history_next d (lending d x a) h

    abbrev k₁ : History
    k₁ = history_next d (lending d x b) k

    first_h : h₁ ≡ history_after (d.granule_of x) h
    first_h = leaves (lending d x a) h acc.first_of_h

    first-k : k₁ ≡ history_after (d.granule_of x) k
    first-k = leaves (lending d x b) k acc.first_of_k

    left-overlap : h₁.left.overlap ≡ k₁.left.overlap
    left-overlap = rw (first_h, first-k) (left_overlaps (d.granule_of x) h k)

    -- channel 1 is used by both or by neither
    used_before : two g ≡ true → two (d.granule_of x) ≡ true
    used_before e = acc.same_channels ∙ e

    right-overlap : two g ≡ true → h₁.right.overlap ≡ k₁.right.overlap
    right-overlap e = rw (first_h, first-k) (right_overlaps (d.granule_of x) h k (used_before e))

    -- and what the second ones leave
    second_h : history_next d (lending d y a') h₁ ≡ history_after g h₁
    second_h = leaves (lending d y a') h₁ acc.second_of_h

    second_k : history_next d (lending d y b') k₁ ≡ history_after g k₁
    second_k = leaves (lending d y b') k₁ acc.second_of_k

    agree : Agree (two g) (history_next d (lending d y a') h₁) (history_next d (lending d y b') k₁)
    agree = rw (second_h, second_k) (agreed g h₁ k₁ left-overlap right-overlap)

    settled : Settled d g (lending d y a') (lending d y b') h₁ k₁
    settled =
        let room-h = fills (lending d y a') h₁ acc.second_of_h in
        let room-k = fills (lending d y b') k₁ acc.second_of_k in
        record {
          agree = agree;
          left_known = rw second_h (left_known_after g h₁);
          right_known = λ e. rw second_h (right_known_after g h₁ e);
          left_outputs = λ p m l. rw (room-h, room-k) (left-same g h₁ k₁ left-overlap right-overlap a' b' p (omega arith) (omega arith));
          right_outputs = λ e p m l. rw (room-h, room-k) (right-same g h₁ k₁ left-overlap right-overlap a' b' p (omega arith) (omega arith) e);
          later_replies = λ cs w. same-replies d law w _ _ agree;
          later_histories = λ cs w. agree-last d law w _ _ agree;
        }

pub granules_settle : TwoGranulesSettle granules
granules_settle = settled granules granules_lawful

pub records_settle : TwoGranulesSettle records
records_settle = settled records records_lawful
