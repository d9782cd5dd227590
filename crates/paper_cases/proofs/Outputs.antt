-- From a fresh history: output 1 of a channel whose samples are zeros but for the first, and what a call of two channels answers. Assumes nothing.
use mathlib.Core.Path.{◌≡◌, refl, ap, ◌∙◌}
use mathlib.Core.Bool.{Bool, true, false, cond}
use mathlib.Core.List.{List, [], ◌∷◌}
use Prim.Native.Nat.{ℕ, zero, suc, ◌+◌, ◌*◌, ◌<◌}
use native.Mathlib.Omega.{arith}
use borrow.Author.Tests.{ne_eqb}
use lib.Dec.{lit<}
use lib.ListN.{replicate, set}
use lib.Ieee.{Float, nan, binary32, of_bits, of_int, add, sub, mul}
use Rattle.laws.specs.Checks.{first, afterwards}
use Rattle.laws.specs.Lists.{at, tab, filled}
use Rattle.laws.specs.Sum.{zero_f, sum_to}
use Rattle.laws.proofs.Lists.{get_d_tab, tab-same, filled_at}
use Rattle.laws.proofs.Sum.{sum_same}
use Rattle.laws.proofs.Zeros.{replicate-finite}
use Rattle.tables.specs.Antialias.{cs, cs_bits, ca, ca_bits}
use Rattle.tables.specs.Cosines.{cos_n36, cos_n36_bits, imdct_win, imdct_win_bits}
use Rattle.synthesis_tables.specs.Matrixing.{matrixing, matrixing_bits}
use Rattle.synthesis_tables.specs.Window.{window, window_bits}
use Rattle.side_info.specs.declared.BlockType.TheVariants.{Long}
use Rattle.side_info.specs.declared.Edition.{Edition}
use Rattle.antialias.specs.Antialias.{antialiased}
use Rattle.hybrid.specs.Hybrid.{subband_of}
use Rattle.matrixing.specs.Matrixing.{slot_samples, matrixed_at, matrixed}
use Rattle.synthesis.specs.Synthesis.{pushed_at, pushed, gathered, slot_output, blocks_after}
use Rattle.synthesis.proofs.Gathered.{gathered-row}
use Rattle.history.specs.History.{fresh_channel, fresh_history}
use Rattle.granule.specs.declared.Granule.{Granule}
use Rattle.granule.specs.Granule.{two, input_checks}
use Rattle.backend.specs.Whole.{edition_in, left_kind, right_kind, left_samples, right_samples, subbands, channel_output, pair_output, granule_room}
use Rattle.backend.specs.Calls.{Call, lent, refusing, rendering, refusal_of, answer}
use Rattle.paper_cases.specs.Cases.{number, sample, whole}
use Rattle.paper_cases.specs.Editions.{answers, heard_at}
use Rattle.paper_cases.proofs.Places.{taken_from, taken_at}

-- n zeros but for the first, which is x
abbrev pub only : ℕ → Float → List Float
only n x = set (replicate n zero_f) 0 x

-- ---- what becomes of the first sample, which is 2 or, where nothing is heard, a zero too

abbrev pub first_sample : Bool → Float
first_sample loud = cond loud (whole 2) zero_f

abbrev taken : Bool → Float
taken loud = cond loud (of_bits binary32 0x3d71_689e) zero_f

abbrev matrixed_to : Bool → Float
matrixed_to loud = cond loud (of_bits binary32 0x3d22_1ec2) zero_f

abbrev pub output : Bool → Float
output loud = cond loud (of_bits binary32 0xb522_1f55) zero_f

-- antialias leaves it
alias : (loud : Bool) → antialiased Long (only 576 (first_sample loud)) ≡ only 576 (first_sample loud)
unfolding antialiased cs cs_bits ca ca_bits tab of_bits of_int add sub mul
alias true = refl
alias false = refl

-- of slot 0's samples only the first subband's comes from it
module _ (e : Edition) where
  slot_at : (xs : List Float) → antialiased Long xs ≡ xs → slot_samples (subbands e Long xs fresh_channel) 0 ≡ tab 32 (λ j. taken_from e Long xs fresh_channel.overlap (j * 18 + 0))
  unfolding slot_samples
  slot_at xs q = tab-same 32 _ _ (λ j h. taken_at e Long xs fresh_channel (j * 18 + 0) (omega arith) ∙ rw q)

  slot : (loud : Bool) → slot_samples (subbands e Long (only 576 (first_sample loud)) fresh_channel) 0 ≡ only 32 (taken loud)
  unfolding subband_of cos_n36 cos_n36_bits imdct_win imdct_win_bits tab sum_to of_bits of_int add mul
  slot true = slot_at (only 576 (whole 2)) (alias true) ∙ refl
  slot false = slot_at (only 576 zero_f) (alias false) ∙ refl

-- their matrixing at place 1
front : (loud : Bool) → at (matrixed (only 32 (taken loud))) 1 ≡ matrixed_to loud
unfolding matrixed matrixing matrixing_bits sum_to of_bits add mul
front true = get_d_tab 64 (matrixed_at (only 32 (taken true))) 1 nan (lit< tt) ∙ refl
front false = get_d_tab 64 (matrixed_at (only 32 zero_f)) 1 nan (lit< tt) ∙ refl

-- output 1: its other fifteen terms are the fresh blocks'
output-at : (xs : List Float) → slot_output (blocks_after xs fresh_channel.blocks 1) 1
    ≡ sum_to 16 (λ j. mul binary32 (pushed_at (matrixed (slot_samples xs 0)) fresh_channel.blocks (gathered (32 * j + 1))) (at window (32 * j + 1)))
unfolding slot_output blocks_after pushed
output-at xs =
    sum_same 16 _ _ (λ j h. ap (λ (x : Float). mul binary32 x (at window (32 * j + 1)))
    (get_d_tab 1024 (pushed_at (matrixed (slot_samples xs 0)) fresh_channel.blocks) (gathered (32 * j + 1)) nan (rw (gathered-row j 1 (lit< tt)) (omega arith))))

pub output-is : (e : Edition) (loud : Bool) → channel_output e Long (only 576 (first_sample loud)) fresh_channel 1 ≡ output loud
unfolding channel_output window window_bits sum_to of_bits add mul
output-is e true = output-at (subbands e Long (only 576 (whole 2)) fresh_channel) ∙ rw (slot e true, front true)
output-is e false = output-at (subbands e Long (only 576 zero_f) fresh_channel) ∙ rw (slot e false, front false)

-- ---- a call of two channels

module _ (g : Granule) (q : two g ≡ true) where
  abbrev given : Call
  given = lent g (replicate 1152 zero_f)

  -- the fresh history and the room pass
  refusal_is : refusal_of given fresh_history ≡ first (input_checks g)
  refusal_is = rw (q, replicate-finite 576, replicate-finite 1024)

  pub number_is : answers g ≡ number (first (input_checks g))
  number_is = ap number (go (refusal_of given fresh_history) ∙ refusal_is)
    where
      go : (k : ℕ) → (afterwards k (refusing k given.room fresh_history) (rendering given fresh_history)).reply.number ≡ k
      go zero = refl
      go (suc k) = rw (ne_eqb (suc k) 0 (λ e. omega arith))

  -- output 1 of each channel, where it is accepted
  module _ (ok : first (input_checks g) ≡ 0) where
    room-is : (answer given fresh_history).reply.room ≡ filled 1152 (pair_output g fresh_history) (replicate 1152 zero_f)
    unfolding granule_room
    room-is = rw (refusal_is ∙ ok, q)

    place_is : (p : ℕ) → p < 1152 → heard_at p g ≡ sample (pair_output g fresh_history p)
    place_is p h = rw room-is (ap sample (filled_at 1152 (pair_output g fresh_history) (replicate 1152 zero_f) p nan h))

    pub heard : (left right : Bool) → left_kind g ≡ Long → right_kind g ≡ Long → left_samples g ≡ only 576 (first_sample left) → right_samples g ≡ only 576 (first_sample right)
        → (heard_at 1 g ∷ heard_at 577 g ∷ answers g ∷ []) ≡ (sample (output left) ∷ sample (output right) ∷ number 0 ∷ [])
    heard left right j k l r = rw (place_is 1 (lit< tt), place_is 577 (lit< tt), number_is, ok, l, r, j, k, output-is (edition_in g) left, output-is (edition_in g) right)
