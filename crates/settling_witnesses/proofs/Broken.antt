-- A history with an infinite number in channel 1: a call of one channel is accepted, and one of two channels after it answers 10, each at either edition. Assumes nothing.
use mathlib.Core.Path.{◌≡◌, refl, sym, ap, ◌∙◌}
use mathlib.Core.Bool.{true, false, true≢false, cond}
use mathlib.Core.List.{[], ◌∷◌}
use Prim.Native.Nat.{ℕ}
use lib.Dec.{eqb}
use lib.ListN.{set, replicate}
use lib.Ieee.{inf, of_bits}
use Rattle.laws.specs.Checks.{all_to}
use Rattle.laws.specs.Finite.{finite}
use Rattle.laws.specs.Sum.{zero_f}
use Rattle.side_info.specs.declared.Edition.{Edition}
use Rattle.history.specs.declared.History.{History}
use Rattle.history.specs.History.{fresh_channel, channel_not_finite}
use Rattle.backend.specs.Calls.{Answer}
use Rattle.settling.specs.Settling.{granules, history_next, reply, Taken}
use Rattle.settling.specs.Overflow.{channel_of}
use Rattle.settling_witnesses.proofs.Witness.{silent, silence, passes, accepted, fresh_is}
use Rattle.settling.proofs.Overflow.{granules_stuck}

pub broken : History
broken = record { left = fresh_channel; right = record { overlap = replicate 576 zero_f; blocks = set (replicate 1024 zero_f) 0 (inf false) } }

pub broken_is : channel_not_finite (channel_of true broken) ≡ true
unfolding broken all_to finite of_bits
broken_is = refl

pub broken_accepts : (e : Edition) → Taken granules (silence e false) broken
unfolding broken
broken_accepts e = accepted e broken false fresh_is (λ q. absurd (true≢false (sym q)))

pub broken_refuses : (e f : Edition) → (reply granules (silence f true) (history_next granules (silence e false) broken)).number ≡ 10
unfolding silent
broken_refuses e f =
    ap (λ (a : Answer). a.reply.number) ((granules_stuck true broken broken_is (silence e false ∷ [])).refused (silence f true) refl)
    ∙ ap (λ (k : ℕ). cond (eqb k 0) 10 k) (passes f true)
