-- What one granule leaves to the next: a fresh history, and one that is not finite. Assumes nothing.
use Rattle.std.specs.Prelude.{Bool, not, ◌&&◌, ◌||◌, List, replicate, Float}
use Rattle.laws.specs.Finite.{all_finite}
use Rattle.laws.specs.Sum.{zero_f}
use Rattle.history.specs.declared.Channel.{Channel}
use Rattle.history.specs.declared.History.{History}

-- a history whose arrays stand apart
abbrev pub as_channel : List Float → List Float → Channel
as_channel o b = record { overlap = o; blocks = b }

abbrev pub as_history : List Float → List Float → List Float → List Float → History
as_history lo lb ro rb = record { left = as_channel lo lb; right = as_channel ro rb }

-- a fresh history: "all +0.0"
abbrev pub fresh_channel : Channel
fresh_channel = record { overlap = replicate 576 zero_f; blocks = replicate 1024 zero_f }

abbrev pub fresh_history : History
fresh_history = record { left = fresh_channel; right = fresh_channel }

-- refusal 10: a number of a channel's history is infinite or not a number
abbrev pub channel_not_finite : Channel → Bool
channel_not_finite c = not (all_finite c.overlap && all_finite c.blocks)

-- of channel 0, and of channel 1 where both are used
abbrev pub history_not_finite : Bool → History → Bool
history_not_finite both h = channel_not_finite h.left || (both && channel_not_finite h.right)
