-- Assumes nothing.
use mathlib.Core.Path.{◌≡◌, ap, ◌∙◌}
use Rattle.history.specs.declared.Channel.{Channel}
use Rattle.history.specs.declared.History.{History}

-- a history is its two channels
pub whole : {h k : History} → h.left ≡ k.left → h.right ≡ k.right → h ≡ k
whole {h} {k} e f = ap (λ (c : Channel). record { left = c; right = h.right }) e ∙ ap (λ (c : Channel). record { left = k.left; right = c }) f
