-- The arm of a match that takes Long, Start and End: the kind is one of the three, and a choice by the kind is that of the long kinds. Assumes nothing.
use mathlib.Core.Path.{◌≡◌}
use mathlib.Core.Logic.{◌⊎◌, ⊎_elim}
use Rattle.side_info.specs.declared.BlockType.{BlockType}
use Rattle.side_info.specs.declared.BlockType.TheVariants.{Long, Start, End}
use Rattle.side_info.specs.Kinds.{by_kind}

pub long-kind : {A : Type 0} (kind : BlockType) → (kind ≡ Long) ⊎ ((kind ≡ Start) ⊎ (kind ≡ End)) → (x y z : A) → by_kind kind x y z ≡ x
long-kind kind k x y z = ⊎_elim (λ (e : kind ≡ Long). rw e) (⊎_elim (λ (e : kind ≡ Start). rw e) (λ (e : kind ≡ End). rw e)) k
