-- Edition 2 against ISO/IEC 11172-3: the 36 places of a subband of kind 2 are the three windows, placed at 6, 12 and 18 and added. Assumes nothing.
use mathlib.Core.Path.{◌≡◌, ◌∙◌}
use mathlib.Core.List.{List}
use Prim.Native.Nat.{ℕ, ◌<◌}
use lib.Ieee.{Float, nan}
use borrow.Author.Tests.{eq-eqb}
use Rattle.laws.specs.Lists.{at, row}
use Rattle.laws.proofs.Lists.{get_d_tab}
use Rattle.tables.specs.Cosines.{imdct_win}
use Rattle.side_info.specs.declared.BlockType.{BlockType}
use Rattle.side_info.specs.declared.Edition.TheVariants.{Second}
use Rattle.imdct.specs.Imdct.{place_of}
use Rattle.imdct.specs.Standard.{standard_short}
use Rattle.imdct.proofs.Standard.{added_standard}
use Rattle.hybrid.specs.Hybrid.{window_kind, subband_of, places_of}

pub short_standard :
    (kind : BlockType) (xs : List Float) (sb q : ℕ) → window_kind kind sb ≡ 2 → q < 36
    → at (places_of Second kind xs sb) q ≡ standard_short (row imdct_win 2) (subband_of xs sb) q
unfolding places_of
short_standard kind xs sb q k h =
    get_d_tab 36 (place_of Second (window_kind kind sb) (subband_of xs sb)) q nan h
    ∙ rw (eq-eqb (window_kind kind sb) 2 k) (added_standard (row imdct_win 2) (subband_of xs sb) q)
