-- How long the rows of the cosine tables are. Assumes nothing.
use mathlib.Core.Path.{◌≡◌}
use Prim.Native.Nat.{ℕ, ◌<◌}
use lib.ListN.{length}
use Rattle.laws.specs.Lists.{row}
use Rattle.laws.proofs.Table.{row-length}
use Rattle.tables.specs.Cosines.{cos_n36_bits, cos_n36, cos_n12_bits, cos_n12}

pub n36_length : (m : ℕ) → m < 18 → length (row cos_n36 m) ≡ 36
unfolding cos_n36 cos_n36_bits
n36_length m h = row-length cos_n36 36 tt m h

pub n12_length : (m : ℕ) → m < 6 → length (row cos_n12 m) ≡ 12
unfolding cos_n12 cos_n12_bits
n12_length m h = row-length cos_n12 12 tt m h
