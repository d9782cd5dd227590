-- Walking the short bands in order, over the tables. Assumes nothing.
use mathlib.Core.Path.{◌≡◌}
use Prim.Native.Nat.{ℕ, ◌+◌, ◌-◌, ◌*◌, ◌/◌, ◌<◌, ◌≤◌}
use native.Mathlib.Omega.{arith}
use Rattle.bands.specs.Bands.{KnownTable, start, width, short_starts, short_begin}
use Rattle.bands.proofs.Cover.{at_most}
use Rattle.bands.proofs.Tables.{short-bands}

-- a turn of the walk over the short bands: all of band k, which begins at `begin`, and where the next starts
pub record ShortTurn (t k begin next : ℕ) : Type 0 where
  pub band : k < 13
  pub end : 3 * next ≡ short_begin (short_starts t) (k + 1)
  pub up : begin < 3 * next
  pub most : next ≤ 192
  pub wide : (3 * next - begin) / 3 ≡ width (short_starts t) k
  pub three : 3 * next - begin ≡ 3 * ((3 * next - begin) / 3)

pub short_turn : (t k begin next : ℕ) → KnownTable t → k < 13 → begin ≡ short_begin (short_starts t) k → next ≡ start (short_starts t) (k + 1) → ShortTurn t k begin next
short_turn t k begin next h b eb en =
    let bands = short-bands t h in
    let rises = bands.rises k b in
    record { band = b; end = omega arith; up = omega arith; most = omega (arith, at_most 13 192 (short_starts t) bands (k + 1) (omega arith)); wide = omega arith; three = omega arith }
