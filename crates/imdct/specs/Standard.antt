-- The short transform by ISO/IEC 11172-3: "n = 36, or 12 three times", each windowed, "the three windows placed at 6, 12, 18 and overlapping halves added". Over the tables as they are
-- kept, rounded at each step. Assumes nothing.
use Rattle.std.specs.Prelude.{cond, ◌&&◌, List, ℕ, ◌+◌, ◌-◌, ◌*◌, leb, ltb, Float}
use Rattle.std.specs.Float.{binary32}
use Rattle.std.specs.Float.Ieee.{mul}
use Rattle.laws.specs.Lists.{at, row}
use Rattle.laws.specs.Sum.{zero_f, sum_to}
use Rattle.tables.specs.Cosines.{cos_n12}

-- "x_i = Σ_{k<n/2} X_k cos(..)" for n = 12, times the window w: the 12 places of six numbers
abbrev pub windowed : List Float → (ℕ → Float) → ℕ → Float
windowed w numbers i = mul binary32 (sum_to 6 (λ k. mul binary32 (numbers k) (at (row cos_n12 k) i))) (at w i)

-- 12 places among 36, the first at `from`; the others are 0
abbrev pub placed_at : ℕ → (ℕ → Float) → ℕ → Float
placed_at from x q = cond (leb from q && ltb q (from + 12)) (x (q - from)) zero_f

-- window i has the numbers i, i + 3, i + 6 and so on of the subband s, and is placed at 6, 12 or 18; the three are added
abbrev pub standard_short : List Float → List Float → ℕ → Float
standard_short w s q = sum_to 3 (λ i. placed_at (6 * i + 6) (windowed w (λ k. at s (i + 3 * k))) q)
