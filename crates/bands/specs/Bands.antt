-- The bands of a table: document 01's starts by the table's number, and the band of a position. Assumes nothing.
use Rattle.std.specs.Prelude.{◌≡◌, Bool, cond, List, [], ◌∷◌, ℕ, suc, ◌+◌, ◌-◌, ◌*◌, ◌/◌, ◌%◌, ◌<◌, ◌≤◌, leb, length, get_or}
use Rattle.bands.specs.Starts.{long_tables, short_tables}

-- tables 0 to 2
abbrev pub table_count : ℕ
table_count = 3

-- a table that there is
abbrev pub KnownTable : ℕ → Type 0
KnownTable t = t < table_count

-- 3: "band table above 2"
abbrev pub table_too_high : ℕ → Bool
table_too_high t = leb table_count t

-- where the bands of table t start, and where the last one ends
unfoldable pub long_starts : ℕ → List ℕ
long_starts t = get_or long_tables t []

unfoldable pub short_starts : ℕ → List ℕ
short_starts t = get_or short_tables t []

-- start k
abbrev pub start : List ℕ → ℕ → ℕ
start starts k = get_or starts k 0

-- the width of band k
abbrev pub width : List ℕ → ℕ → ℕ
width starts k = start starts (k + 1) - start starts k

-- how many of the numbers, from the front, are at most i
abbrev pub passed : List ℕ → ℕ → ℕ
passed [] i = 0
passed (s ∷ ss) i = cond (leb s i) (suc (passed ss i)) 0

-- the band of position i: one less than the number of starts at or below it
unfoldable pub band_at : List ℕ → ℕ → ℕ
band_at starts i = passed starts i - 1

-- A short block's 576 positions hold each band's three windows one after the other: band k begins at 3 times its start.
-- The band of position i, where that band begins, and how far into the band, and in which of its windows, i lies
abbrev pub short_band : List ℕ → ℕ → ℕ
short_band starts i = band_at starts (i / 3)

abbrev pub short_begin : List ℕ → ℕ → ℕ
short_begin starts k = 3 * start starts k

abbrev pub short_offset : List ℕ → ℕ → ℕ
short_offset starts i = i - short_begin starts (short_band starts i)

abbrev pub short_window : List ℕ → ℕ → ℕ
short_window starts i = short_offset starts i / width starts (short_band starts i)

-- where window number g begins, of all windows of all bands in a row: it is window g % 3 of band g / 3
abbrev pub window_begin : List ℕ → ℕ → ℕ
window_begin starts g = short_begin starts (g / 3) + g % 3 * width starts (g / 3)

-- position i lies in band k
pub record InBand (starts : List ℕ) (k i : ℕ) : Type 0 where
  pub from : start starts k ≤ i
  pub upto : i < start starts (k + 1)

-- n bands, each of at least one position, from 0 up to `end`
pub record Bands (n end : ℕ) (starts : List ℕ) : Type 0 where
  pub long : length starts ≡ n + 1
  pub begins : start starts 0 ≡ 0
  pub rises : (k : ℕ) → k < n → start starts k < start starts (k + 1)
  pub ends : start starts n ≡ end
