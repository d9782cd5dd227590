-- A band table by its number. Assumes nothing.
use Rattle.std.specs.Prelude.{◌≡◌, true, false, ℕ, Result, MatchResult}
use Rattle.refusals.specs.declared.Refusal.{Refusal}
use Rattle.refusals.specs.declared.Refusal.TheVariants.{TableTooHigh}
use Rattle.bands.specs.declared.band_table.BandTable.{BandTable}
use Rattle.bands.specs.Bands.{table_too_high}

-- what is read as a table: the table of that number, or refusal 3
abbrev pub TableRead : ℕ → Result BandTable Refusal → Type 0
TableRead n r = MatchResult r (λ t. (t.number ≡ n) × (table_too_high n ≡ false)) (λ e. (e ≡ TableTooHigh) × (table_too_high n ≡ true))
