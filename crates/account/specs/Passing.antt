-- Departures as the table reports them: what a row that is freed gives to one who stays, and what a whole release gives.
use Rattle.std.specs.Prelude.{ℕ}
use Rattle.rows.specs.Row.{weight_in}
use Rattle.share.specs.declared.Table.{Table}
use Rattle.share.specs.Release.{freed, Frees, done, one}
use Rattle.share.specs.Table.{row}
use Rattle.fractions.specs.Fraction.{Fraction, nothing, ◌⊕◌, portion}
use Rattle.account.specs.Report.{lag_in}

-- "When a row with account a is freed and others remain, each gains a x its weight / (W less the freed weight)": with the lag that the table reports for a
unfoldable pub given : Table → ℕ → ℕ → Fraction
given t i j = portion (lag_in t i) (weight_in (row t j)) (freed t i).head.total

-- the rows that a release frees, one after the other, each once
abbrev pub given_by : {t u : Table} → Frees t u → ℕ → Fraction
given_by (done calm) j = nothing
given_by {t} (one i r rest) j = given t i j ⊕ given_by rest j
