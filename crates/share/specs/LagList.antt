-- Document 01, "Lag report": the list of all lags.
use Rattle.std.specs.Prelude.{List, map, ◌++◌, ℤ, drop}
use Rattle.rows.specs.Numbers.{queues}
use Rattle.head.specs.Lag.{lag_of}
use Rattle.share.specs.declared.Table.{Table}

-- "Into a lent list of signed 64-bit numbers: for each row ..., entries 64 and up kept."
unfoldable pub lags_into : Table → List ℤ → List ℤ
lags_into t given = map (lag_of t.head) t.rows ++ drop queues given
