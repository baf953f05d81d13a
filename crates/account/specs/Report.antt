-- What the table says, as fractions: V, and the lags as they are reported.
use Rattle.std.specs.Prelude.{cond, List, ℕ, ℤ, pos, get_or}
use Rattle.head.specs.Answers.{denominator_given}
use Rattle.head.specs.Head.{is_empty}
use Rattle.head.specs.Lag.{lag_of, lag_unit}
use Rattle.share.specs.declared.Table.{Table}
use Rattle.share.specs.Calls.{lag_reply, lag_list}
use Rattle.share.specs.Table.{row}
use Rattle.fractions.specs.Fraction.{Fraction, ◌÷◌, whole}

-- "Virtual time V is the fraction A / W"; of an empty table it is the resting position (T-02)
unfoldable pub virtual_time : Table → Fraction
virtual_time t = cond (is_empty t.head) (whole t.head.resting) (pos t.head.sum ÷ t.head.total)

-- "weight x (A - W x position)" over "W x 720,720"
unfoldable pub lag_in : Table → ℕ → Fraction
lag_in t i = lag_of t.head (row t i) ÷ lag_unit t.head

-- what the public call hands out for a queue, the list having been lent to it
unfoldable pub reported : Table → List ℤ → ℕ → Fraction
reported t lent i = get_or (lag_list t lent) i (pos 0) ÷ denominator_given (lag_reply t lent).answer
