-- Document 01, "Lag of a row in ticks is weight x (A - W x position) / (W x 720,720)".
use Rattle.std.specs.Prelude.{cond, ℕ, ◌*◌, ℤ, pos}
use Rattle.laws.specs.Difference.{◌⊖◌}
use Rattle.rows.specs.declared.Row.{Row}
use Rattle.rows.specs.Numbers.{unit}
use Rattle.rows.specs.Row.{is_free}
use Rattle.head.specs.declared.Head.{Head}

-- "for each row weight x (A - W x position), 0 for free rows": the numerator of its lag, above zero when the engine owes it time
unfoldable pub lag_of : Head → Row → ℤ
lag_of h r = cond (is_free r.state) (pos 0) (r.weight * h.sum ⊖ r.weight * (h.total * r.position))

-- "the common denominator W x 720,720, which is 0 for an empty table"
unfoldable pub lag_unit : Head → ℕ
lag_unit h = h.total * unit
