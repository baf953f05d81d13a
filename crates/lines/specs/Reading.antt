-- What the reader finds at a place of a line.
use Rattle.std.specs.Prelude.{cond, List, ℕ, ◌+◌, eqb, length, drop, Option, None, Some}
use Rattle.lines.specs.declared.reading.Field.{Field}
use Rattle.lines.specs.Cut.{space, before}
use Rattle.lines.specs.Decimal.{decimal}

abbrev pub field_as : Option ℕ → ℕ → Option Field
field_as None end = None
field_as (Some value) end = Some (record { value = value; end = end })

-- the field that begins at a place, read as a decimal, and where it ends
unfoldable pub field_at : List ℕ → ℕ → Option Field
field_at s at = field_as (decimal (before space (drop at s))) (at + length (before space (drop at s)))

-- a field of no digits is no number
unfoldable pub finished_as : ℕ → ℕ → ℕ → Option Field
finished_as at end value = cond (eqb at end) None (Some (record { value = value; end = end }))
