-- T-02, "The table is to remember a resting position: the position of the last row freed, which is then V exactly."
use Rattle.std.specs.Prelude.{◌≡◌, Bool, cond, ℕ, ◌+◌, ◌-◌, ◌≤◌, ◌<◌, leb, eqb}
use Rattle.rows.specs.declared.Row.{Row}
use Rattle.rows.specs.Numbers.{ceiling}
use Rattle.rows.specs.Row.{weight_in, moment_in}
use Rattle.head.specs.declared.Head.{Head}
use Rattle.head.specs.Head.{is_empty, summed}

-- "It is 0 in a fresh table and whenever rows are present.": what it is once a row has gone from this position and left this W
unfoldable pub rest_after : ℕ → ℕ → ℕ
rest_after total position = cond (eqb total 0) position 0

-- W and A with a row in another's place: the old row's share leaves, the new row's enters
abbrev pub total_with : Head → Row → Row → ℕ
total_with h old new = h.total + weight_in new - weight_in old

abbrev pub sum_with : Head → Row → Row → ℕ
sum_with h old new = h.sum + moment_in new - moment_in old

-- the head then; where no row is left the table rests where the old one stood
abbrev pub replaced : Head → Row → Row → Head
replaced h old new = summed h (total_with h old new) (sum_with h old new) (rest_after (total_with h old new) old.position)

-- "the sound table (resting position 0 to P)": the record and the test
pub record OrderlyRest (h : Head) : Type 0 where
  pub rest_high : h.resting ≤ ceiling
  pub only_empty : 0 < h.total → h.resting ≡ 0

unfoldable pub orderly_rest : Head → Bool
orderly_rest h = cond (is_empty h) (leb h.resting ceiling) (eqb h.resting 0)
