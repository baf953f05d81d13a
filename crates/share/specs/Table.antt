-- Document 01, "A row and a sound table": the table and virtual time.
use Rattle.std.specs.Prelude.{◌≡◌, Bool, List, ℕ, get_or, set}
use Rattle.laws.specs.Lists.{sum_of}
use Rattle.rows.specs.declared.Row.{Row}
use Rattle.rows.specs.Row.{blank, weight_in, moment_in}
use Rattle.head.specs.Head as Head
use Rattle.head.specs.Head.{sliced}
use Rattle.head.specs.Rest.{replaced}
use Rattle.share.specs.declared.Table.{Table}

-- the row of a queue number; past the last there is none
unfoldable pub row : Table → ℕ → Row
row t i = get_or t.rows i blank

-- "total weight W of all rows not free"
unfoldable pub true_total : List Row → ℕ
true_total rows = sum_of weight_in rows

-- "the sum A of weight x position over them"
unfoldable pub true_sum : List Row → ℕ
true_sum rows = sum_of moment_in rows

-- a position is at most V, and the same as a test (rows' Virtual has the cross product)
abbrev pub AtMostV : Table → ℕ → Type 0
AtMostV t position = Head.AtMostV t.head position

abbrev pub reached : Table → ℕ → Bool
reached t position = Head.reached_by t.head position

-- the table with a row put in another's place: the old row's share leaves W and A, the new row's enters; where no row is left it rests (T-02)
unfoldable pub placed : Table → ℕ → Row → Table
placed t i r = record { rows = set t.rows i r; head = replaced t.head (row t i) r }

-- the table with a slice out, or with none
unfoldable pub with_slice : Table → Bool → ℕ → ℕ → Table
with_slice t out holder ticks = record { rows = t.rows; head = sliced t.head out holder ticks }

-- W and A are what they are said to be
pub record TrueSums (t : Table) : Type 0 where
  pub total_true : t.head.total ≡ true_total t.rows
  pub sum_true : t.head.sum ≡ true_sum t.rows
