-- Document 01, "Grant": what a grant is to be.
use Rattle.std.specs.Prelude.{true, ◌≡◌, ℕ, ◌-◌, ◌≤◌, min}
use Rattle.rows.specs.declared.Request.{Request}
use Rattle.rows.specs.declared.State.TheVariants.{Asking}
use Rattle.rows.specs.Numbers.{ceiling}
use Rattle.share.specs.declared.Table.{Table}
use Rattle.share.specs.Choice.{eligible, deadline}
use Rattle.share.specs.Table.{row, AtMostV}

-- what an accepted grant answers: the row is asking, its opening is at most V, no such row has a lesser deadline, and of those with the same deadline none comes
-- before it by the table's rule; the slice is the lesser of the limit and what is left of the request; and the deadline is at most P
pub record Rightly (t : Table) (queue slice : ℕ) : Type 0 where
  pub request : Request
  pub asking : (row t queue).state ≡ Asking request
  pub opening_reached : AtMostV t request.opening
  pub least : (j : ℕ) → eligible t (row t j) ≡ true → deadline (row t queue) ≤ deadline (row t j)
  -- rule 1: "of equal deadlines, the lowest number"
  pub tie_1 : t.head.terms.rule ≡ 1 → (j : ℕ) → eligible t (row t j) ≡ true → deadline (row t j) ≡ deadline (row t queue) → queue ≤ j
  -- rule 2 (T-06): "Equal deadlines go to the lesser position, then the lower number."
  pub tie_2 : t.head.terms.rule ≡ 2 → (j : ℕ) → eligible t (row t j) ≡ true → deadline (row t j) ≡ deadline (row t queue) → (row t queue).position ≤ (row t j).position
  pub tie_2_level : t.head.terms.rule ≡ 2 → (j : ℕ) → eligible t (row t j) ≡ true → deadline (row t j) ≡ deadline (row t queue) → (row t j).position ≡ (row t queue).position → queue ≤ j
  pub slice_is : slice ≡ min t.head.terms.limit (request.length - request.served)
  pub below_ceiling : deadline (row t queue) ≤ ceiling
