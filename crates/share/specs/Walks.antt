-- What the walk over the rows has done, and what it tells the calls. Nothing here is promised to a user: it is how the code comes to know what Sound and
-- Choice say.
use Rattle.std.specs.Prelude.{◌≡◌, true, false, ℕ, ◌+◌, ◌*◌, ◌≤◌, ◌<◌, drop, Option, Some, None, is_some}
use Rattle.std.proofs.Math.Option as Math
use Rattle.std.proofs.Math.Option.{none, some}
use Rattle.laws.specs.Lists.{sum_of}
use Rattle.rows.specs.declared.Row.{Row}
use Rattle.rows.specs.declared.looking.First.{First}
use Rattle.rows.specs.declared.looking.Seen.{Seen}
use Rattle.rows.specs.Numbers.{max_total, max_weight, ceiling}
use Rattle.rows.specs.Row.{is_going, weight_in, moment_in}
use Rattle.rows.specs.Orderly.{OrderlyRow}
use Rattle.rows.specs.Order.{bid}
use Rattle.rows.specs.Looks.{beyond}
use Rattle.head.specs.declared.Event.{Event}
use Rattle.head.specs.declared.Event.TheVariants.{Grant}
use Rattle.head.specs.Refusals.{first_refusal}
use Rattle.head.specs.declared.surveying.Survey.{Survey}
use Rattle.share.specs.declared.Table.{Table}
use Rattle.share.specs.Table.{row, reached, true_total, true_sum}
use Rattle.share.specs.Sound.{sound}
use Rattle.share.specs.Choice.{choose_from, choice}
use Rattle.share.specs.Asks.{Ahead}
use Rattle.share.specs.Calls.{checks_of}
use Rattle.share.specs.Events.{chosen}

-- an orderly row that V has not reached if it is going
pub record Fine (t : Table) (r : Row) : Type 0 where
  pub orderly : OrderlyRow r
  pub ahead : is_going r.state ≡ true → reached t r.position ≡ false

-- the first so far, as the choice has it
abbrev pub first_queue : Option First → Math.Option ℕ
first_queue None = none
first_queue (Some first) = some first.queue

-- the rows below i passed without a fault: what is carried is the part of W and A that is done, the best of them, and a position that no going one stands
-- before
pub record Passed (t : Table) (i : ℕ) (s : Seen) : Type 0 where
  pub fine_below : (j : ℕ) → j < i → Fine t (row t j)
  pub weights_left : s.weights + sum_of weight_in (drop i t.rows) ≡ true_total t.rows
  pub moments_left : s.moments + sum_of moment_in (drop i t.rows) ≡ true_sum t.rows
  pub nearest_below : (j : ℕ) → j < i → is_going (row t j).state ≡ true → s.nearest ≤ (row t j).position
  pub rest : choose_from t i (drop i t.rows) (first_queue s.first) ≡ choice t
  pub best : (first : First) → s.first ≡ Some first → first.bid ≡ bid (row t first.queue)

-- and it fits
pub record SoFar (t : Table) (i : ℕ) (s : Seen) : Type 0 where
  pub weights_most : s.weights ≤ i * max_weight
  pub moments_most : s.moments ≤ i * (max_weight * ceiling)
  pub nearest_most : s.nearest ≤ beyond
  pub passed : Passed t i s

-- the walk is over: past the last row of a table that weighs no more than its rows can; or the table weighs more, or has a row with a fault
pub record Walked (t : Table) (walk : Option Seen) : Type 0 where
  pub over : (s : Seen) → walk ≡ Some s → SoFar t 64 s × (t.head.total ≤ max_total)
  pub stopped : walk ≡ None → t.head.total ≤ max_total → ((j : ℕ) → Fine t (row t j)) → ⊥

-- a survey that says of the table what is so: of a sound one that is not empty whom a grant names, and a position that no going row stands before
pub record Told (t : Table) (s : Survey) : Type 0 where
  pub chosen_told : 0 < t.head.total → s.chosen ≡ Some (chosen t)
  pub nearest_told : (i : ℕ) → is_going (row t i).state ≡ true → s.nearest ≤ (row t i).position
  pub nearest_high : s.nearest ≤ beyond

-- there is one exactly if the table is sound
pub record Surveyed (t : Table) (survey : Option Survey) : Type 0 where
  pub sound_told : is_some survey ≡ sound t
  pub told : (s : Survey) → survey ≡ Some s → Told t s

-- what is known of an event that is not refused
pub record Permitted (t : Table) (e : Event) (queue nearest : ℕ) : Type 0 where
  pub nothing_against : first_refusal (checks_of t e) ≡ none
  pub ahead : Ahead t nearest
  pub to_the_chosen : e ≡ Grant → queue ≡ chosen t
