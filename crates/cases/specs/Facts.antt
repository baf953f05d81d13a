-- What a bench case may say of one event: of its answer, and of the table that it leaves.
use Rattle.std.specs.Prelude.{Bool, true, false, not, ◌&&◌, List, [], ◌∷◌, ◌++◌, ℕ, eqb, ℤ, pos, negsuc, neg_ℤ, ◌*ℤ◌, Result, Ok, Err}
use Rattle.laws.specs.Lists.{all}
use Rattle.rows.specs.declared.Row.{Row}
use Rattle.rows.specs.declared.State.{State}
use Rattle.rows.specs.declared.State.TheVariants.{Free, Going, Asking}
use Rattle.rows.specs.Numbers.{default_length}
use Rattle.rows.specs.Row.{is_free, is_going}
use Rattle.head.specs.declared.Refusal.{Refusal}
use Rattle.head.specs.declared.Answer.{Answer}
use Rattle.head.specs.declared.Answer.TheVariants.{Accepted, Granted, Reported, Stands}
use Rattle.head.specs.declared.Event.{Event}
use Rattle.head.specs.declared.Event.TheVariants.{Fresh}
use Rattle.head.specs.Answers.{number}
use Rattle.head.specs.Lag.{lag_of, lag_unit}
use Rattle.share.specs.declared.Reply.{Reply}
use Rattle.share.specs.declared.Table.{Table}
use Rattle.share.specs.Calls.{step}
use Rattle.share.specs.LagList.{lags_into}
use Rattle.share.specs.Sound.{sound}
use Rattle.share.specs.Table.{row, with_slice}

-- a number below zero
abbrev pub minus : ℕ → ℤ
minus n = neg_ℤ (pos n)

-- a fraction; two are equal as their cross products are
infix 50 ◌over◌
pub data Fraction : Type 0 where
  ◌over◌ : ℤ → ℕ → Fraction

pub data Fact : Type 0 where
  -- the answer's number
  answers : ℕ → Fact
  -- a grant of this queue and slice
  grants : ℕ → ℕ → Fact
  -- A and W
  sums : ℕ → ℕ → Fact
  weighs : ℕ → Fact
  -- V, or what V is not
  virtual_time : Fraction → Fact
  not_virtual_time : Fraction → Fact
  -- a queue's lag in ticks; the lag report of the first queues, the others' being 0
  lag : ℕ → Fraction → Fact
  reports : List ℤ → Fact
  -- an empty table, and where it rests
  rests_at : ℕ → Fact
  -- a queue's row
  enters_at : ℕ → ℕ → Fact
  stands_free : ℕ → Fact
  stands_going : ℕ → Fact
  -- the table was sound before the event
  from_sound : Fact
  -- the table is as it was, but for the slice
  only_takes_the_slice_in : Fact

abbrev pub same : ℤ → ℤ → Bool
same (pos a) (pos b) = eqb a b
same (pos a) (negsuc b) = false
same (negsuc a) (pos b) = false
same (negsuc a) (negsuc b) = eqb a b

-- the list begins so, and the rest of it is zeros
abbrev pub begins : List ℤ → List ℤ → Bool
begins [] xs = all (same (pos 0)) xs
begins (a ∷ more) [] = false
begins (a ∷ more) (x ∷ xs) = same a x && begins more xs

abbrev pub equals : Fraction → Fraction → Bool
equals (a over b) (c over d) = same (a *ℤ pos d) (c *ℤ pos b)

abbrev pub is_grant_of : Result Answer Refusal → ℕ → ℕ → Bool
is_grant_of (Ok Accepted) queue slice = false
is_grant_of (Ok (Granted q s)) queue slice = eqb q queue && eqb s slice
is_grant_of (Ok (Reported d)) queue slice = false
is_grant_of (Ok (Stands s)) queue slice = false
is_grant_of (Err why) queue slice = false

-- every number that stands in a table, to compare two tables by
abbrev pub state_numbers : State → List ℕ
state_numbers Free = 0 ∷ []
state_numbers Going = 1 ∷ []
state_numbers (Asking q) = 2 ∷ q.opening ∷ q.length ∷ q.served ∷ q.next ∷ []

abbrev pub row_numbers : List Row → List ℕ
row_numbers [] = []
row_numbers (r ∷ rs) = r.weight ∷ r.position ∷ (state_numbers r.state ++ row_numbers rs)

abbrev pub flag_number : Bool → ℕ
flag_number true = 1
flag_number false = 0

abbrev pub table_numbers : Table → List ℕ
table_numbers t =
    t.head.total ∷ t.head.sum ∷ t.head.resting ∷ t.head.terms.limit ∷ t.head.terms.rule ∷ t.head.terms.default ∷ flag_number t.head.out ∷ t.head.holder ∷ t.head.ticks ∷ row_numbers t.rows

abbrev pub same_numbers : List ℕ → List ℕ → Bool
same_numbers [] [] = true
same_numbers [] (y ∷ ys) = false
same_numbers (x ∷ xs) [] = false
same_numbers (x ∷ xs) (y ∷ ys) = eqb x y && same_numbers xs ys

-- a fact holds of the table before an event and of the reply to it
unfoldable pub holds : Table → Reply → Fact → Bool
holds before r (answers n) = eqb (number r.answer) n
holds before r (grants queue slice) = is_grant_of r.answer queue slice
holds before r (sums a w) = eqb r.table.head.sum a && eqb r.table.head.total w
holds before r (weighs w) = eqb r.table.head.total w
holds before r (virtual_time v) = equals (pos r.table.head.sum over r.table.head.total) v
holds before r (not_virtual_time v) = not (equals (pos r.table.head.sum over r.table.head.total) v)
holds before r (lag queue v) = equals (lag_of r.table.head (row r.table queue) over lag_unit r.table.head) v
holds before r (reports lags) = begins lags (lags_into r.table [])
holds before r (rests_at position) = eqb r.table.head.total 0 && eqb r.table.head.resting position
holds before r (enters_at queue position) = eqb (row r.table queue).position position
holds before r (stands_free queue) = is_free (row r.table queue).state
holds before r (stands_going queue) = is_going (row r.table queue).state
holds before r from_sound = sound before
holds before r only_takes_the_slice_in = same_numbers (table_numbers r.table) (table_numbers (with_slice before false 0 0))

-- an event, and what is said of it; a fresh table by its slice limit, of rule 1 and the house default
abbrev pub fresh : ℕ → Event
fresh limit = Fresh (record { limit = limit; rule = 1; default = default_length })

abbrev pub fresh_of : ℕ → ℕ → ℕ → Event
fresh_of limit rule default = Fresh (record { limit = limit; rule = rule; default = default })

infix 20 ◌then◌
pub data Line : Type 0 where
  ◌then◌ : Event → List Fact → Line

-- a run of events from a table, with a fact or more after each
pub record Case : Type 0 where
  pub from : Table
  pub lines : List Line

unfoldable pub line_holds : Table → List Line → Bool
line_holds t [] = true
line_holds t ((event then facts) ∷ rest) = all (holds t (step t event)) facts && line_holds (step t event).table rest

unfoldable pub case_holds : Case → Bool
case_holds c = line_holds c.from c.lines
