-- Document 01, "Numbers of refusal", read as sentences and not as tests: which refusal speaks against a call on a table, call by call.
use Rattle.std.specs.Prelude.{Bool, true, false, List, ◌⊎◌, ◌≢◌, ◌≡◌, ℕ, ◌<◌, ℤ, length}
use Rattle.rows.specs.declared.Terms.{Terms}
use Rattle.rows.specs.Numbers.{queues, max_weight, max_length, max_limit, max_rule, default_length, former_default, ceiling}
use Rattle.rows.specs.Row.{is_free, is_asking}
use Rattle.head.specs.declared.Event.TheVariants.{Fresh, Join, Leave, Reweight, Length, Grant, Return}
use Rattle.head.specs.declared.Refusal.{Refusal}
use Rattle.head.specs.declared.Refusal.TheVariants.{Unsound, QueueOutside, WeightOutside, LengthOutside, SliceOut, NotHolder, RowTaken, NotAsking, LagBelow, TicksOutside, TableEmpty, CeilingPassed, ListShort, LimitOutside, RowFree, RuleOutside, DefaultOutside}
use Rattle.head.specs.Answers.{refusal_number}
use Rattle.head.specs.Lag.{lag_of}
use Rattle.share.specs.declared.Table.{Table}
use Rattle.share.specs.Table.{row}
use Rattle.share.specs.Sound.{Sound}
use Rattle.share.specs.Choice.{deadline, Chosen}
use Rattle.calls.specs.Meaning.{NotBelow0}
use Rattle.calls.specs.Public.{Call, event, release, report, standing}

-- 1 "the table isn't sound"
abbrev pub NotSound : Table → Type 0
NotSound t = Sound t → ⊥

-- 2 "queue number above 63"
abbrev pub QueueAbove : ℕ → Type 0
QueueAbove queue = 63 < queue

-- 3 "weight outside 1 to 16"
abbrev pub WeightWrong : ℕ → Type 0
WeightWrong weight = (weight < 1) ⊎ (max_weight < weight)

-- 4 "length above 10,000"
abbrev pub LengthAbove : ℕ → Type 0
LengthAbove n = max_length < n

-- 5 "a slice is out"
abbrev pub SliceIsOut : Table → Type 0
SliceIsOut t = t.head.out ≡ true

-- 6 "no slice out, or another holds it"
abbrev pub HeldByAnother : Table → ℕ → Type 0
HeldByAnother t queue = (t.head.out ≡ false) ⊎ (queue ≢ t.head.holder)

-- 7 "row not free"
abbrev pub Taken : Table → ℕ → Type 0
Taken t queue = is_free (row t queue).state ≡ false

-- 8 "row free or going"
abbrev pub AsksNothing : Table → ℕ → Type 0
AsksNothing t queue = is_asking (row t queue).state ≡ false

-- 9 "lag below 0": the numerator that the lag report has for the row is not 0 or more
abbrev pub Owes : Table → ℕ → Type 0
Owes t queue = NotBelow0 (lag_of t.head (row t queue)) → ⊥

-- 10 "more ticks than the slice"
abbrev pub TooManyTicks : Table → ℕ → Type 0
TooManyTicks t used = t.head.ticks < used

-- 11 "table empty": every row is free
abbrev pub AllFree : Table → Type 0
AllFree t = (i : ℕ) → is_free (row t i).state ≡ true

-- 12 "the chosen deadline is above P"
pub record PastCeiling (t : Table) : Type 0 where
  pub queue : ℕ
  pub is_chosen : Chosen t queue
  pub above : ceiling < deadline (row t queue)

-- 13 "list shorter than 64"
abbrev pub TooShort : List ℤ → Type 0
TooShort lent = length lent < queues

-- 14 "slice limit outside 1 to 100"
abbrev pub LimitWrong : Terms → Type 0
LimitWrong terms = (terms.limit < 1) ⊎ (max_limit < terms.limit)

-- 23 "another rule number" than 1 or 2 (T-06)
abbrev pub RuleWrong : Terms → Type 0
RuleWrong terms = (terms.rule < 1) ⊎ (max_rule < terms.rule)

-- 25 "a default other than 8 or 20" (T-09)
abbrev pub DefaultWrong : Terms → Type 0
DefaultWrong terms = (terms.default ≢ default_length) × (terms.default ≢ former_default)

-- 31 "for a free row" (T-05)
abbrev pub NobodyThere : Table → ℕ → Type 0
NobodyThere t queue = is_free (row t queue).state ≡ true

-- for each call the numbers that it can be refused by
pub data Against (t : Table) : Call → Refusal → Type 0 where
  fresh_14 : {terms : Terms} → LimitWrong terms → Against t (event (Fresh terms)) LimitOutside
  fresh_23 : {terms : Terms} → RuleWrong terms → Against t (event (Fresh terms)) RuleOutside
  fresh_25 : {terms : Terms} → DefaultWrong terms → Against t (event (Fresh terms)) DefaultOutside
  join_1 : {q w l : ℕ} → NotSound t → Against t (event (Join q w l)) Unsound
  join_2 : {q w l : ℕ} → QueueAbove q → Against t (event (Join q w l)) QueueOutside
  join_3 : {q w l : ℕ} → WeightWrong w → Against t (event (Join q w l)) WeightOutside
  join_4 : {q w l : ℕ} → LengthAbove l → Against t (event (Join q w l)) LengthOutside
  join_5 : {q w l : ℕ} → SliceIsOut t → Against t (event (Join q w l)) SliceOut
  join_7 : {q w l : ℕ} → Taken t q → Against t (event (Join q w l)) RowTaken
  leave_1 : {q : ℕ} → NotSound t → Against t (event (Leave q)) Unsound
  leave_2 : {q : ℕ} → QueueAbove q → Against t (event (Leave q)) QueueOutside
  leave_5 : {q : ℕ} → SliceIsOut t → Against t (event (Leave q)) SliceOut
  leave_8 : {q : ℕ} → AsksNothing t q → Against t (event (Leave q)) NotAsking
  reweight_1 : {q w l : ℕ} → NotSound t → Against t (event (Reweight q w l)) Unsound
  reweight_2 : {q w l : ℕ} → QueueAbove q → Against t (event (Reweight q w l)) QueueOutside
  reweight_3 : {q w l : ℕ} → WeightWrong w → Against t (event (Reweight q w l)) WeightOutside
  reweight_4 : {q w l : ℕ} → LengthAbove l → Against t (event (Reweight q w l)) LengthOutside
  reweight_5 : {q w l : ℕ} → SliceIsOut t → Against t (event (Reweight q w l)) SliceOut
  reweight_8 : {q w l : ℕ} → AsksNothing t q → Against t (event (Reweight q w l)) NotAsking
  reweight_9 : {q w l : ℕ} → Owes t q → Against t (event (Reweight q w l)) LagBelow
  length_1 : {q l : ℕ} → NotSound t → Against t (event (Length q l)) Unsound
  length_2 : {q l : ℕ} → QueueAbove q → Against t (event (Length q l)) QueueOutside
  length_4 : {q l : ℕ} → LengthAbove l → Against t (event (Length q l)) LengthOutside
  length_5 : {q l : ℕ} → SliceIsOut t → Against t (event (Length q l)) SliceOut
  length_8 : {q l : ℕ} → AsksNothing t q → Against t (event (Length q l)) NotAsking
  grant_1 : NotSound t → Against t (event Grant) Unsound
  grant_5 : SliceIsOut t → Against t (event Grant) SliceOut
  grant_11 : AllFree t → Against t (event Grant) TableEmpty
  grant_12 : PastCeiling t → Against t (event Grant) CeilingPassed
  return_1 : {q u : ℕ} {early : Bool} → NotSound t → Against t (event (Return q u early)) Unsound
  return_2 : {q u : ℕ} {early : Bool} → QueueAbove q → Against t (event (Return q u early)) QueueOutside
  return_6 : {q u : ℕ} {early : Bool} → HeldByAnother t q → Against t (event (Return q u early)) NotHolder
  return_10 : {q u : ℕ} {early : Bool} → TooManyTicks t u → Against t (event (Return q u early)) TicksOutside
  release_1 : NotSound t → Against t release Unsound
  report_1 : {lent : List ℤ} → NotSound t → Against t (report lent) Unsound
  report_13 : {lent : List ℤ} → TooShort lent → Against t (report lent) ListShort
  standing_1 : {q : ℕ} → NotSound t → Against t (standing q) Unsound
  standing_2 : {q : ℕ} → QueueAbove q → Against t (standing q) QueueOutside
  standing_31 : {q : ℕ} → NobodyThere t q → Against t (standing q) RowFree

-- "Where several apply, the lowest number answers."
abbrev pub NoneLower : Table → Call → Refusal → Type 0
NoneLower t c why = (other : Refusal) → refusal_number other < refusal_number why → Against t c other → ⊥

-- every call but fresh is on a table
abbrev pub OnTable : Call → Type 0
OnTable (event (Fresh terms)) = ⊥
OnTable (event (Join q w l)) = Unit {0}
OnTable (event (Leave q)) = Unit {0}
OnTable (event (Reweight q w l)) = Unit {0}
OnTable (event (Length q l)) = Unit {0}
OnTable (event Grant) = Unit {0}
OnTable (event (Return q u early)) = Unit {0}
OnTable release = Unit {0}
OnTable (report lent) = Unit {0}
OnTable (standing q) = Unit {0}
