-- Document 01, "Numbers of refusal": the number and the values of each answer.
use Rattle.std.specs.Prelude.{Bool, true, false, ℕ, Some, None, Result, Ok, Err}
use Rattle.std.proofs.Math.Option.{Option, none, some}
use Rattle.rows.specs.declared.Standing.{Standing}
use Rattle.head.specs.declared.Answer.{Answer}
use Rattle.head.specs.declared.Answer.TheVariants.{Accepted, Granted, Reported, Stands}
use Rattle.head.specs.declared.Refusal.{Refusal}
use Rattle.head.specs.declared.Shown.{Shown}
use Rattle.head.specs.declared.Refusal.TheVariants.{Unsound, QueueOutside, WeightOutside, LengthOutside, SliceOut, NotHolder, RowTaken, NotAsking, LagBelow, TicksOutside, TableEmpty, CeilingPassed, ListShort, LimitOutside, RowFree, RuleOutside, DefaultOutside}

-- the column "No."
abbrev pub refusal_number : Refusal → ℕ
refusal_number Unsound = 1
refusal_number QueueOutside = 2
refusal_number WeightOutside = 3
refusal_number LengthOutside = 4
refusal_number SliceOut = 5
refusal_number NotHolder = 6
refusal_number RowTaken = 7
refusal_number NotAsking = 8
refusal_number LagBelow = 9
refusal_number TicksOutside = 10
refusal_number TableEmpty = 11
refusal_number CeilingPassed = 12
refusal_number ListShort = 13
refusal_number LimitOutside = 14
-- T-05, "Refusals: 1, 2, then 31 for a free row."
refusal_number RowFree = 31
-- T-06, "another rule number is 23"
refusal_number RuleOutside = 23
-- T-09, "a default other than 8 or 20 is 25"
refusal_number DefaultOutside = 25

-- 0 for accepted
abbrev pub number : Result Answer Refusal → ℕ
number (Ok Accepted) = 0
number (Ok (Granted queue slice)) = 0
number (Ok (Reported denominator)) = 0
number (Ok (Stands standing)) = 0
number (Err why) = refusal_number why

-- not refused
abbrev pub is_accepted : Result Answer Refusal → Bool
is_accepted (Ok Accepted) = true
is_accepted (Ok (Granted queue slice)) = true
is_accepted (Ok (Reported denominator)) = true
is_accepted (Ok (Stands standing)) = true
is_accepted (Err why) = false

-- "other fields of the answer are 0, as are those that an accepted call doesn't speak of"
abbrev pub queue_granted : Result Answer Refusal → ℕ
queue_granted (Ok Accepted) = 0
queue_granted (Ok (Granted queue slice)) = queue
queue_granted (Ok (Reported denominator)) = 0
queue_granted (Ok (Stands standing)) = 0
queue_granted (Err why) = 0

abbrev pub slice_granted : Result Answer Refusal → ℕ
slice_granted (Ok Accepted) = 0
slice_granted (Ok (Granted queue slice)) = slice
slice_granted (Ok (Reported denominator)) = 0
slice_granted (Ok (Stands standing)) = 0
slice_granted (Err why) = 0

abbrev pub denominator_given : Result Answer Refusal → ℕ
denominator_given (Ok Accepted) = 0
denominator_given (Ok (Granted queue slice)) = 0
denominator_given (Ok (Reported denominator)) = denominator
denominator_given (Ok (Stands standing)) = 0
denominator_given (Err why) = 0

-- T-05: where a row stands, which only the panel's call tells
abbrev pub standing_told : Result Answer Refusal → Option Standing
standing_told (Ok Accepted) = none
standing_told (Ok (Granted queue slice)) = none
standing_told (Ok (Reported denominator)) = none
standing_told (Ok (Stands standing)) = some standing
standing_told (Err why) = none

-- "Any other line is answered 15"
abbrev pub broken : ℕ
broken = 15

-- an answer that grants nothing
abbrev pub plainly : ℕ → Shown
plainly answer = record { answer = answer; grant = None }

-- an answer's number, and queue and slice where there is a grant
abbrev pub shown_as : Result Answer Refusal → Shown
shown_as (Ok Accepted) = plainly 0
shown_as (Ok (Granted queue slice)) = record { answer = 0; grant = Some (record { queue = queue; slice = slice }) }
shown_as (Ok (Reported denominator)) = plainly 0
shown_as (Ok (Stands standing)) = plainly 0
shown_as (Err why) = plainly (refusal_number why)
