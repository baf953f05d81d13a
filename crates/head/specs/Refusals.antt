-- Document 01, "Numbers of refusal": what each event is refused for, in its order. An event asks whether the table is sound, its head, and one row: that of
-- the queue that it names, or for a grant that of the queue that is chosen.
use Rattle.std.specs.Prelude.{Bool, false, not, cond, ◌&&◌, List, [], ◌∷◌, ℕ, leb, ltb, eqb, ⊤, Result, Ok, Err}
use Rattle.std.specs.Result.{result_and}
use Rattle.std.proofs.Math.Option.{Option, none, some}
use Rattle.rows.specs.declared.Row.{Row}
use Rattle.rows.specs.declared.State.{State}
use Rattle.rows.specs.declared.State.TheVariants.{Free, Going, Asking}
use Rattle.rows.specs.declared.Terms.{Terms}
use Rattle.rows.specs.Numbers.{queues, max_weight, max_length}
use Rattle.rows.specs.Row.{is_free, is_asking}
use Rattle.rows.specs.Orderly.{outside, fits_ceiling, limit_outside, rule_outside, default_outside}
use Rattle.head.specs.declared.Event.{Event}
use Rattle.head.specs.declared.Event.TheVariants.{Fresh, Join, Leave, Reweight, Length, Grant, Return}
use Rattle.head.specs.declared.Head.{Head}
use Rattle.head.specs.declared.Refusal.{Refusal}
use Rattle.head.specs.declared.Refusal.TheVariants.{Unsound, QueueOutside, WeightOutside, LengthOutside, SliceOut, NotHolder, RowTaken, NotAsking, LagBelow, TicksOutside, TableEmpty, CeilingPassed, LimitOutside, RowFree, RuleOutside, DefaultOutside}
use Rattle.head.specs.Head.{is_empty, reached_by}

-- a refusal, and the test that tells when it applies
infix 20 ◌when◌
pub data Check : Type 0 where
  ◌when◌ : Refusal → Bool → Check

-- "Where several apply, the lowest number answers." Each list below is in that order.
abbrev pub first_refusal : List Check → Option Refusal
first_refusal [] = none
first_refusal ((why when applies) ∷ rest) = cond applies (some why) (first_refusal rest)

-- the same as a verdict
abbrev pub verdict_of : Option Refusal → Result ⊤ Refusal
verdict_of none = Ok tt
verdict_of (some why) = Err why

-- and the verdict of one check
abbrev pub refused_when : Refusal → Bool → Result ⊤ Refusal
refused_when why applies = cond applies (Err why) (Ok tt)

-- one check after another, as the code goes: the first that applies ends it
abbrev pub judge : List Check → Result ⊤ Refusal
judge [] = Ok tt
judge ((why when applies) ∷ rest) = result_and (refused_when why applies) (judge rest)

-- 2 "queue number above 63"
unfoldable pub queue_outside : ℕ → Bool
queue_outside queue = leb queues queue

-- 3 "weight outside 1 to 16"
abbrev pub weight_outside : ℕ → Bool
weight_outside weight = outside 1 max_weight weight

-- 4 "length above 10,000"
unfoldable pub length_outside : ℕ → Bool
length_outside length = ltb max_length length

-- 6 "return: no slice out, or another holds it"
unfoldable pub not_holder : Head → ℕ → Bool
not_holder h queue = not (h.out && eqb queue h.holder)

-- 7 "join: row not free"
unfoldable pub row_taken : Row → Bool
row_taken r = not (is_free r.state)

-- 8 "leave, reweight, length: row free or going"
unfoldable pub not_asking : Row → Bool
not_asking r = not (is_asking r.state)

-- 9 "reweight: lag below 0"
unfoldable pub lag_below : Head → Row → Bool
lag_below h r = not (reached_by h r.position)

-- 10 "return: more ticks than the slice": what a return may use of it
abbrev pub may_use : ℕ → ℕ
may_use ticks = ticks

unfoldable pub ticks_outside : ℕ → ℕ → Bool
ticks_outside ticks used = ltb (may_use ticks) used

-- 12 "grant: the chosen deadline is above P"
abbrev pub passed_as : State → ℕ → Bool
passed_as Free weight = false
passed_as Going weight = false
passed_as (Asking q) weight = not (fits_ceiling weight q)

unfoldable pub ceiling_passed : Row → Bool
ceiling_passed r = passed_as r.state r.weight

-- 1 "the table isn't sound"; 5 "a slice is out (join, leave, reweight, length, grant)"; 11 "grant: table empty"; 14 "fresh: slice limit outside 1 to 100"; 23 "another rule number ... after 14"; 25
-- "a default other than 8 or 20 ... after 23"
abbrev pub fresh_checks : Terms → List Check
fresh_checks terms =
    (LimitOutside when limit_outside terms) ∷ (RuleOutside when rule_outside terms) ∷ (DefaultOutside when default_outside terms) ∷ []

abbrev pub return_checks : Bool → Head → ℕ → ℕ → List Check
return_checks sound h queue used =
    (Unsound when not sound)
    ∷ (QueueOutside when queue_outside queue)
    ∷ (NotHolder when not_holder h queue)
    ∷ (TicksOutside when ticks_outside h.ticks used)
    ∷ []

-- of the call that tells where a row stands
abbrev pub standing_checks : Bool → Row → ℕ → List Check
standing_checks sound r queue = (Unsound when not sound) ∷ (QueueOutside when queue_outside queue) ∷ (RowFree when is_free r.state) ∷ []

unfoldable pub checks_for : Bool → Head → Row → Event → List Check
checks_for sound h r (Fresh terms) = fresh_checks terms
checks_for sound h r (Join queue weight length) =
    (Unsound when not sound)
    ∷ (QueueOutside when queue_outside queue)
    ∷ (WeightOutside when weight_outside weight)
    ∷ (LengthOutside when length_outside length)
    ∷ (SliceOut when h.out)
    ∷ (RowTaken when row_taken r)
    ∷ []
checks_for sound h r (Leave queue) =
    (Unsound when not sound)
    ∷ (QueueOutside when queue_outside queue)
    ∷ (SliceOut when h.out)
    ∷ (NotAsking when not_asking r)
    ∷ []
checks_for sound h r (Reweight queue weight length) =
    (Unsound when not sound)
    ∷ (QueueOutside when queue_outside queue)
    ∷ (WeightOutside when weight_outside weight)
    ∷ (LengthOutside when length_outside length)
    ∷ (SliceOut when h.out)
    ∷ (NotAsking when not_asking r)
    ∷ (LagBelow when lag_below h r)
    ∷ []
checks_for sound h r (Length queue length) =
    (Unsound when not sound)
    ∷ (QueueOutside when queue_outside queue)
    ∷ (LengthOutside when length_outside length)
    ∷ (SliceOut when h.out)
    ∷ (NotAsking when not_asking r)
    ∷ []
checks_for sound h r Grant =
    (Unsound when not sound)
    ∷ (SliceOut when h.out)
    ∷ (TableEmpty when is_empty h)
    ∷ (CeilingPassed when ceiling_passed r)
    ∷ []
checks_for sound h r (Return queue used early) = return_checks sound h queue used

unfoldable pub verdict_for : Bool → Head → Row → Event → Result ⊤ Refusal
verdict_for sound h r e = verdict_of (first_refusal (checks_for sound h r e))
