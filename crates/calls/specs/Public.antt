-- The public calls on a table, and runs of them.
use Rattle.std.specs.Prelude.{List, [], ◌∷◌, ◌≡◌, ℕ, ℤ}
use Rattle.std.proofs.Math.Option.{none}
use Rattle.rows.specs.declared.Terms.{Terms}
use Rattle.head.specs.declared.Event.{Event}
use Rattle.head.specs.declared.Refusal.{Refusal}
use Rattle.head.specs.Answers.{refusal_number, number, queue_granted, slice_granted, denominator_given, standing_told}
use Rattle.head.specs.Refusals.{Check}
use Rattle.share.specs.declared.Reply.{Reply}
use Rattle.share.specs.declared.Table.{Table}
use Rattle.share.specs.Calls.{step, checks_of, done_by, accepted, fresh_reply, release_checks, release_reply, lag_checks, lag_reply, reported_reply, standing_checks, stands_reply, standing_reply}
use Rattle.share.specs.Release.{released}
use Rattle.share.specs.Table.{row}

-- one of the seven events, a release, the lag report on a lent list, or the panel's question where a row stands (T-05)
pub data Call : Type 0 where
  event : Event → Call
  release : Call
  report : List ℤ → Call
  standing : ℕ → Call

-- what the call answers, by the function that its contract cites
abbrev pub answered : Table → Call → Reply
answered t (event e) = step t e
answered t release = release_reply t
answered t (report lent) = lag_reply t lent
answered t (standing queue) = standing_reply t queue

-- what it is refused for, in its order, and what it does where nothing of that applies
abbrev pub checks_on : Table → Call → List Check
checks_on t (event e) = checks_of t e
checks_on t release = release_checks t
checks_on t (report lent) = lag_checks t lent
checks_on t (standing queue) = standing_checks t queue

abbrev pub done_on : Table → Call → Reply
done_on t (event e) = done_by t e
done_on t release = accepted (released t)
done_on t (report lent) = reported_reply t
done_on t (standing queue) = stands_reply t (row t queue).position

-- a call that answers a refusal hands the given table back equal, its other values are 0, and it tells no standing
pub record HandedBack (t : Table) (r : Reply) (why : Refusal) : Type 0 where
  pub answer_is : number r.answer ≡ refusal_number why
  pub queue_none : queue_granted r.answer ≡ 0
  pub slice_none : slice_granted r.answer ≡ 0
  pub denominator_none : denominator_given r.answer ≡ 0
  pub standing_none : standing_told r.answer ≡ none
  pub table_same : r.table ≡ t

-- the table that a list of calls leaves
abbrev pub run_calls : Table → List Call → Table
run_calls t [] = t
run_calls t (c ∷ cs) = run_calls (answered t c).table cs

-- "Over any run of calls from a fresh table": from the one that `fresh` hands back
unfoldable pub table_of : Terms → List Call → Table
table_of terms cs = run_calls (fresh_reply terms).table cs

-- the events among the calls, in their order
abbrev pub events_of : List Call → List Event
events_of [] = []
events_of (event e ∷ cs) = e ∷ events_of cs
events_of (release ∷ cs) = events_of cs
events_of (report lent ∷ cs) = events_of cs
events_of (standing queue ∷ cs) = events_of cs
