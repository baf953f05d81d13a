-- What each call answers, refused ones too: the contracts of the public calls say that the code's result is this and nothing else.
use Rattle.std.specs.Prelude.{Bool, not, List, [], ◌∷◌, ℕ, ltb, ℤ, length, Result, Ok, Err}
use Rattle.std.proofs.Math.Option.{Option, none, some}
use Rattle.rows.specs.declared.Terms.{Terms}
use Rattle.rows.specs.Numbers.{queues, least_terms}
use Rattle.head.specs.declared.Answer.{Answer}
use Rattle.head.specs.declared.Answer.TheVariants.{Accepted, Granted, Reported, Stands}
use Rattle.head.specs.declared.Event.{Event}
use Rattle.head.specs.declared.Event.TheVariants.{Fresh, Join, Leave, Reweight, Length, Grant, Return}
use Rattle.head.specs.declared.Refusal.{Refusal}
use Rattle.head.specs.declared.Refusal.TheVariants.{Unsound, ListShort}
use Rattle.head.specs.Head.{concerns, standing_by}
use Rattle.head.specs.Lag.{lag_unit}
use Rattle.head.specs.Refusals as Refusals
use Rattle.head.specs.Refusals.{Check, ◌when◌, first_refusal, checks_for}
use Rattle.share.specs.declared.Reply.{Reply}
use Rattle.share.specs.declared.Table.{Table}
use Rattle.share.specs.Table.{row}
use Rattle.share.specs.Sound.{sound}
use Rattle.share.specs.LagList.{lags_into}
use Rattle.share.specs.Release.{released}
use Rattle.share.specs.Events.{empty_table, joined, left, reweighted, length_set, granted, chosen, slice_given, returned}

-- "A refusal hands the given table back equal"; with no refusal the event is done
abbrev pub unless : {A : Type 0} → Option Refusal → (Refusal → A) → A → A
unless none refuse do_it = do_it
unless (some why) refuse do_it = refuse why

abbrev pub refused : Table → Refusal → Reply
refused t why = record { answer = Err why; table = t }

abbrev pub accepted : Table → Reply
accepted t = record { answer = Ok Accepted; table = t }

-- the table handed back beside what was answered
abbrev pub replied : Table → Result Answer Refusal → Reply
replied t answer = record { answer = answer; table = t }

-- one shape for all calls: the first refusal that applies, or the event
unfoldable pub call : List Check → Table → Reply → Reply
call checks t event = unless (first_refusal checks) (refused t) event

-- what an event is refused for: by the row of the queue that it names, or that a grant would go to
unfoldable pub checks_of : Table → Event → List Check
checks_of t e = checks_for (sound t) t.head (row t (concerns (chosen t) e)) e

abbrev pub granted_reply : Table → Reply
granted_reply t = record { answer = Ok (Granted (chosen t) (slice_given t)); table = granted t }

-- what it does where nothing of that applies
abbrev pub done_by : Table → Event → Reply
done_by t (Fresh terms) = accepted (empty_table terms)
done_by t (Join queue weight length) = accepted (joined t queue weight length)
done_by t (Leave queue) = accepted (left t queue)
done_by t (Reweight queue weight length) = accepted (reweighted t queue weight length)
done_by t (Length queue length) = accepted (length_set t queue length)
done_by t Grant = granted_reply t
done_by t (Return queue used early) = accepted (returned t queue used early)

-- one step by an event; "a refused `S` keeps the present table"
unfoldable pub step : Table → Event → Reply
step t e = call (checks_of t e) t (done_by t e)

-- each event as a call of its own. "Refusal 14 has no table to hand back and gives the empty table with slice limit 1."
abbrev pub fresh_reply : Terms → Reply
fresh_reply terms = step (empty_table least_terms) (Fresh terms)

abbrev pub join_reply : Table → ℕ → ℕ → ℕ → Reply
join_reply t queue weight length = step t (Join queue weight length)

abbrev pub leave_reply : Table → ℕ → Reply
leave_reply t queue = step t (Leave queue)

abbrev pub reweight_reply : Table → ℕ → ℕ → ℕ → Reply
reweight_reply t queue weight length = step t (Reweight queue weight length)

abbrev pub length_reply : Table → ℕ → ℕ → Reply
length_reply t queue length = step t (Length queue length)

abbrev pub grant_reply : Table → Reply
grant_reply t = step t Grant

abbrev pub return_reply : Table → ℕ → ℕ → Bool → Reply
return_reply t queue used early = step t (Return queue used early)

-- a release, and the lag report, which hands back its table and the list beside it
unfoldable pub release_checks : Table → List Check
release_checks t = (Unsound when not (sound t)) ∷ []

unfoldable pub release_reply : Table → Reply
release_reply t = call (release_checks t) t (accepted (released t))

unfoldable pub lag_checks : Table → List ℤ → List Check
lag_checks t given = (Unsound when not (sound t)) ∷ (ListShort when ltb (length given) queues) ∷ []

abbrev pub reported_reply : Table → Reply
reported_reply t = record { answer = Ok (Reported (lag_unit t.head)); table = t }

unfoldable pub lag_reply : Table → List ℤ → Reply
lag_reply t given = call (lag_checks t given) t (reported_reply t)

-- T-05: where a row stands to V, which alters nothing
unfoldable pub standing_checks : Table → ℕ → List Check
standing_checks t queue = Refusals.standing_checks (sound t) (row t queue) queue

abbrev pub stands_reply : Table → ℕ → Reply
stands_reply t position = record { answer = Ok (Stands (standing_by t.head position)); table = t }

unfoldable pub standing_reply : Table → ℕ → Reply
standing_reply t queue = call (standing_checks t queue) t (stands_reply t (row t queue).position)

unfoldable pub lag_list : Table → List ℤ → List ℤ
lag_list t given = unless (first_refusal (lag_checks t given)) (λ why. given) (lags_into t given)
