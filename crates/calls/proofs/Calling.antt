-- The public calls in one: each is refused by the first of its checks that applies, with the table as given, or done. A release finds nothing to free in a sound
-- table, and neither the lag report nor the panel's question changes a table, so a run of calls leaves the table that its events leave.
use mathlib.Core.Bool.{true}
use mathlib.Core.List.{List, [], ◌∷◌}
use mathlib.Core.Logic.{◌≢◌}
use mathlib.Core.Option.{Option, none, some}
use mathlib.Core.Path.{◌≡◌, refl, sym, ap, ◌∙◌}
use Prim.Native.Nat.{◌≤◌}
use Rattle.rows.specs.declared.Terms.{Terms}
use Rattle.rows.specs.Orderly.{Allowed}
use Rattle.rows.proofs.Orderly.{within_limit, within_rule, within_default}
use Rattle.head.specs.declared.Refusal.{Refusal}
use Rattle.head.specs.Answers.{refusal_number, number}
use Rattle.head.specs.Refusals.{first_refusal}
use Rattle.share.specs.declared.Reply.{Reply}
use Rattle.share.specs.declared.Table.{Table}
use Rattle.share.specs.Calls.{call, step, accepted, release_checks, release_reply, lag_reply, standing_reply}
use Rattle.share.specs.Events.{empty_table}
use Rattle.share.specs.Release.{released, done}
use Rattle.share.specs.Runs.{run}
use Rattle.share.specs.Sound.{Sound}
use Rattle.share.proofs.Accepted.{nothing_to_free}
use Rattle.share.proofs.Release.{frees_released}
use Rattle.share.proofs.Sound.{says_sound}
use Rattle.share.proofs.Stepping.{call_accepted}
use Rattle.share.proofs.Totals.{weighed}
use Rattle.calls.specs.Public.{HandedBack, Call, event, release, report, standing, answered, checks_on, done_on, run_calls, table_of, events_of}
use Rattle.calls.proofs.Answering.{checks_ordered, done_accepted, report_table, standing_table}
use Rattle.calls.proofs.Applying.{Applies, ordered, first_lowest, release_ordered, lag_ordered, standing_ordered}
use Rattle.calls.proofs.Replies.{call_cases, fresh_accepted, refused_handed_back}
use Rattle.calls.proofs.Soundness.{step_keeps}

pub answered_is : (t : Table) (c : Call) → answered t c ≡ call (checks_on t c) t (done_on t c)
unfolding step release_reply lag_reply standing_reply
answered_is t (event e) = refl
answered_is t release = refl
answered_is t (report lent) = refl
answered_is t (standing queue) = refl

pub on_ordered : (t : Table) (c : Call) → ordered 0 (checks_on t c) ≡ true
on_ordered t (event e) = checks_ordered t e
on_ordered t release = release_ordered t
on_ordered t (report lent) = lag_ordered t lent
on_ordered t (standing queue) = standing_ordered t queue

pub done_number : (t : Table) (c : Call) → number (done_on t c).answer ≡ 0
done_number t (event e) = done_accepted t e
done_number t release = refl
done_number t (report lent) = refl
done_number t (standing queue) = refl

-- refused by its number, the other values 0, the table as given
pub answered_refused : (t : Table) (c : Call) (why : Refusal) → first_refusal (checks_on t c) ≡ some why → HandedBack t (answered t c) why
answered_refused t c why h = rw (answered_is t c) (refused_handed_back (checks_on t c) t (done_on t c) why h)

pub answered_done : (t : Table) (c : Call) → first_refusal (checks_on t c) ≡ none → answered t c ≡ done_on t c
answered_done t c h = answered_is t c ∙ call_accepted (checks_on t c) t (done_on t c) h

pub answered_lowest : (t : Table) (c : Call) (why other : Refusal) → first_refusal (checks_on t c) ≡ some why → Applies other (checks_on t c) → refusal_number why ≤ refusal_number other
answered_lowest t c why other h applies = first_lowest 0 why applies (on_ordered t c) h

-- an answer other than 0 hands the table back
pub refused_table : (t : Table) (c : Call) → number (answered t c).answer ≢ 0 → (answered t c).table ≡ t
refused_table t c h = by (first_refusal (checks_on t c)) refl
  where
    by : (o : Option Refusal) → first_refusal (checks_on t c) ≡ o → (answered t c).table ≡ t
    by none is = absurd (h (ap (λ (r : Reply). number r.answer) (answered_done t c is) ∙ done_number t c))
    by (some why) is = (answered_refused t c why is).table_same

-- nothing is left to free in a sound table
pub released_same : (t : Table) → Sound t → released t ≡ t
released_same t is = sym (frees_released (weighed is.orderly_table) (done is.no_one_ready))

pub release_table : (t : Table) → (release_reply t).table ≡ t
unfolding release_reply
release_table t =
    call_cases (λ (r : Reply). r.table ≡ t) (release_checks t) t (accepted (released t)) (λ why is. refl) (λ fine. sym (nothing_to_free t fine))

pub release_sound : (t : Table) → Sound t → release_reply t ≡ accepted t
unfolding release_reply release_checks
release_sound t is = call_accepted (release_checks t) t (accepted (released t)) (rw (says_sound t is) refl) ∙ ap accepted (released_same t is)

-- so a run of calls is the run of its events
pub calls_run : (t : Table) (cs : List Call) → run_calls t cs ≡ run t (events_of cs)
calls_run t [] = refl
calls_run t (event e ∷ cs) = calls_run (step t e).table cs
calls_run t (release ∷ cs) = ap (λ (u : Table). run_calls u cs) (release_table t) ∙ calls_run t cs
calls_run t (report lent ∷ cs) = ap (λ (u : Table). run_calls u cs) (report_table t lent) ∙ calls_run t cs
calls_run t (standing queue ∷ cs) = ap (λ (u : Table). run_calls u cs) (standing_table t queue) ∙ calls_run t cs

pub answered_keeps : (t : Table) (c : Call) → Sound t → Sound (answered t c).table
answered_keeps t (event e) h = step_keeps t e h
answered_keeps t release h = rw (release_table t) h
answered_keeps t (report lent) h = rw (report_table t lent) h
answered_keeps t (standing queue) h = rw (standing_table t queue) h

pub from_fresh : (terms : Terms) → Allowed terms → (cs : List Call) → table_of terms cs ≡ run (empty_table terms) (events_of cs)
unfolding table_of
from_fresh terms allows cs =
    ap (λ (r : Reply). run_calls r.table cs)
    (fresh_accepted terms (within_limit terms allows.limit_low allows.limit_high) (within_rule terms allows.rule_low allows.rule_high)
    (within_default terms allows.default_known))
    ∙ calls_run (empty_table terms) cs
