-- Demand 1 on events: a step is refused by the lowest number that applies, with the table as it was given, or is done.
use mathlib.Core.Bool.{true}
use mathlib.Core.List.{List}
use mathlib.Core.Logic.{◌≢◌}
use mathlib.Core.Option.{Option, none, some}
use mathlib.Core.Path.{◌≡◌, refl, ap, ◌∙◌}
use Prim.Native.Nat.{ℕ, ◌≤◌}
use lib.IntN.{ℤ}
use Rattle.head.specs.declared.Event.{Event}
use Rattle.head.specs.declared.Event.TheVariants.{Fresh, Join, Leave, Reweight, Length, Grant, Return}
use Rattle.head.specs.declared.Refusal.{Refusal}
use Rattle.head.specs.Answers.{refusal_number, number}
use Rattle.head.specs.Head.{concerns}
use Rattle.head.specs.Refusals.{first_refusal}
use Rattle.share.specs.declared.Reply.{Reply}
use Rattle.share.specs.declared.Table.{Table}
use Rattle.share.specs.Calls.{call, reported_reply, lag_reply, lag_list, lag_checks, standing_checks, stands_reply, standing_reply, step, checks_of, done_by}
use Rattle.share.specs.Events.{chosen}
use Rattle.share.specs.Sound.{sound}
use Rattle.share.specs.Table.{row}
use Rattle.share.proofs.Stepping.{call_refused, call_accepted}
use Rattle.calls.specs.Public.{HandedBack}
use Rattle.calls.proofs.Applying.{Applies, ordered, first_lowest, event_ordered}
use Rattle.calls.proofs.Replies.{call_cases, refused_handed_back}

pub checks_ordered : (t : Table) (e : Event) → ordered 0 (checks_of t e) ≡ true
unfolding checks_of
checks_ordered t e = event_ordered (sound t) t.head (row t (concerns (chosen t) e)) e

pub done_accepted : (t : Table) (e : Event) → number (done_by t e).answer ≡ 0
done_accepted t (Fresh terms) = refl
done_accepted t (Join queue weight length) = refl
done_accepted t (Leave queue) = refl
done_accepted t (Reweight queue weight length) = refl
done_accepted t (Length queue length) = refl
done_accepted t Grant = refl
done_accepted t (Return queue used early) = refl

-- refused by its number, the other values 0, the table as given
pub step_refused : (t : Table) (e : Event) (why : Refusal) → first_refusal (checks_of t e) ≡ some why → HandedBack t (step t e) why
unfolding step
step_refused t e why h = refused_handed_back (checks_of t e) t (done_by t e) why h

-- and where nothing applies it is done
pub step_done : (t : Table) (e : Event) → first_refusal (checks_of t e) ≡ none → step t e ≡ done_by t e
unfolding step
step_done t e h = call_accepted (checks_of t e) t (done_by t e) h

pub step_lowest : (t : Table) (e : Event) (why other : Refusal) → first_refusal (checks_of t e) ≡ some why → Applies other (checks_of t e) → refusal_number why ≤ refusal_number other
step_lowest t e why other h applies = first_lowest 0 why applies (checks_ordered t e) h

-- an answer other than 0 hands the table back
pub refused_table : (t : Table) (e : Event) → number (step t e).answer ≢ 0 → (step t e).table ≡ t
refused_table t e h = by (first_refusal (checks_of t e)) refl
  where
    by : (o : Option Refusal) → first_refusal (checks_of t e) ≡ o → (step t e).table ≡ t
    by none is = absurd (h (ap (λ (r : Reply). number r.answer) (step_done t e is) ∙ done_accepted t e))
    by (some why) is = (step_refused t e why is).table_same

-- the lag report hands its table back whatever it answers, and with an answer other than 0 leaves the list alone
pub report_table : (t : Table) (given : List ℤ) → (lag_reply t given).table ≡ t
unfolding lag_reply
report_table t given = by (first_refusal (lag_checks t given)) refl
  where
    by : (o : Option Refusal) → first_refusal (lag_checks t given) ≡ o → (call (lag_checks t given) t (reported_reply t)).table ≡ t
    by none is = ap (λ (r : Reply). r.table) (call_accepted (lag_checks t given) t (reported_reply t) is)
    by (some why) is = ap (λ (r : Reply). r.table) (call_refused (lag_checks t given) t (reported_reply t) why is)

-- and so does the panel's question
pub standing_table : (t : Table) (queue : ℕ) → (standing_reply t queue).table ≡ t
unfolding standing_reply
standing_table t queue =
    call_cases (λ (r : Reply). r.table ≡ t) (standing_checks t queue) t (stands_reply t (row t queue).position) (λ why is. refl) (λ fine. refl)

pub refused_list : (t : Table) (given : List ℤ) → number (lag_reply t given).answer ≢ 0 → lag_list t given ≡ given
unfolding lag_reply lag_list
refused_list t given h = by (first_refusal (lag_checks t given)) refl
  where
    by : (o : Option Refusal) → first_refusal (lag_checks t given) ≡ o → lag_list t given ≡ given
    by none is = absurd (h (ap (λ (r : Reply). number r.answer) (call_accepted (lag_checks t given) t (reported_reply t) is)))
    by (some why) is = rw (is, lag_list) refl
