-- What a call answers: a refusal, with the given table and every other value 0, or what the event does.
use mathlib.Core.Bool.{true, false}
use mathlib.Core.List.{List}
use mathlib.Core.Option.{Option, none, some}
use mathlib.Core.Path.{◌≡◌, refl}
use Rattle.rows.specs.declared.Terms.{Terms}
use Rattle.rows.specs.Numbers.{least_terms}
use Rattle.rows.specs.Orderly.{limit_outside, rule_outside, default_outside}
use Rattle.head.specs.declared.Refusal.{Refusal}
use Rattle.head.specs.declared.Refusal.TheVariants.{LimitOutside, RuleOutside, DefaultOutside}
use Rattle.head.specs.Refusals.{Check, first_refusal, checks_for}
use Rattle.share.specs.declared.Reply.{Reply}
use Rattle.share.specs.declared.Table.{Table}
use Rattle.share.specs.Calls.{call, refused, accepted, fresh_reply, checks_of, step}
use Rattle.share.specs.Events.{empty_table}
use Rattle.share.proofs.Stepping.{call_refused, call_accepted}
use Rattle.calls.specs.Public.{HandedBack}

-- a call is refused or done
pub call_cases : (P : Reply → Type 0) (checks : List Check) (t : Table) (event : Reply) → ((why : Refusal) → first_refusal checks ≡ some why → P (refused t why)) → (first_refusal checks ≡ none → P event) → P (call checks t event)
unfolding call
call_cases P checks t event if_refused if_done = by (first_refusal checks) refl
  where
    by : (o : Option Refusal) → first_refusal checks ≡ o → P (call checks t event)
    by none e = rw (call_accepted checks t event e) (if_done e)
    by (some why) e = rw (call_refused checks t event why e) (if_refused why e)

pub fresh_refused : (terms : Terms) → limit_outside terms ≡ true → fresh_reply terms ≡ refused (empty_table least_terms) LimitOutside
unfolding step checks_of checks_for
fresh_refused terms e = call_refused _ _ _ _ (rw e refl)

pub fresh_of_no_rule : (terms : Terms) → limit_outside terms ≡ false → rule_outside terms ≡ true → fresh_reply terms ≡ refused (empty_table least_terms) RuleOutside
unfolding step checks_of checks_for
fresh_of_no_rule terms e f = call_refused _ _ _ _ (rw (e, f) refl)

pub fresh_of_no_default : (terms : Terms) → limit_outside terms ≡ false → rule_outside terms ≡ false → default_outside terms ≡ true → fresh_reply terms ≡ refused (empty_table least_terms) DefaultOutside
unfolding step checks_of checks_for
fresh_of_no_default terms e f g = call_refused _ _ _ _ (rw (e, f, g) refl)

pub fresh_accepted : (terms : Terms) → limit_outside terms ≡ false → rule_outside terms ≡ false → default_outside terms ≡ false → fresh_reply terms ≡ accepted (empty_table terms)
unfolding step checks_of checks_for
fresh_accepted terms e f g = call_accepted _ _ _ (rw (e, f, g) refl)

pub refused_handed_back : (checks : List Check) (t : Table) (event : Reply) (why : Refusal) → first_refusal checks ≡ some why → HandedBack t (call checks t event) why
refused_handed_back checks t event why e =
    rw (call_refused checks t event why e)
    (record { answer_is = refl; queue_none = refl; slice_none = refl; denominator_none = refl; standing_none = refl; table_same = refl })
