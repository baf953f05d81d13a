-- Verdicts. Looking for one refusal after another is looking for the first in the list; and a verdict tells the call's answer.
use mathlib.Core.Path.{◌≡◌, refl}
use mathlib.Core.Bool.{Bool, true, false}
use mathlib.Core.List.{List, [], ◌∷◌}
use mathlib.Core.Option.{Option, none, some}
use Rattle.std.specs.Bool.{then_some}
use Rattle.std.specs.Prelude.{Result, Ok, Err, ⊤, is_some}
use Prim.Native.Nat.{ℕ}
use Rattle.rows.specs.declared.Row.{Row}
use Rattle.rows.specs.declared.Terms.{Terms}
use Rattle.rows.specs.Row.{blank}
use Rattle.head.specs.declared.Event.{Event}
use Rattle.head.specs.declared.Event.TheVariants.{Fresh, Join, Leave, Reweight, Length, Grant, Return}
use Rattle.head.specs.declared.Head.{Head}
use Rattle.head.specs.declared.Refusal.{Refusal}
use Rattle.head.specs.Judged.{row_in}
use Rattle.head.specs.Refusals.{Check, ◌when◌, first_refusal, verdict_of, refused_when, judge, fresh_checks, return_checks, checks_for, verdict_for}

-- one check after another is the first of them in the list: each function that judges an event goes so, and the verdict on every event is proved by this law
pub judge_first : (checks : List Check) → judge checks ≡ verdict_of (first_refusal checks)
judge_first [] = refl
judge_first ((why when true) ∷ rest) = refl
judge_first ((why when false) ∷ rest) = judge_first rest

-- so is the verdict on each event
pub event_first : (sound : Bool) (h : Head) (r : Row) (e : Event) → judge (checks_for sound h r e) ≡ verdict_for sound h r e
unfolding verdict_for
event_first sound h r e = judge_first (checks_for sound h r e)

pub fresh_first : (sound : Bool) (h : Head) (r : Row) (terms : Terms) → judge (fresh_checks terms) ≡ verdict_for sound h r (Fresh terms)
unfolding checks_for
fresh_first sound h r terms = event_first sound h r (Fresh terms)

pub return_first : (sound : Bool) (h : Head) (r : Row) (queue used : ℕ) (early : Bool) → judge (return_checks sound h queue used) ≡ verdict_for sound h r (Return queue used early)
unfolding checks_for
return_first sound h r queue used early = event_first sound h r (Return queue used early)

pub ruleset judging = (event_first, fresh_first, return_first)

pub refused_some : (o : Option Refusal) (why : Refusal) → verdict_of o ≡ Err why → o ≡ some why
refused_some none why e = cc
refused_some (some w) why e = cc

pub fine_none : (o : Option Refusal) → verdict_of o ≡ Ok tt → o ≡ none
fine_none none e = refl
fine_none (some w) e = cc

-- a refusal that was not given does not apply
pub not_applies : (why : Refusal) (applies : Bool) → refused_when why applies ≡ Ok tt → applies ≡ false
not_applies why true e = cc
not_applies why false e = refl

-- of a table that is not sound nothing is asked, whatever the row is
unsound_first : (h : Head) (r other : Row) (e : Event) → verdict_for false h r e ≡ verdict_for false h other e
unfolding verdict_for checks_for
unsound_first h r other (Fresh terms) = refl
unsound_first h r other (Join queue weight length) = refl
unsound_first h r other (Leave queue) = refl
unsound_first h r other (Reweight queue weight length) = refl
unsound_first h r other (Length queue length) = refl
unsound_first h r other Grant = refl
unsound_first h r other (Return queue used early) = refl

pub verdict_then : (sound : Bool) (h : Head) (r : Row) (e : Event) → verdict_for (is_some (then_some sound r)) h (row_in (then_some sound r)) e ≡ verdict_for sound h r e
verdict_then true h r e = refl
verdict_then false h r e = unsound_first h blank r e
