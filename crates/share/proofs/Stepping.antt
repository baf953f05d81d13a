-- From the code's verdict to the call's answer. A verdict that is the first refusal of the call's checks, or none, tells what the call answers; and what
-- the code asks of a row that it read by the survey's word is what the definition asks.
use mathlib.Core.Path.{◌≡◌, refl, sym, ap, ◌∙◌}
use mathlib.Core.List.{List, [], ◌∷◌}
use mathlib.Core.Option.{none, some}
use mathlib.Core.Bool.{Bool, true, false, not}
use mathlib.Core.Logic.{⊎_elim}
use Prim.Native.Nat.{ℕ, ◌<◌}
use native.Mathlib.Omega.{arith}
use borrow.Author.Tests.{eq-eqb, not-false}
use Rattle.std.specs.Prelude.{Result, Ok, Err, Option, Some, None, is_some, unwrap_or, ⊤}
use Rattle.laws.proofs.Tests.{clash, le_or_lt}
use Rattle.rows.specs.declared.Row.{Row}
use Rattle.head.specs.declared.Event.{Event}
use Rattle.head.specs.declared.Event.TheVariants.{Fresh, Join, Leave, Reweight, Length, Grant, Return}
use Rattle.head.specs.declared.Refusal.{Refusal}
use Rattle.head.specs.declared.Refusal.TheVariants.{Unsound, SliceOut, TableEmpty, CeilingPassed}
use Rattle.head.specs.declared.surveying.Survey.{Survey}
use Rattle.head.specs.Head.{concerns, is_empty}
use Rattle.head.specs.Refusals.{Check, ◌when◌, first_refusal, verdict_of, checks_for, verdict_for, ceiling_passed}
use Rattle.std.specs.Bool.{then_some}
use Rattle.head.specs.Judged.{row_in}
use Rattle.head.proofs.Verdicts.{verdict_then, refused_some, fine_none}
use Rattle.share.specs.declared.Reply.{Reply}
use Rattle.share.specs.declared.Table.{Table}
use Rattle.share.specs.Asks.{Ahead}
use Rattle.share.specs.Calls.{call, refused, checks_of, done_by, step}
use Rattle.share.specs.Events.{chosen}
use Rattle.share.specs.Sound.{sound}
use Rattle.share.specs.Table.{row}
use Rattle.share.proofs.Accepted.{grant_accepted}
use Rattle.share.proofs.Sound.{says_sound}
use Rattle.share.specs.Walks.{Surveyed, Permitted}

-- the shape that all calls share: a refusal that applies is handed out with the given table, and with none the event is done
pub call_refused : (checks : List Check) (t : Table) (event : Reply) (why : Refusal) → first_refusal checks ≡ some why → call checks t event ≡ refused t why
unfolding call
call_refused checks t event why e = rw e refl

pub call_accepted : (checks : List Check) (t : Table) (event : Reply) → first_refusal checks ≡ none → call checks t event ≡ event
unfolding call
call_accepted checks t event e = rw e refl

module _ (checks : List Check) (v : Result ⊤ Refusal) (tested : v ≡ verdict_of (first_refusal checks)) where
  pub none_applies_to : v ≡ Ok tt → first_refusal checks ≡ none
  none_applies_to e = fine_none (first_refusal checks) (sym tested ∙ e)

  pub verdict_refused : (why : Refusal) → v ≡ Err why → (t : Table) (event : Reply) → refused t why ≡ call checks t event
  verdict_refused why e t event = sym (call_refused checks t event why (refused_some (first_refusal checks) why (sym tested ∙ e)))

-- the queue that a survey names, and a position that no going row stands before; 0 where it names none or there is no survey
abbrev pub told_in : Option Survey → Survey
told_in survey = unwrap_or survey (record { chosen = None; nearest = 0 })

abbrev pub named_in : Option Survey → ℕ
named_in survey = unwrap_or (told_in survey).chosen 0

abbrev pub nearest_in : Option Survey → ℕ
nearest_in survey = (told_in survey).nearest

-- what is asked of the chosen row does not matter where nobody is chosen
grant_row : (t : Table) (u : Bool) (r : Row) → (u ≡ false → 0 < t.head.total → r ≡ row t (chosen t)) → (out : Bool) → first_refusal ((Unsound when u) ∷ (SliceOut when out) ∷ (TableEmpty when is_empty t.head) ∷ (CeilingPassed when ceiling_passed r) ∷ []) ≡ first_refusal ((Unsound when u) ∷ (SliceOut when out) ∷ (TableEmpty when is_empty t.head) ∷ (CeilingPassed when ceiling_passed (row t (chosen t))) ∷ [])
unfolding is_empty
grant_row t true r its out = refl
grant_row t false r its out =
    ⊎_elim
    (λ present. ap (λ (x : Row). first_refusal ((Unsound when false) ∷ (SliceOut when out) ∷ (TableEmpty when is_empty t.head) ∷ (CeilingPassed when ceiling_passed x) ∷ [])) (its refl present))
    (λ none. rw (eq-eqb t.head.total 0 (omega arith)) refl)
    (le_or_lt 1 t.head.total)

module _ (t : Table) where
  -- no going row of any table stands before 0
  pub survey_ahead : (survey : Option Survey) → Surveyed t survey → Ahead t (nearest_in survey)
  survey_ahead None h = record { nearest_high = omega arith; before = λ i g. omega arith }
  survey_ahead (Some s) h = let told = h.told s refl in record { nearest_high = told.nearest_high; before = told.nearest_told }

  -- the queue that a grant would go to
  pub names_chosen : (survey : Option Survey) → Surveyed t survey → sound t ≡ true → 0 < t.head.total → named_in survey ≡ chosen t
  names_chosen None h is present = absurd (clash is (sym h.sound_told))
  names_chosen (Some s) h is present = ap (λ (o : Option ℕ). unwrap_or o 0) ((h.told s refl).chosen_told present)

  module _ (survey : Option Survey) (h : Surveyed t survey) where
    by_row : (e : Event) → first_refusal (checks_for (sound t) t.head (row t (concerns (named_in survey) e)) e) ≡ first_refusal (checks_for (sound t) t.head (row t (concerns (chosen t) e)) e)
    unfolding checks_for
    by_row (Fresh terms) = refl
    by_row (Join queue weight length) = refl
    by_row (Leave queue) = refl
    by_row (Reweight queue weight length) = refl
    by_row (Length queue length) = refl
    by_row Grant = grant_row t (not (sound t)) (row t (named_in survey)) (λ u present. ap (row t) (names_chosen survey h (not-false _ u) present)) t.head.out
    by_row (Return queue used early) = refl

    -- what the code asks, by the survey's word, is what the definition asks
    pub same_checks : (e : Event) → first_refusal (checks_for (is_some survey) t.head (row t (concerns (named_in survey) e)) e) ≡ first_refusal (checks_of t e)
    unfolding checks_of
    same_checks e = ap (λ (b : Bool). first_refusal (checks_for b t.head (row t (concerns (named_in survey) e)) e)) h.sound_told ∙ by_row e

  -- from the code's verdict, given by the survey's word: what the call answers
  pub verdict_read : (survey : Option Survey) (asked : Event) {row_told : Option Row} {is_told : Bool} {r : Row} {queue named : ℕ} {told : Survey} {v : Result ⊤ Refusal} → v ≡ verdict_for (is_some row_told) t.head (row_in row_told) asked → row_told ≡ then_some is_told r → is_told ≡ is_some survey → r ≡ row t queue → queue ≡ concerns named asked → named ≡ unwrap_or told.chosen 0 → told ≡ told_in survey → v ≡ verdict_for (is_some survey) t.head (row t (concerns (named_in survey) asked)) asked
  verdict_read survey asked judged there is read place name told =
      judged
      ∙ ap (λ (o : Option Row). verdict_for (is_some o) t.head (row_in o) asked) (there ∙ rw (is, read, place, name, told) refl)
      ∙ verdict_then (is_some survey) t.head (row t (concerns (named_in survey) asked)) asked

  module _ (survey : Option Survey) (h : Surveyed t survey) (asked : Event) (v : Result ⊤ Refusal) (judged : v ≡ verdict_for (is_some survey) t.head (row t (concerns (named_in survey) asked)) asked) where
    tested : v ≡ verdict_of (first_refusal (checks_of t asked))
    unfolding verdict_for
    tested = judged ∙ ap verdict_of (same_checks survey h asked)

    pub step_refused : (why : Refusal) → v ≡ Err why → refused t why ≡ step t asked
    unfolding step
    step_refused why e = verdict_refused (checks_of t asked) v tested why e t _

    pub nothing_against : v ≡ Ok tt → first_refusal (checks_of t asked) ≡ none
    nothing_against fine = none_applies_to (checks_of t asked) v tested fine

    -- and a grant goes to the queue that is chosen
    pub named_chosen : v ≡ Ok tt → asked ≡ Grant → named_in survey ≡ chosen t
    named_chosen fine is =
        let g = grant_accepted t (ap (λ (x : Event). first_refusal (checks_of t x)) (sym is) ∙ nothing_against fine) in
        names_chosen survey h (says_sound t g.was_sound) g.present

-- an event that nothing speaks against, by what kind of event it is: it is done
module _ (t : Table) {asked event : Event} {queue nearest : ℕ} (allowed : Permitted t asked queue nearest) (is : asked ≡ event) where
  pub allowed_as : first_refusal (checks_of t event) ≡ none
  allowed_as = ap (λ (x : Event). first_refusal (checks_of t x)) (sym is) ∙ allowed.nothing_against

  pub step_allowed : done_by t event ≡ step t asked
  unfolding step
  step_allowed = ap (done_by t) (sym is) ∙ sym (call_accepted (checks_of t asked) t (done_by t asked) allowed.nothing_against)
