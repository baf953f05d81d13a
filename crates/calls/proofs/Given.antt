-- "Given exactly when": a call answers a number exactly when that refusal speaks against it and none of a lower number does. On a sound table what speaks against
-- a call is what its checks say, sentence by sentence; on another 1 answers, which is the lowest of all.
use mathlib.Core.Bool.{true, false, not, Bool}
use mathlib.Core.List.{List, [], ◌∷◌}
use mathlib.Core.Logic.{⊎_elim, ◌↔◌, ◌⊎◌}
use mathlib.Core.Option.{Option, none, some}
use mathlib.Core.Path.{◌≡◌, refl, sym, ap, ◌∙◌, subst⁻¹, subst}
use Prim.Native.Nat.{ℕ, ◌<◌, ◌*◌}
use native.Mathlib.Omega.{arith}
use borrow.Author.Tests.{ltb-true, lt-ltb, not-true, leb-false, lt-leb}
use Rattle.laws.proofs.Tests.{clash, le_or_lt, refuted, either}
use Rattle.rows.specs.declared.Row.{Row}
use Rattle.rows.specs.declared.State.{State}
use Rattle.rows.specs.declared.State.TheVariants.{Free, Going, Asking}
use Rattle.rows.specs.declared.Terms.{Terms}
use Rattle.rows.specs.Numbers.{max_weight, max_limit, max_rule, ceiling, least_terms}
use Rattle.rows.specs.Order.{bid, bid_as, bid_of}
use Rattle.rows.specs.Orderly.{limit_outside, rule_outside, default_outside, fits_ceiling, OrderlyAs}
use Rattle.rows.specs.Row.{is_free}
use Rattle.rows.specs.Virtual.{eligible_as, eligible_at}
use Rattle.rows.proofs.Orderly.{outside_says, says_outside, default_within, within_default}
use Rattle.head.specs.declared.Event.{Event}
use Rattle.head.specs.declared.Event.TheVariants.{Fresh, Join, Leave, Reweight, Length, Grant, Return}
use Rattle.head.specs.declared.Head.{Head}
use Rattle.head.specs.declared.Refusal.{Refusal}
use Rattle.head.specs.declared.Refusal.TheVariants.{Unsound, LimitOutside, RuleOutside, DefaultOutside}
use Rattle.head.specs.Answers.{refusal_number, number}
use Rattle.head.specs.Lag.{lag_of}
use Rattle.head.specs.Refusals.{Check, ◌when◌, checks_for, row_taken, not_asking, ticks_outside, ceiling_passed, passed_as, first_refusal, lag_below}
use Rattle.share.specs.declared.Reply.{Reply}
use Rattle.share.specs.declared.Table.{Table}
use Rattle.share.specs.Calls.{refused, checks_of, release_checks, lag_checks, standing_checks, fresh_reply}
use Rattle.share.specs.Choice.{eligible, deadline, choice}
use Rattle.share.specs.Events.{chosen_or0, chosen, empty_table}
use Rattle.share.specs.Sound.{Sound, sound}
use Rattle.share.specs.Table.{row, AtMostV}
use Rattle.share.proofs.Mean.{chosen_rightly}
use Rattle.share.proofs.Sound.{sound_says, says_sound}
use Rattle.calls.specs.Against.{Against, fresh_14, fresh_23, fresh_25, join_1, join_2, join_3, join_4, join_5, join_7, leave_1, leave_2, leave_5, leave_8, reweight_1, reweight_2, reweight_3, reweight_4, reweight_5, reweight_8, reweight_9, length_1, length_2, length_4, length_5, length_8, grant_1, grant_5, grant_11, grant_12, return_1, return_2, return_6, return_10, release_1, report_1, report_13, standing_1, standing_2, standing_31, PastCeiling, NotSound, OnTable, NoneLower, LimitWrong, RuleWrong, DefaultWrong, Owes}
use Rattle.calls.specs.Meaning.{NotBelow0}
use Rattle.calls.specs.Public.{HandedBack, done_on, Call, event, release, report, standing, checks_on, answered}
use Rattle.calls.proofs.Applying.{none_applies, Applies, here, later, queue_outside_lem, length_outside_lem, unsound_says, not_holder_says, lag_below_says, empty_says, first_applies, applies_given, first_lowest, lowest_first}
use Rattle.calls.proofs.Calling.{answered_done, answered_refused, on_ordered, done_number}
use Rattle.calls.proofs.Choosing.{chosen_choice}
use Rattle.calls.proofs.Numbered.{same_refusal, known}
use Rattle.calls.proofs.Replies.{fresh_refused, fresh_of_no_rule, fresh_of_no_default}
use Rattle.calls.proofs.Standing.{empty_means, lag_sign}

-- 12: the deadline of the row that is chosen
passed_asks : (s : State) (w : ℕ) → passed_as s w ≡ true → is_free s ≡ false
passed_asks Free w e = absurd (clash e refl)
passed_asks Going w e = refl
passed_asks (Asking q) w e = refl

passed_deadline : (s : State) (w p : ℕ) → passed_as s w ≡ true → ceiling < (bid_as s w p).deadline
unfolding fits_ceiling bid_of
passed_deadline Free w p e = absurd (clash e refl)
passed_deadline Going w p e = absurd (clash e refl)
passed_deadline (Asking q) w p e = leb-false _ _ (not-true _ e)

deadline_passed : (total sum : ℕ) (s : State) (w p : ℕ) → eligible_as total sum s ≡ true → ceiling < (bid_as s w p).deadline → passed_as s w ≡ true
unfolding fits_ceiling bid_of
deadline_passed total sum Free w p e above = absurd (clash e refl)
deadline_passed total sum Going w p e above = absurd (clash e refl)
deadline_passed total sum (Asking q) w p e above = ap not (lt-leb _ _ above)

chosen_is : (t : Table) (i : ℕ) → choice t ≡ some i → chosen t ≡ i
unfolding chosen
chosen_is t i e = ap chosen_or0 e

module _ (t : Table) (is : Sound t) where
  present : is_free (row t (chosen t)).state ≡ false → 0 < t.head.total
  present taken = ⊎_elim (λ l. l) (λ none_there. absurd (clash ((empty_means t is.orderly_table).0 (omega arith) (chosen t)) taken)) (le_or_lt 1 t.head.total)

  pub ceiling_says : (ceiling_passed (row t (chosen t)) ≡ true) ↔ PastCeiling t
  unfolding ceiling_passed deadline bid eligible eligible_at
  ceiling_says = (
    λ e. let r = row t (chosen t) in
        record {
          queue = chosen t;
          is_chosen = chosen_rightly t is (present (passed_asks r.state r.weight e));
          above = passed_deadline r.state r.weight r.position e;
        },
    λ p. let same : chosen t ≡ p.queue = chosen_is t p.queue (chosen_choice t p.queue p.is_chosen) in
        let r = row t p.queue in
        subst⁻¹ (λ (i : ℕ). passed_as (row t i).state (row t i).weight ≡ true) same
        (deadline_passed t.head.total t.head.sum r.state r.weight r.position p.is_chosen.asks p.above),
  )

-- 9: by the lag of the row; a free row stands at 0, and owes nothing
free_stands : (s : State) (w p : ℕ) → OrderlyAs s w p → is_free s ≡ true → p ≡ 0
free_stands Free w p o e = o.1
free_stands Going w p o e = absurd (clash e refl)
free_stands (Asking q) w p o e = absurd (clash e refl)

free_lag : (h : Head) (r : Row) → is_free r.state ≡ true → NotBelow0 (lag_of h r)
unfolding lag_of
free_lag h r e = (0, rw e refl)

module _ (t : Table) (is : Sound t) (queue : ℕ) where
  sign : AtMostV t (row t queue).position ↔ NotBelow0 (lag_of t.head (row t queue))
  sign = by (is_free (row t queue).state) refl
    where
      by : (b : Bool) → is_free (row t queue).state ≡ b → AtMostV t (row t queue).position ↔ NotBelow0 (lag_of t.head (row t queue))
      by true e =
          let stands : (row t queue).position ≡ 0 = free_stands (row t queue).state (row t queue).weight (row t queue).position (is.orderly_table.each queue) e in
          (λ level. free_lag t.head (row t queue) e, λ lag. rw stands (omega arith))
      by false e = lag_sign t is.orderly_table queue e

  lag_says : (lag_below t.head (row t queue) ≡ true) ↔ Owes t queue
  lag_says =
      let words = lag_below_says t.head (row t queue) in (
        λ e lag. omega (arith, words.0 e, sign.1 lag),
        λ owes. words.1 (⊎_elim (λ level. absurd (owes (sign.0 level))) (λ below. below) (le_or_lt ((row t queue).position * t.head.total) t.head.sum)),
      )

-- one check after the other
module _ (S : Refusal → Type 0) where
  first_or_later : {why this : Refusal} {b : Bool} {rest : List Check} → (b ≡ true → S this) → (Applies why rest → S why) → Applies why ((this when b) ∷ rest) → S why
  first_or_later f g (here p) = f p
  first_or_later f g (later h) = g h

  no_more : {why : Refusal} → Applies why [] → S why
  no_more h = absurd (none_applies h refl)

-- 25: the default is neither of the two
default_says : (terms : Terms) → default_outside terms ≡ true → DefaultWrong terms
default_says terms e = (λ is. clash e (within_default terms (◌⊎◌.inl is)), λ is. clash e (within_default terms (◌⊎◌.inr is)))

says_default : (terms : Terms) → DefaultWrong terms → default_outside terms ≡ true
says_default terms h = ⊎_elim (λ e. e) (λ e. absurd (⊎_elim h.0 h.1 (default_within terms e))) (either (default_outside terms))

-- On a sound table what speaks against a call is what its checks say.
module _ (t : Table) (is : Sound t) where
  reads_event : (e : Event) {why : Refusal} → Applies why (checks_of t e) → Against t (event e) why
  unfolding checks_of checks_for row_taken not_asking ticks_outside limit_outside rule_outside
  reads_event (Fresh terms) =
      first_or_later (Against t (event (Fresh terms))) (λ p. fresh_14 (outside_says 1 max_limit terms.limit p))
      (first_or_later (Against t (event (Fresh terms))) (λ p. fresh_23 (outside_says 1 max_rule terms.rule p))
      (first_or_later (Against t (event (Fresh terms))) (λ p. fresh_25 (default_says terms p))
      (no_more (Against t (event (Fresh terms))))))
  reads_event (Join q w l) =
      first_or_later (Against t (event (Join q w l))) (λ p. join_1 ((unsound_says t).0 p))
      (first_or_later (Against t (event (Join q w l))) (λ p. join_2 ((queue_outside_lem q).0 p))
      (first_or_later (Against t (event (Join q w l))) (λ p. join_3 (outside_says 1 max_weight w p))
      (first_or_later (Against t (event (Join q w l))) (λ p. join_4 ((length_outside_lem l).0 p))
      (first_or_later (Against t (event (Join q w l))) (λ p. join_5 p)
      (first_or_later (Against t (event (Join q w l))) (λ p. join_7 (not-true _ p))
      (no_more (Against t (event (Join q w l)))))))))
  reads_event (Leave q) =
      first_or_later (Against t (event (Leave q))) (λ p. leave_1 ((unsound_says t).0 p))
      (first_or_later (Against t (event (Leave q))) (λ p. leave_2 ((queue_outside_lem q).0 p))
      (first_or_later (Against t (event (Leave q))) (λ p. leave_5 p)
      (first_or_later (Against t (event (Leave q))) (λ p. leave_8 (not-true _ p))
      (no_more (Against t (event (Leave q)))))))
  reads_event (Reweight q w l) =
      first_or_later (Against t (event (Reweight q w l))) (λ p. reweight_1 ((unsound_says t).0 p))
      (first_or_later (Against t (event (Reweight q w l))) (λ p. reweight_2 ((queue_outside_lem q).0 p))
      (first_or_later (Against t (event (Reweight q w l))) (λ p. reweight_3 (outside_says 1 max_weight w p))
      (first_or_later (Against t (event (Reweight q w l))) (λ p. reweight_4 ((length_outside_lem l).0 p))
      (first_or_later (Against t (event (Reweight q w l))) (λ p. reweight_5 p)
      (first_or_later (Against t (event (Reweight q w l))) (λ p. reweight_8 (not-true _ p))
      (first_or_later (Against t (event (Reweight q w l))) (λ p. reweight_9 ((lag_says t is q).0 p))
      (no_more (Against t (event (Reweight q w l))))))))))
  reads_event (Length q l) =
      first_or_later (Against t (event (Length q l))) (λ p. length_1 ((unsound_says t).0 p))
      (first_or_later (Against t (event (Length q l))) (λ p. length_2 ((queue_outside_lem q).0 p))
      (first_or_later (Against t (event (Length q l))) (λ p. length_4 ((length_outside_lem l).0 p))
      (first_or_later (Against t (event (Length q l))) (λ p. length_5 p)
      (first_or_later (Against t (event (Length q l))) (λ p. length_8 (not-true _ p))
      (no_more (Against t (event (Length q l))))))))
  reads_event Grant =
      first_or_later (Against t (event Grant)) (λ p. grant_1 ((unsound_says t).0 p))
      (first_or_later (Against t (event Grant)) (λ p. grant_5 p)
      (first_or_later (Against t (event Grant)) (λ p. grant_11 ((empty_means t is.orderly_table).0 ((empty_says t.head).0 p)))
      (first_or_later (Against t (event Grant)) (λ p. grant_12 ((ceiling_says t is).0 p))
      (no_more (Against t (event Grant))))))
  reads_event (Return q u early) =
      first_or_later (Against t (event (Return q u early))) (λ p. return_1 ((unsound_says t).0 p))
      (first_or_later (Against t (event (Return q u early))) (λ p. return_2 ((queue_outside_lem q).0 p))
      (first_or_later (Against t (event (Return q u early))) (λ p. return_6 ((not_holder_says t.head q).0 p))
      (first_or_later (Against t (event (Return q u early))) (λ p. return_10 (ltb-true _ _ p))
      (no_more (Against t (event (Return q u early)))))))

  reads : (c : Call) (why : Refusal) → Applies why (checks_on t c) → Against t c why
  unfolding release_checks lag_checks standing_checks
  reads (event e) why = reads_event e
  reads release why = first_or_later (Against t release) (λ p. release_1 ((unsound_says t).0 p)) (no_more (Against t release))
  reads (report lent) why =
      first_or_later (Against t (report lent)) (λ p. report_1 ((unsound_says t).0 p))
      (first_or_later (Against t (report lent)) (λ p. report_13 (ltb-true _ _ p)) (no_more (Against t (report lent))))
  reads (standing q) why =
      first_or_later (Against t (standing q)) (λ p. standing_1 ((unsound_says t).0 p))
      (first_or_later (Against t (standing q)) (λ p. standing_2 ((queue_outside_lem q).0 p))
      (first_or_later (Against t (standing q)) (λ p. standing_31 p)
      (no_more (Against t (standing q)))))

  back : {c : Call} {why : Refusal} → Against t c why → Applies why (checks_on t c)
  unfolding checks_of checks_for row_taken not_asking ticks_outside limit_outside rule_outside release_checks lag_checks standing_checks
  back (fresh_14 {terms} h) = here (says_outside 1 max_limit terms.limit h)
  back (fresh_23 {terms} h) = later (here (says_outside 1 max_rule terms.rule h))
  back (fresh_25 {terms} h) = later (later (here (says_default terms h)))
  back (join_1 h) = here ((unsound_says t).1 h)
  back (join_2 {q} h) = later (here ((queue_outside_lem q).1 h))
  back (join_3 {w = w} h) = later (later (here (says_outside 1 max_weight w h)))
  back (join_4 {l = l} h) = later (later (later (here ((length_outside_lem l).1 h))))
  back (join_5 h) = later (later (later (later (here h))))
  back (join_7 h) = later (later (later (later (later (here (ap not h))))))
  back (leave_1 h) = here ((unsound_says t).1 h)
  back (leave_2 {q} h) = later (here ((queue_outside_lem q).1 h))
  back (leave_5 h) = later (later (here h))
  back (leave_8 h) = later (later (later (here (ap not h))))
  back (reweight_1 h) = here ((unsound_says t).1 h)
  back (reweight_2 {q} h) = later (here ((queue_outside_lem q).1 h))
  back (reweight_3 {w = w} h) = later (later (here (says_outside 1 max_weight w h)))
  back (reweight_4 {l = l} h) = later (later (later (here ((length_outside_lem l).1 h))))
  back (reweight_5 h) = later (later (later (later (here h))))
  back (reweight_8 h) = later (later (later (later (later (here (ap not h))))))
  back (reweight_9 {q} h) = later (later (later (later (later (later (here ((lag_says t is q).1 h)))))))
  back (length_1 h) = here ((unsound_says t).1 h)
  back (length_2 {q} h) = later (here ((queue_outside_lem q).1 h))
  back (length_4 {l = l} h) = later (later (here ((length_outside_lem l).1 h)))
  back (length_5 h) = later (later (later (here h)))
  back (length_8 h) = later (later (later (later (here (ap not h)))))
  back (grant_1 h) = here ((unsound_says t).1 h)
  back (grant_5 h) = later (here h)
  back (grant_11 h) = later (later (here ((empty_says t.head).1 ((empty_means t is.orderly_table).1 h))))
  back (grant_12 h) = later (later (later (here ((ceiling_says t is).1 h))))
  back (return_1 h) = here ((unsound_says t).1 h)
  back (return_2 {q} h) = later (here ((queue_outside_lem q).1 h))
  back (return_6 {q} h) = later (later (here ((not_holder_says t.head q).1 h)))
  back (return_10 h) = later (later (later (here (lt-ltb _ _ h))))
  back (release_1 h) = here ((unsound_says t).1 h)
  back (report_1 h) = here ((unsound_says t).1 h)
  back (report_13 h) = later (here (lt-ltb _ _ h))
  back (standing_1 h) = here ((unsound_says t).1 h)
  back (standing_2 {q} h) = later (here ((queue_outside_lem q).1 h))
  back (standing_31 h) = later (later (here h))

-- a call whose checks say what speaks against it
module _ (t : Table) (c : Call) (read : (why : Refusal) → Applies why (checks_on t c) → Against t c why) (unread : (why : Refusal) → Against t c why → Applies why (checks_on t c)) (why : Refusal) where
  given_speaks : number (answered t c).answer ≡ refusal_number why → Against t c why × NoneLower t c why
  given_speaks e = by (first_refusal (checks_on t c)) refl
    where
      by : (o : Option Refusal) → first_refusal (checks_on t c) ≡ o → Against t c why × NoneLower t c why
      by none is =
          absurd (omega (arith, (known why).1, ap (λ (r : Reply). number r.answer) (answered_done t c is), done_number t c))
      by (some given) is =
          let same : given ≡ why = same_refusal given why (sym (answered_refused t c given is).answer_is ∙ e) in
          let first : first_refusal (checks_on t c) ≡ some why = is ∙ ap some same in (
            read why (first_applies (checks_on t c) why first),
            λ other lower against. omega (arith, first_lowest 0 why (unread other against) (on_ordered t c) first),
          )

  speaks_given : Against t c why → NoneLower t c why → number (answered t c).answer ≡ refusal_number why
  speaks_given against lowest =
      let applies = unread why against in
      let found = applies_given (checks_on t c) why applies in
      (answered_refused t c found.0 found.1).answer_is
      ∙ lowest_first (checks_on t c) 0 why (on_ordered t c) applies
      (λ other h. ⊎_elim (λ below. below) (λ lower. absurd (lowest other lower (read other h))) (le_or_lt (refusal_number why) (refusal_number other)))
      found.0 found.1

-- a fresh table asks nothing of the present one
fresh_reads : (t : Table) (terms : Terms) (why : Refusal) → Applies why (checks_of t (Fresh terms)) → Against t (event (Fresh terms)) why
unfolding checks_of checks_for limit_outside rule_outside
fresh_reads t terms why =
    first_or_later (Against t (event (Fresh terms))) (λ p. fresh_14 (outside_says 1 max_limit terms.limit p))
    (first_or_later (Against t (event (Fresh terms))) (λ p. fresh_23 (outside_says 1 max_rule terms.rule p))
    (first_or_later (Against t (event (Fresh terms))) (λ p. fresh_25 (default_says terms p)) (no_more (Against t (event (Fresh terms))))))

fresh_back : (t : Table) (terms : Terms) (why : Refusal) → Against t (event (Fresh terms)) why → Applies why (checks_of t (Fresh terms))
unfolding checks_of checks_for limit_outside rule_outside
fresh_back t terms why (fresh_14 h) = here (says_outside 1 max_limit terms.limit h)
fresh_back t terms why (fresh_23 h) = later (here (says_outside 1 max_rule terms.rule h))
fresh_back t terms why (fresh_25 h) = later (later (here (says_default terms h)))

-- on a table that isn't sound every other call answers 1
module _ (t : Table) (not_sound : NotSound t) where
  fails : sound t ≡ false
  fails = refuted (sound t) (λ e. not_sound (sound_says t e))

  one_first : (c : Call) → OnTable c → (first_refusal (checks_on t c) ≡ some Unsound) × Against t c Unsound
  unfolding checks_of checks_for release_checks lag_checks standing_checks
  one_first (event (Fresh terms)) on = absurd on
  one_first (event (Join q w l)) on = (rw fails refl, join_1 not_sound)
  one_first (event (Leave q)) on = (rw fails refl, leave_1 not_sound)
  one_first (event (Reweight q w l)) on = (rw fails refl, reweight_1 not_sound)
  one_first (event (Length q l)) on = (rw fails refl, length_1 not_sound)
  one_first (event Grant) on = (rw fails refl, grant_1 not_sound)
  one_first (event (Return q u early)) on = (rw fails refl, return_1 not_sound)
  one_first release on = (rw fails refl, release_1 not_sound)
  one_first (report lent) on = (rw fails refl, report_1 not_sound)
  one_first (standing q) on = (rw fails refl, standing_1 not_sound)

  module _ (c : Call) (on : OnTable c) (why : Refusal) where
    one : number (answered t c).answer ≡ 1
    one = (answered_refused t c Unsound (one_first c on).0).answer_is

    one_speaks : number (answered t c).answer ≡ refusal_number why → Against t c why × NoneLower t c why
    one_speaks e =
        let same : Unsound ≡ why = same_refusal Unsound why (sym one ∙ e) in (
          subst (Against t c) same (one_first c on).1,
          λ other lower against. omega (arith, (known other).1, one, e),
        )

    one_given : NoneLower t c why → number (answered t c).answer ≡ refusal_number why
    one_given lowest =
        ⊎_elim (λ higher. absurd (lowest Unsound higher (one_first c on).1)) (λ low. omega (arith, one, (known why).1)) (le_or_lt 2 (refusal_number why))

exactly_on : (t : Table) (c : Call) → OnTable c → (why : Refusal) → (number (answered t c).answer ≡ refusal_number why) ↔ (Against t c why × NoneLower t c why)
exactly_on t c on why = by (sound t) refl
  where
    by : (b : Bool) → sound t ≡ b → (number (answered t c).answer ≡ refusal_number why) ↔ (Against t c why × NoneLower t c why)
    by true e =
        let is = sound_says t e in
        (given_speaks t c (reads t is c) (λ w h. back t is h) why, λ h. speaks_given t c (reads t is c) (λ w h. back t is h) why h.0 h.1)
    by false e =
        let no : NotSound t = λ is. clash (says_sound t is) e in (one_speaks t no c on why, λ h. one_given t no c on why h.1)

pub given_exactly : (t : Table) (c : Call) (why : Refusal) → (number (answered t c).answer ≡ refusal_number why) ↔ (Against t c why × NoneLower t c why)
given_exactly t (event (Fresh terms)) why = (
  given_speaks t (event (Fresh terms)) (fresh_reads t terms) (fresh_back t terms) why,
  λ h. speaks_given t (event (Fresh terms)) (fresh_reads t terms) (fresh_back t terms) why h.0 h.1,
)
given_exactly t (event (Join q w l)) why = exactly_on t (event (Join q w l)) tt why
given_exactly t (event (Leave q)) why = exactly_on t (event (Leave q)) tt why
given_exactly t (event (Reweight q w l)) why = exactly_on t (event (Reweight q w l)) tt why
given_exactly t (event (Length q l)) why = exactly_on t (event (Length q l)) tt why
given_exactly t (event Grant) why = exactly_on t (event Grant) tt why
given_exactly t (event (Return q u early)) why = exactly_on t (event (Return q u early)) tt why
given_exactly t release why = exactly_on t release tt why
given_exactly t (report lent) why = exactly_on t (report lent) tt why
given_exactly t (standing q) why = exactly_on t (standing q) tt why

-- 1 answers exactly when the table isn't sound
one_words : {t : Table} {c : Call} → Against t c Unsound → NotSound t
one_words (join_1 h) = h
one_words (leave_1 h) = h
one_words (reweight_1 h) = h
one_words (length_1 h) = h
one_words (grant_1 h) = h
one_words (return_1 h) = h
one_words (release_1 h) = h
one_words (report_1 h) = h
one_words (standing_1 h) = h

pub one_exactly : (t : Table) (c : Call) → OnTable c → (number (answered t c).answer ≡ 1) ↔ NotSound t
one_exactly t c on = (λ n. one_words ((given_exactly t c Unsound).0 n).0, λ no. one t no c on Unsound)

-- a number other than 0 is that of a refusal, with the table as given and every other value 0
pub refused_by : (t : Table) (c : Call) (why : Refusal) → number (answered t c).answer ≡ refusal_number why → HandedBack t (answered t c) why
refused_by t c why e = by (first_refusal (checks_on t c)) refl
  where
    by : (o : Option Refusal) → first_refusal (checks_on t c) ≡ o → HandedBack t (answered t c) why
    by none is = absurd (omega (arith, (known why).1, ap (λ (r : Reply). number r.answer) (answered_done t c is), done_number t c))
    by (some given) is =
        subst (HandedBack t (answered t c)) (same_refusal given why (sym (answered_refused t c given is).answer_is ∙ e)) (answered_refused t c given is)

-- and where nothing speaks against it the call is done
pub done_where_nothing : (t : Table) (c : Call) → ((why : Refusal) → Against t c why → ⊥) → answered t c ≡ done_on t c
done_where_nothing t c nothing_speaks = by (first_refusal (checks_on t c)) refl
  where
    by : (o : Option Refusal) → first_refusal (checks_on t c) ≡ o → answered t c ≡ done_on t c
    by none is = answered_done t c is
    by (some given) is =
        absurd (nothing_speaks given ((given_exactly t c given).0 (answered_refused t c given is).answer_is).0)

-- refused, `fresh` has no table to hand back: neither for its limit, nor for a rule that there is not, nor for a default
pub fresh_ruled_wrong : (terms : Terms) → (LimitWrong terms → ⊥) → RuleWrong terms → fresh_reply terms ≡ refused (empty_table least_terms) RuleOutside
unfolding limit_outside rule_outside
fresh_ruled_wrong terms fine h =
    fresh_of_no_rule terms (refuted (limit_outside terms) (λ e. fine (outside_says 1 max_limit terms.limit e))) (says_outside 1 max_rule terms.rule h)

pub fresh_default_wrong : (terms : Terms) → (LimitWrong terms → ⊥) → (RuleWrong terms → ⊥) → DefaultWrong terms → fresh_reply terms ≡ refused (empty_table least_terms) DefaultOutside
unfolding limit_outside rule_outside
fresh_default_wrong terms limit rule h =
    fresh_of_no_default terms (refuted (limit_outside terms) (λ e. limit (outside_says 1 max_limit terms.limit e)))
    (refuted (rule_outside terms) (λ e. rule (outside_says 1 max_rule terms.rule e)))
    (says_default terms h)

pub fresh_wrong : (terms : Terms) → LimitWrong terms → fresh_reply terms ≡ refused (empty_table least_terms) LimitOutside
unfolding limit_outside
fresh_wrong terms h = fresh_refused terms (says_outside 1 max_limit terms.limit h)
