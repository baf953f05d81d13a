-- Demand 2 on grants. A sound table that is empty has no slice out, and one that is not has an eligible row; so a grant answers 11 exactly when the
-- table is empty, and what it names meets the rule.
use mathlib.Core.Bool.{Bool, true, false, cond, not}
use mathlib.Core.Logic.{◌↔◌, ⊎_elim}
use mathlib.Core.Option.{none, some}
use mathlib.Core.Path.{◌≡◌, refl, ap, sym, subst, ◌∙◌}
use Prim.Native.Nat.{ℕ, ◌≤◌, ◌<◌}
use native.Mathlib.Omega.{arith}
use lib.ListN.{length}
use borrow.Author.Tests.{eq-eqb, ne_eqb, not-false}
use Rattle.std.specs.Prelude.{Result, Ok}
use Rattle.laws.proofs.Tests.{clash, le_or_lt}
use Rattle.rows.specs.declared.Request.{Request}
use Rattle.rows.specs.declared.State.{State}
use Rattle.rows.specs.declared.State.TheVariants.{Free, Going, Asking}
use Rattle.rows.specs.Numbers.{ceiling}
use Rattle.rows.specs.Order.{bid_as, bid_of, bid}
use Rattle.rows.specs.Orderly.{OrderlyAs, slice_most}
use Rattle.rows.specs.Virtual.{eligible_as, eligible_at}
use Rattle.rows.proofs.Orderly.{fits_says}
use Rattle.rows.proofs.Shares.{orderly_weight}
use Rattle.rows.proofs.Virtual.{reached_yes}
use Rattle.head.specs.declared.Refusal.{Refusal}
use Rattle.head.specs.declared.Answer.{Answer}
use Rattle.head.specs.declared.Answer.TheVariants.{Granted}
use Rattle.head.specs.declared.Event.TheVariants.{Grant}
use Rattle.head.specs.declared.Head.{Head}
use Rattle.head.specs.declared.Refusal.TheVariants.{SliceOut, TableEmpty, CeilingPassed}
use Rattle.head.specs.Answers.{number}
use Rattle.head.specs.Head.{is_empty}
use Rattle.head.specs.Refusals.{first_refusal, ceiling_passed, passed_as, checks_for}
use Rattle.head.specs.Slice.{slice_as, HeldBy, OrderlySlice, slice_for}
use Rattle.share.specs.declared.Reply.{Reply}
use Rattle.share.specs.declared.Table.{Table}
use Rattle.share.specs.Asks.{Grants}
use Rattle.share.specs.Calls.{unless, call, refused, grant_reply, checks_of, step}
use Rattle.share.specs.Choice.{eligible, deadline}
use Rattle.share.specs.Events.{chosen, slice_given}
use Rattle.share.specs.Sound.{Orderly, Sound, sound}
use Rattle.share.specs.Table.{row, AtMostV}
use Rattle.share.proofs.Accepted.{grant_accepted}
use Rattle.share.proofs.Mean.{chosen_rightly}
use Rattle.share.proofs.Placed.{weight_within}
use Rattle.share.proofs.Sound.{says_sound}
use Rattle.share.proofs.Stepping.{call_refused, call_accepted}
use Rattle.share.proofs.Totals.{sums_true}
use Rattle.calls.specs.Rightly.{Rightly}
use Rattle.calls.proofs.Choosing.{least_deadline, lowest_number, lesser_position, then_lowest}

-- a row that holds a slice is asking, and weighs at least 1
held_weighs : (h : Head) (s : State) (w p : ℕ) → HeldBy h s w → OrderlyAs s w p → 1 ≤ w
held_weighs h Free w p by_it o = absurd by_it
held_weighs h Going w p by_it o = absurd by_it
held_weighs h (Asking q) w p by_it o = o.0.weight_low

pub empty_still : (t : Table) → Sound t → t.head.total ≡ 0 → t.head.out ≡ false
empty_still t is empty = by t.head.out refl
  where
    o : Orderly t
    o = is.orderly_table

    by : (b : Bool) → t.head.out ≡ b → t.head.out ≡ false
    by false e = e
    by true e =
        let by_holder = subst (λ (out : Bool). OrderlySlice t.head out (row t t.head.holder)) e o.slice in
        let r = row t t.head.holder in
        let inside : t.head.holder < length t.rows = omega (arith, by_holder.0, o.one_each) in
        let heavy = held_weighs t.head r.state r.weight r.position by_holder.1 (o.each t.head.holder) in
        absurd (omega (arith, weight_within t t.head.holder (sums_true o) inside, orderly_weight r (o.each t.head.holder)))

-- the checks of a grant on a sound table: with W at 0 the table is empty, and with W above 0 it is not
sound_not : (t : Table) → Sound t → not (sound t) ≡ false
sound_not t is = ap not (says_sound t is)

pub grant_refused_empty : (t : Table) → Sound t → t.head.total ≡ 0 → grant_reply t ≡ refused t TableEmpty
unfolding step checks_of checks_for is_empty
grant_refused_empty t is empty =
    call_refused _ t _ TableEmpty (rw (sound_not t is, empty_still t is empty, eq-eqb t.head.total 0 empty) refl)

-- with W above 0 only a slice that is out or the ceiling stands in the way
not_empty : (t : Table) → 0 < t.head.total → is_empty t.head ≡ false
unfolding is_empty
not_empty t present = ne_eqb t.head.total 0 (λ e. omega arith)

present_checks : (t : Table) → Sound t → 0 < t.head.total → first_refusal (checks_of t Grant) ≡ cond t.head.out (some SliceOut) (cond (ceiling_passed (row t (chosen t))) (some CeilingPassed) none)
unfolding checks_of checks_for
present_checks t is present = rw (sound_not t is, not_empty t present) refl

never_eleven : (out passed : Bool) (t : Table) (event : Reply) → number event.answer ≡ 0 → number (unless (cond out (some SliceOut) (cond passed (some CeilingPassed) none)) (refused t) event).answer ≡ 11 → ⊥
never_eleven true passed t event fine e = omega arith
never_eleven false true t event fine e = omega arith
never_eleven false false t event fine e = omega arith

-- "A grant on a sound table is refused for want of a queue exactly when the table is empty."
pub grant_eleven : (t : Table) → Sound t → (number (grant_reply t).answer ≡ 11) ↔ (t.head.total ≡ 0)
unfolding step call
grant_eleven t is = (
  λ e. ⊎_elim
      (λ present. absurd (never_eleven t.head.out (ceiling_passed (row t (chosen t))) t _ refl (rw (present_checks t is present) at e)))
      (λ none_there. omega arith)
      (le_or_lt 1 t.head.total),
  λ empty. ap (λ (r : Reply). number r.answer) (grant_refused_empty t is empty),
)

eligible_request : (t : Table) (s : State) → eligible_as t.head.total t.head.sum s ≡ true → (q : Request) × (s ≡ Asking q) × AtMostV t q.opening
eligible_request t Free e = absurd (clash e refl)
eligible_request t Going e = absurd (clash e refl)
eligible_request t (Asking q) e = (q, refl, reached_yes q.opening t.head.total t.head.sum e)

-- a deadline that does not pass the ceiling
not_passed : (s : State) (w p : ℕ) → passed_as s w ≡ false → (bid_as s w p).deadline ≤ ceiling
unfolding bid_of
not_passed Free w p e = omega arith
not_passed Going w p e = omega arith
not_passed (Asking q) w p e = fits_says w q (not-false _ e)

pub granted_rightly : (t : Table) → Grants t → Rightly t (chosen t) (slice_given t)
unfolding eligible eligible_at slice_given slice_for slice_most ceiling_passed deadline bid
granted_rightly t g =
    let meets = chosen_rightly t g.was_sound g.present in
    let found = eligible_request t (row t (chosen t)).state meets.asks in
    record {
      request = found.0;
      asking = found.1;
      opening_reached = found.2;
      least = λ j e. least_deadline t (chosen t) j meets e;
      tie_1 = λ is j e same. lowest_number t (chosen t) j meets e same is;
      tie_2 = λ is j e same. lesser_position t (chosen t) j meets e same is;
      tie_2_level = λ is j e same level. then_lowest t (chosen t) j meets e same is level;
      slice_is = ap (slice_as t.head.terms) found.1;
      below_ceiling = not_passed (row t (chosen t)).state (row t (chosen t)).weight (row t (chosen t)).position g.fits;
    }

-- a grant that is not refused names such a queue, and only one queue is such
pub grant_rightly : (t : Table) → first_refusal (checks_of t Grant) ≡ none → (queue slice : ℕ) → (grant_reply t).answer ≡ Ok (Granted queue slice) → Rightly t queue slice
unfolding step
grant_rightly t e queue slice is =
    let told : ◌≡◌ {A = Result Answer Refusal} (Ok (Granted (chosen t) (slice_given t))) (Ok (Granted queue slice)) = sym (ap (λ (r : Reply). r.answer) (call_accepted (checks_of t Grant) t _ e)) ∙ is in
    let q : chosen t ≡ queue = cc in
    let s : slice_given t ≡ slice = cc in
    subst (λ (i : ℕ). Rightly t i slice) q (subst (Rightly t (chosen t)) s (granted_rightly t (grant_accepted t e)))
