-- What stands whatever the event: the terms; what a length of 0 stands for; that V reaches a row exactly when its lag is 0 or more; and that W is 0 exactly when every row is free.
use mathlib.Core.Bool.{Bool, true, false, cond}
use mathlib.Core.Logic.{⊎_elim, ◌↔◌, ◌≢◌}
use mathlib.Core.Path.{◌≡◌, refl, sym, subst, subst⁻¹, ◌∙◌}
use Prim.Native.Nat.{ℕ, suc, ◌-◌, ◌*◌, ◌≤◌}
use native.Mathlib.Nat.{mul-le-mul_left}
use native.Mathlib.Omega.{arith}
use lib.Dec.{ltb}
use lib.IntN.{pos, negsuc, pos-ne-negsuc}
use lib.ListN.{length, get_or}
use borrow.Author.Tests.{ltb-false, le-ltb, ne_eqb}
use Rattle.laws.specs.Difference.{◌⊖◌}
use Rattle.laws.proofs.Sums.{sum_bound}
use Rattle.laws.proofs.Tests.{le_or_lt}
use Rattle.rows.specs.declared.Row.{Row}
use Rattle.rows.specs.declared.State.{State}
use Rattle.rows.specs.declared.State.TheVariants.{Free, Going, Asking}
use Rattle.rows.specs.declared.Terms.{Terms}
use Rattle.rows.specs.Numbers.{length_meant}
use Rattle.rows.specs.Orderly.{OrderlyRow}
use Rattle.rows.specs.Row.{blank, is_free, weight_in, is_going}
use Rattle.rows.proofs.Shares.{orderly_weight, asking_not_free, going_not_free, orderly_weighs}
use Rattle.head.specs.declared.Event.{Event}
use Rattle.head.specs.declared.Event.TheVariants.{Fresh, Join, Leave, Reweight, Length, Grant, Return}
use Rattle.head.specs.declared.Head.{Head}
use Rattle.head.specs.Head.{sliced, summed}
use Rattle.head.specs.Lag.{lag_of}
use Rattle.share.specs.declared.Table.{Table}
use Rattle.share.specs.Calls.{step, checks_of, done_by}
use Rattle.share.specs.Events.{meant, joined, left, reweighted, length_set, granted, returned}
use Rattle.share.specs.Release.{released}
use Rattle.share.specs.Sound.{Orderly}
use Rattle.share.specs.Table.{row, true_total, placed, with_slice, AtMostV}
use Rattle.share.proofs.Accepted.{leave_accepted}
use Rattle.share.proofs.Placed.{weight_within}
use Rattle.share.proofs.Sound.{every_row}
use Rattle.share.proofs.Totals.{sums_true}
use Rattle.calls.specs.Meaning.{NotBelow0}
use Rattle.calls.proofs.Departed.{leave_means}
use Rattle.calls.proofs.Exactly.{released_exactly}
use Rattle.calls.proofs.Meaning.{accepted_none}
use Rattle.calls.proofs.Releasing.{put_terms}
use Rattle.calls.proofs.Replies.{call_cases}
use Rattle.head.specs.Answers.{number}
use Rattle.head.specs.Head as AtMost

-- "Slice limit 1 to 100 ticks, fixed when a table is made."
pub left_terms : (t : Table) (queue : ℕ) → (left t queue).head.terms ≡ t.head.terms
unfolding left
left_terms t queue = put_terms t queue _

joined_terms : (t : Table) (queue weight length : ℕ) → (joined t queue weight length).head.terms ≡ t.head.terms
unfolding joined
joined_terms t queue weight length = put_terms t queue _

done_terms : (t : Table) (e : Event) → ((terms : Terms) → e ≢ Fresh terms) → (done_by t e).table.head.terms ≡ t.head.terms
unfolding reweighted length_set granted returned with_slice sliced placed summed
done_terms t (Fresh terms) h = absurd (h terms refl)
done_terms t (Join queue weight length) h = joined_terms t queue weight length
done_terms t (Leave queue) h = left_terms t queue
done_terms t (Reweight queue weight length) h = joined_terms (left t queue) queue weight length ∙ left_terms t queue
done_terms t (Length queue length) h = refl
done_terms t Grant h = refl
done_terms t (Return queue used early) h = put_terms (with_slice t false 0 0) queue _

pub terms_stay : (t : Table) (e : Event) → ((terms : Terms) → e ≢ Fresh terms) → (step t e).table.head.terms ≡ t.head.terms
unfolding step
terms_stay t e h = call_cases (λ r. r.table.head.terms ≡ t.head.terms) (checks_of t e) t (done_by t e) (λ why is. refl) (λ fine. done_terms t e h)

-- "a length of 0 in a call stands for the house default": the table's own (T-09), and any other length for itself
pub zero_means : (t : Table) → meant t 0 ≡ t.head.terms.default
unfolding length_meant
zero_means t = refl

pub other_means : (t : Table) (length : ℕ) → length ≢ 0 → meant t length ≡ length
unfolding length_meant
other_means t length there = rw (ne_eqb length 0 there) refl

-- Lag. A difference is 0 or more where the second is at most the first.
not_below : (a b : ℕ) → b ≤ a → NotBelow0 (a ⊖ b)
unfolding ◌⊖◌
not_below a b l = (a - b, rw (le-ltb a b l) refl)

below_not : (a b : ℕ) → NotBelow0 (a ⊖ b) → b ≤ a
unfolding ◌⊖◌
below_not a b it = by (ltb a b) refl it.1
  where
    by : (c : Bool) → ltb a b ≡ c → cond c (negsuc (b - suc a)) (pos (a - b)) ≡ pos it.0 → b ≤ a
    by true e is = absurd (pos-ne-negsuc it.0 (b - suc a) (sym is))
    by false e is = ltb-false a b e

scaled : (w p W A : ℕ) → 1 ≤ w → (p * W ≤ A) ↔ (w * (W * p) ≤ w * A)
scaled w p W A heavy = (
  λ l. omega (arith, mul-le-mul_left w l),
  λ l. ⊎_elim (λ at_most. at_most) (λ more. absurd (omega (arith, mul-le-mul_left w more, l, heavy))) (le_or_lt (p * W) A),
)

pub lag_here : (h : Head) (r : Row) → is_free r.state ≡ false → lag_of h r ≡ r.weight * h.sum ⊖ r.weight * (h.total * r.position)
unfolding lag_of
lag_here h r there = rw there refl

pub lag_sign_of : (h : Head) (r : Row) → OrderlyRow r → is_free r.state ≡ false → AtMost.AtMostV h r.position ↔ NotBelow0 (lag_of h r)
lag_sign_of h r o there =
    let heavy = orderly_weighs r.state r.weight r.position o there in
    let both = scaled r.weight r.position h.total h.sum heavy in
    let is = lag_here h r there in (
      λ level. subst⁻¹ NotBelow0 is (not_below (r.weight * h.sum) (r.weight * (h.total * r.position)) (both.0 level)),
      λ lag. both.1 (below_not (r.weight * h.sum) (r.weight * (h.total * r.position)) (subst NotBelow0 is lag)),
    )

pub lag_sign : (t : Table) → Orderly t → (i : ℕ) → is_free (row t i).state ≡ false → AtMostV t (row t i).position ↔ NotBelow0 (lag_of t.head (row t i))
lag_sign t o i there = lag_sign_of t.head (row t i) (o.each i) there

-- so release and leave go by the lag
pub released_by_lag : (t : Table) → Orderly t → (j : ℕ) → is_going (row t j).state ≡ true → (is_free (row (released t) j).state ≡ true) ↔ NotBelow0 (lag_of (released t).head (row t j))
released_by_lag t o j going =
    let sign = lag_sign_of (released t).head (row t j) (o.each j) (going_not_free (row t j).state going) in
    let when = released_exactly t j going in
    (λ free. sign.0 (when.0 free), λ lag. when.1 (sign.1 lag))

pub left_by_lag : (t : Table) (queue : ℕ) → number (step t (Leave queue)).answer ≡ 0 → (row (step t (Leave queue)).table queue ≡ blank) ↔ NotBelow0 (lag_of t.head (row t queue))
left_by_lag t queue e =
    let means = leave_means t queue e in
    let o = (leave_accepted t queue (accepted_none t (Leave queue) e)).was_sound.orderly_table in
    let sign = lag_sign t o queue (asking_not_free (row t queue).state means.asked) in
    (λ free. sign.0 (means.freed_exactly.0 free), λ lag. means.freed_exactly.1 (sign.1 lag))

-- An empty table: no row has a part in W.
no_part : (s : State) (n : ℕ) → is_free s ≡ true → cond (is_free s) 0 n ≤ 0
no_part s n free = rw free (omega arith)

free_or_not : (s : State) → (is_free s ≡ false → ⊥) → is_free s ≡ true
free_or_not Free h = refl
free_or_not Going h = absurd (h refl)
free_or_not (Asking q) h = absurd (h refl)

pub empty_means : (t : Table) → Orderly t → (t.head.total ≡ 0) ↔ ((i : ℕ) → is_free (row t i).state ≡ true)
unfolding row true_total weight_in
empty_means t o = (
  λ empty. every_row t (λ r. is_free r.state ≡ true) refl
      (λ i inside. let r : Row = row t i in
      free_or_not r.state
      (λ there. omega (
        arith,
        empty,
        weight_within t i (sums_true o) inside,
        orderly_weight r (o.each i),
        orderly_weighs r.state r.weight r.position (o.each i) there,
      ))),
  λ free. omega (
    arith,
    o.total_true,
    sum_bound weight_in t.rows blank 0 (λ i l. no_part (get_or t.rows i blank).state (get_or t.rows i blank).weight (free i)),
  ),
)
