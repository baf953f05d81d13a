-- The figures of document 01 that no other statement says: 720,720, how large a reported lag can be, and the fields that a call does not speak of.
use mathlib.Core.Bool.{cond}
use mathlib.Core.Logic.{◌≢◌}
use mathlib.Core.Path.{◌≡◌, refl, subst⁻¹}
use Prim.Native.Nat.{ℕ, ◌*◌, ◌≤◌, ◌<◌, ◌^◌, ◌-◌}
use native.Mathlib.Nat.{mul-le-mul}
use native.Mathlib.Omega.{arith}
use lib.IntN.{pos}
use lib.Signed.{mag}
use Rattle.laws.specs.Difference.{◌⊖◌}
use Rattle.laws.proofs.Difference.{difference_mag}
use Rattle.rows.specs.declared.State.{State}
use Rattle.rows.specs.declared.State.TheVariants.{Free, Going, Asking}
use Rattle.rows.specs.Numbers.{max_weight, unit, ceiling, max_total}
use Rattle.rows.specs.Orderly.{OrderlyAs}
use Rattle.rows.specs.Row.{is_free}
use Rattle.head.specs.declared.Event.{Event}
use Rattle.head.specs.declared.Event.TheVariants.{Fresh, Length, Reweight, Return, Grant, Join, Leave}
use Rattle.head.specs.Answers.{queue_granted, slice_granted, denominator_given}
use Rattle.head.specs.Lag.{lag_of}
use Rattle.share.specs.declared.Reply.{Reply}
use Rattle.share.specs.declared.Table.{Table}
use Rattle.share.specs.Calls.{step, checks_of, done_by}
use Rattle.share.specs.Sound.{Orderly}
use Rattle.share.specs.Table.{row}
use Rattle.share.proofs.Totals.{head_small}
use Rattle.calls.specs.Public.{event, answered, checks_on, done_on, Call, report, release, standing}
use Rattle.calls.proofs.Calling.{answered_is}
use Rattle.calls.proofs.Replies.{call_cases}

-- "720,720 is the least common multiple of 1 to 16": a common multiple is one of 16, 9, 5, 7, 11 and 13, and by each of them the factor left over gets smaller
nine : (m a b : ℕ) → 16 * a ≡ m → 9 * b ≡ m → (k : ℕ) × (144 * k ≡ m)
nine m a b x y = (4 * b - 7 * a, omega arith)

five : (m a b : ℕ) → 144 * a ≡ m → 5 * b ≡ m → (k : ℕ) × (720 * k ≡ m)
five m a b x y = (4 * b - 115 * a, omega arith)

seven : (m a b : ℕ) → 720 * a ≡ m → 7 * b ≡ m → (k : ℕ) × (5040 * k ≡ m)
seven m a b x y = (6 * b - 617 * a, omega arith)

eleven : (m a b : ℕ) → 5040 * a ≡ m → 11 * b ≡ m → (k : ℕ) × (55440 * k ≡ m)
eleven m a b x y = (6 * b - 2749 * a, omega arith)

thirteen : (m a b : ℕ) → 55440 * a ≡ m → 13 * b ≡ m → (k : ℕ) × (720720 * k ≡ m)
thirteen m a b x y = (5 * b - 21323 * a, omega arith)

pub least_multiple : (m : ℕ) → 0 < m → ((w : ℕ) → 1 ≤ w → w ≤ max_weight → (k : ℕ) × (w * k ≡ m)) → unit ≤ m
least_multiple m some each =
    let by_16 = each 16 (omega arith) (omega arith) in
    let by_9 = each 9 (omega arith) (omega arith) in
    let by_5 = each 5 (omega arith) (omega arith) in
    let by_7 = each 7 (omega arith) (omega arith) in
    let by_11 = each 11 (omega arith) (omega arith) in
    let by_13 = each 13 (omega arith) (omega arith) in
    let first = nine m by_16.0 by_9.0 by_16.1 by_9.1 in
    let second = five m first.0 by_5.0 first.1 by_5.1 in
    let third = seven m second.0 by_7.0 second.1 by_7.1 in
    let fourth = eleven m third.0 by_11.0 third.1 by_11.1 in
    let fifth = thirteen m fourth.0 by_13.0 fourth.1 by_13.1 in
    omega (arith, fifth.1)

sized : (w x : ℕ) → w ≤ max_weight → x ≤ ceiling * max_total → w * x ≤ 2 ^ 62
sized w x light small = omega (arith, mul-le-mul light small)

crossed : (total p : ℕ) → total ≤ max_total → p ≤ ceiling → total * p ≤ ceiling * max_total
crossed total p t h = omega (arith, mul-le-mul t h)

-- "within 2 to the 62nd": no weight is above 16, no position above P, and W is at most 1024
lag_size : (s : State) (w p total sum : ℕ) → OrderlyAs s w p → total ≤ max_total → sum ≤ ceiling * max_total → mag (cond (is_free s) (pos 0) (w * sum ⊖ w * (total * p))) ≤ 2 ^ 62
lag_size Free w p total sum o t s = omega arith
lag_size Going w p total sum o t s = difference_mag _ _ (2 ^ 62) (sized w sum o.weight_high s) (sized w (total * p) o.weight_high (crossed total p t o.position_high))
lag_size (Asking q) w p total sum o t s = difference_mag _ _ (2 ^ 62) (sized w sum o.0.weight_high s) (sized w (total * p) o.0.weight_high (crossed total p t o.0.position_high))

pub lag_within : (t : Table) → Orderly t → (i : ℕ) → mag (lag_of t.head (row t i)) ≤ 2 ^ 62
unfolding lag_of
lag_within t o i =
    let small = head_small t o in
    let r = row t i in
    lag_size r.state r.weight r.position t.head.total t.head.sum (o.each i) small.total_high small.sum_high

-- "other fields of the answer are 0, as are those that an accepted call doesn't speak of": only a grant names a queue and a slice, only a report a denominator
abbrev Unspoken : Reply → Type 0
Unspoken r = (queue_granted r.answer ≡ 0) × (slice_granted r.answer ≡ 0)

done_names_none : (t : Table) (c : Call) → c ≢ event Grant → Unspoken (done_on t c)
done_names_none t (event (Fresh terms)) h = (refl, refl)
done_names_none t (event (Join q w l)) h = (refl, refl)
done_names_none t (event (Leave q)) h = (refl, refl)
done_names_none t (event (Reweight q w l)) h = (refl, refl)
done_names_none t (event (Length q l)) h = (refl, refl)
done_names_none t (event Grant) h = absurd (h refl)
done_names_none t (event (Return q u early)) h = (refl, refl)
done_names_none t release h = (refl, refl)
done_names_none t (report lent) h = (refl, refl)
done_names_none t (standing q) h = (refl, refl)

pub names_no_queue : (t : Table) (c : Call) → c ≢ event Grant → (queue_granted (answered t c).answer ≡ 0) × (slice_granted (answered t c).answer ≡ 0)
names_no_queue t c h = subst⁻¹ Unspoken (answered_is t c) (call_cases Unspoken (checks_on t c) t (done_on t c) (λ why is. (refl, refl)) (λ fine. done_names_none t c h))

done_no_denominator : (t : Table) (e : Event) → denominator_given (done_by t e).answer ≡ 0
done_no_denominator t (Fresh terms) = refl
done_no_denominator t (Join q w l) = refl
done_no_denominator t (Leave q) = refl
done_no_denominator t (Reweight q w l) = refl
done_no_denominator t (Length q l) = refl
done_no_denominator t Grant = refl
done_no_denominator t (Return q u early) = refl

pub no_denominator : (t : Table) (e : Event) → denominator_given (step t e).answer ≡ 0
unfolding step
no_denominator t e = call_cases (λ (r : Reply). denominator_given r.answer ≡ 0) (checks_of t e) t (done_by t e) (λ why is. refl) (λ fine. done_no_denominator t e)
