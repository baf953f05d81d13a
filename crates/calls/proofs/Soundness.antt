-- Every accepted event gives a sound table, and so every table of a run from a fresh one is sound.
use mathlib.Core.Bool.{Bool, true, false, cond}
use mathlib.Core.List.{List, ◌∷◌, []}
use mathlib.Core.Option.{none}
use mathlib.Core.Path.{◌≡◌, refl, ap, subst, subst⁻¹, ◌∙◌}
use Prim.Native.Nat.{ℕ, zero, suc, ◌*◌, ◌<◌}
use native.Mathlib.Decide.{ℕ_discrete}
use native.Mathlib.Omega.{arith}
use lib.ListN.{length, replicate, get_or}
use borrow.Author.Tests.{not-false}
use Rattle.laws.proofs.Tests.{clash}
use Rattle.rows.specs.declared.Row.{Row}
use Rattle.rows.specs.declared.State.{State}
use Rattle.rows.specs.declared.State.TheVariants.{Free, Going, Asking}
use Rattle.rows.specs.declared.Terms.{Terms}
use Rattle.rows.specs.Numbers.{queues}
use Rattle.rows.specs.Orderly.{OrderlyRow, Allowed, slice_least}
use Rattle.rows.specs.Requests.{entering, next_set, row_next_set, charged}
use Rattle.rows.specs.Row.{blank, is_free, is_going, is_asking, weight_in, moment_in}
use Rattle.rows.specs.Virtual.{eligible_as, eligible_at}
use Rattle.rows.proofs.Orderly.{fits_says, limit_within, rule_within, default_within}
use Rattle.rows.proofs.Requests.{entering_orderly, next_orderly, charged_orderly}
use Rattle.rows.proofs.Virtual.{reached_yes}
use Rattle.head.specs.declared.Event.{Event}
use Rattle.head.specs.declared.Event.TheVariants.{Fresh, Join, Leave, Reweight, Length, Grant, Return}
use Rattle.head.specs.declared.Head.{Head}
use Rattle.head.specs.Head.{entry, sliced, empty_head}
use Rattle.head.specs.Refusals.{fresh_checks, ceiling_passed, passed_as, checks_for, first_refusal}
use Rattle.head.specs.Slice.{HeldBy, slice_as, slice_for}
use Rattle.share.specs.declared.Table.{Table}
use Rattle.share.specs.Asks.{Joins, Reweights, Lengthens, Grants, Returns}
use Rattle.share.specs.Calls.{step, checks_of, done_by}
use Rattle.share.specs.Choice.{eligible}
use Rattle.share.specs.Events.{empty_table, joined, left, reweighted, length_set, chosen, slice_given, granted, returned, meant}
use Rattle.share.specs.Runs.{run}
use Rattle.share.specs.Sound.{Calm, Sound}
use Rattle.share.specs.Table.{row, true_total, true_sum, placed, with_slice}
use Rattle.share.proofs.Accepted.{join_accepted, leave_accepted, reweight_accepted, length_accepted, grant_accepted, return_accepted, fails_at}
use Rattle.share.proofs.Charges.{taken_in, holding, charge_within}
use Rattle.share.proofs.Departing.{placed_out, left_sound, rejoins}
use Rattle.share.proofs.Keeps.{placed_keeps, release_sound}
use Rattle.share.proofs.Mean.{chosen_rightly, chosen_inside}
use Rattle.share.proofs.Placed.{placed_same, placed_other}
use Rattle.share.proofs.Totals.{entry_high}
use Rattle.calls.proofs.Replies.{call_cases}
use Rattle.calls.proofs.SameSums.{placed_total, placed_sum}

pub joined_sound : (t : Table) (queue weight length : ℕ) → Joins t queue weight length → Sound (joined t queue weight length)
unfolding joined
joined_sound t queue weight length j =
    let o = j.was_sound.orderly_table in
    let r = entering weight (entry t.head) (meant t length) in
    release_sound (placed t queue r) (placed_out t queue r ∙ j.still)
    (placed_keeps t queue r j.still o j.inside
    (entering_orderly t.head.terms weight (entry t.head) length o.terms_allowed
    (record { weight_low = j.weight_low; weight_high = j.weight_high; position_high = entry_high t o })
    j.length_high))

pub reweighted_sound : (t : Table) (queue weight length : ℕ) → Reweights t queue weight length → Sound (reweighted t queue weight length)
unfolding reweighted
reweighted_sound t queue weight length r = joined_sound (left t queue) queue weight length (rejoins t queue weight length r)

-- a row that is not going, put in place of one with the same share, makes no row ready
calm_placed : (t : Table) (i : ℕ) (r : Row) → i < length t.rows → is_going r.state ≡ false → weight_in r ≡ weight_in (row t i) → moment_in r ≡ moment_in (row t i) → Calm t → Calm (placed t i r)
calm_placed t i r inside stays w m calm j ready = by (ℕ_discrete j i)
  where
    by : Dec (j ≡ i) → ⊥
    by (yes e) =
        clash (rw (placed_same t i r inside) at (subst (λ (k : ℕ). is_going (row (placed t i r) k).state ≡ true) e ready.going)) stays
    by (no apart) =
        calm j
        (record {
          going = rw (placed_other t i r j apart) at ready.going;
          level = rw (placed_other t i r j apart, placed_total t i r w, placed_sum t i r m) at ready.level;
        })

next_share : (s : State) (length : ℕ) → (is_free (next_set s length) ≡ is_free s) × (is_going (next_set s length) ≡ is_going s)
next_share Free length = (refl, refl)
next_share Going length = (refl, refl)
next_share (Asking q) length = (refl, refl)

asking_stays : (s : State) → is_asking s ≡ true → is_going s ≡ false
asking_stays Free e = refl
asking_stays Going e = absurd (clash e refl)
asking_stays (Asking q) e = refl

pub length_sound : (t : Table) (queue length : ℕ) → Lengthens t queue length → Sound (length_set t queue length)
unfolding length_set row_next_set weight_in moment_in
length_sound t queue length l =
    let s = l.leaves.was_sound in
    let o = s.orderly_table in
    let old = row t queue in
    let new : Row = record { weight = old.weight; position = old.position; state = next_set old.state (meant t length) } in
    let kind = next_share old.state (meant t length) in
    let inside : queue < lib.ListN.length t.rows = omega (arith, l.leaves.inside, o.one_each) in
    record {
      orderly_table =
          placed_keeps t queue new l.leaves.still o l.leaves.inside
          (next_orderly t.head.terms old.state old.weight old.position length o.terms_allowed l.length_high (o.each queue));
      no_one_ready =
          calm_placed t queue new inside (kind.1 ∙ asking_stays old.state l.leaves.asks)
          (ap (λ (b : Bool). cond b 0 old.weight) kind.0)
          (ap (λ (b : Bool). cond b 0 (old.weight * old.position)) kind.0)
          s.no_one_ready;
    }

-- a slice comes and goes without a change to any row
calm_slice : (t : Table) (out : Bool) (holder ticks : ℕ) → Calm t → Calm (with_slice t out holder ticks)
unfolding with_slice sliced row
calm_slice t out holder ticks calm i ready = calm i (record { going = ready.going; level = ready.level })

granted_holder : (h : Head) (who w : ℕ) (s : State) → eligible_as h.total h.sum s ≡ true → passed_as s w ≡ false → HeldBy (sliced h true who (slice_as h.terms s)) s w
unfolding sliced slice_least
granted_holder h who w Free asks high = clash asks refl
granted_holder h who w Going asks high = clash asks refl
granted_holder h who w (Asking q) asks high =
    record {
      opened = reached_yes q.opening h.total h.sum asks;
      deadline_high = fits_says w q (not-false _ high);
      slice_low = omega arith;
      slice_high = omega arith;
    }

pub granted_sound : (t : Table) → Grants t → Sound (granted t)
unfolding granted slice_given slice_for with_slice sliced row eligible eligible_at ceiling_passed
granted_sound t g =
    let o = g.was_sound.orderly_table in
    let r = row t (chosen t) in
    record {
      orderly_table =
          record {
            one_each = o.one_each;
            terms_allowed = o.terms_allowed;
            each = o.each;
            total_true = o.total_true;
            sum_true = o.sum_true;
            rest = record { rest_high = o.rest.rest_high; only_empty = o.rest.only_empty };
            slice = (
              chosen_inside t g.was_sound g.present,
              granted_holder t.head (chosen t) r.weight r.state (chosen_rightly t g.was_sound g.present).asks g.fits,
            );
          };
      no_one_ready = calm_slice t true (chosen t) (slice_given t) g.was_sound.no_one_ready;
    }

pub returned_sound : (t : Table) (queue used : ℕ) (early : Bool) → Returns t queue used → Sound (returned t queue used early)
unfolding returned with_slice sliced
returned_sound t queue used early r =
    let o = r.was_sound.orderly_table in
    let h = holding t queue used r in
    let new = charged (row t queue) used early in
    release_sound (placed (with_slice t false 0 0) queue new) (placed_out (with_slice t false 0 0) queue new)
    (placed_keeps (with_slice t false 0 0) queue new refl (taken_in t o) r.inside
    (charged_orderly (row t queue) h.request used early h.state_asking (o.each queue) (charge_within t queue used r)))

pub blank_row : (n i : ℕ) → get_or (replicate n blank) i blank ≡ blank
blank_row zero i = refl
blank_row (suc n) zero = refl
blank_row (suc n) (suc i) = blank_row n i

pub empty_sound : (terms : Terms) → Allowed terms → Sound (empty_table terms)
unfolding empty_table empty_head row true_total true_sum weight_in moment_in
empty_sound terms is_allowed =
    record {
      orderly_table =
          record {
            one_each = refl;
            terms_allowed = is_allowed;
            each = λ i. subst⁻¹ OrderlyRow (blank_row queues i) (refl, refl);
            total_true = refl;
            sum_true = refl;
            rest = record { rest_high = omega arith; only_empty = λ some. refl };
            slice = (refl, refl);
          };
      no_one_ready = λ i ready. clash ready.going (ap (λ (r : Row). is_going r.state) (blank_row queues i));
    }

-- terms that no refusal of a fresh table speaks against are allowed
pub fresh_allowed : (terms : Terms) → first_refusal (fresh_checks terms) ≡ none → Allowed terms
fresh_allowed terms e =
    let fails = fails_at (fresh_checks terms) e in
    let limit = limit_within terms (fails 0) in
    let rule = rule_within terms (fails 1) in
    record {
      limit_low = limit.0;
      limit_high = limit.1;
      rule_low = rule.0;
      rule_high = rule.1;
      default_known = default_within terms (fails 2);
    }

-- what an accepted event leaves
done_sound : (t : Table) (e : Event) → first_refusal (checks_of t e) ≡ none → Sound (done_by t e).table
unfolding checks_of checks_for
done_sound t (Fresh terms) e = empty_sound terms (fresh_allowed terms e)
done_sound t (Join queue weight length) e = joined_sound t queue weight length (join_accepted t queue weight length e)
done_sound t (Leave queue) e = left_sound t queue (leave_accepted t queue e)
done_sound t (Reweight queue weight length) e = reweighted_sound t queue weight length (reweight_accepted t queue weight length e)
done_sound t (Length queue length) e = length_sound t queue length (length_accepted t queue length e)
done_sound t Grant e = granted_sound t (grant_accepted t e)
done_sound t (Return queue used early) e = returned_sound t queue used early (return_accepted t queue used early e)

-- "an accepted event on a sound table gives a sound table", and a refused one gives the table back
pub step_keeps : (t : Table) (e : Event) → Sound t → Sound (step t e).table
unfolding step
step_keeps t e h = call_cases (λ r. Sound r.table) (checks_of t e) t (done_by t e) (λ why refused. h) (done_sound t e)

pub run_keeps : (es : List Event) (t : Table) → Sound t → Sound (run t es)
run_keeps [] t h = h
run_keeps (e ∷ es) t h = run_keeps es (step t e).table (step_keeps t e h)

-- every table of a run from a fresh one
pub run_sound : (terms : Terms) → Allowed terms → (es : List Event) → Sound (run (empty_table terms) es)
run_sound terms is_allowed es = run_keeps es (empty_table terms) (empty_sound terms is_allowed)
