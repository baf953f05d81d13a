-- What each accepted event means, proved of the definitions that the contracts cite: the statements are the records of specs/Meaning.
use mathlib.Core.Bool.{Bool, true, false, cond}
use mathlib.Core.Logic.{◌⊎◌, ⊎_elim}
use mathlib.Core.Option.{Option, none, some}
use mathlib.Core.Path.{◌≡◌, refl, ap, sym, subst, subst⁻¹, ◌∙◌}
use Prim.Native.Nat.{ℕ, ◌+◌, ◌*◌, ◌≤◌, ◌<◌}
use native.Mathlib.Omega.{arith}
use lib.ListN.{length}
use Rattle.std.specs.Prelude.{Result, Ok}
use Rattle.laws.proofs.Tests.{clash}
use Rattle.rows.specs.declared.Request.{Request}
use Rattle.rows.specs.declared.Row.{Row}
use Rattle.rows.specs.declared.State.{State}
use Rattle.rows.specs.declared.State.TheVariants.{Free, Going, Asking}
use Rattle.rows.specs.declared.Terms.{Terms}
use Rattle.rows.specs.Numbers.{queues}
use Rattle.rows.specs.Requests.{opened, entering, next_set, row_next_set, served_to, served, charged}
use Rattle.rows.specs.Row.{is_free, is_going, is_asking, weight_in, moment_in, charged_to}
use Rattle.rows.proofs.Requests.{served_early, served_up, served_on}
use Rattle.head.specs.declared.Answer.{Answer}
use Rattle.head.specs.declared.Answer.TheVariants.{Granted}
use Rattle.head.specs.declared.Event.{Event}
use Rattle.head.specs.declared.Event.TheVariants.{Fresh, Join, Length, Grant, Return}
use Rattle.head.specs.declared.Refusal.{Refusal}
use Rattle.head.specs.Answers.{number}
use Rattle.head.specs.Head.{empty_head, entry, sliced, summed}
use Rattle.head.specs.Refusals.{first_refusal}
use Rattle.head.proofs.Entry.{entry_empty_lem, entry_not_below, entry_least}
use Rattle.share.specs.declared.Reply.{Reply}
use Rattle.share.specs.declared.Table.{Table}
use Rattle.share.specs.Asks.{Joins, Lengthens, Returns}
use Rattle.share.specs.Calls.{step, checks_of}
use Rattle.share.specs.Events.{empty_table, meant, joined, length_set, chosen, slice_given, granted, returned}
use Rattle.share.specs.Release.{released}
use Rattle.share.specs.Table.{row, placed, with_slice}
use Rattle.share.proofs.Accepted.{join_accepted, length_accepted, return_accepted}
use Rattle.share.proofs.Charges.{holding, return_asks}
use Rattle.share.proofs.Placed.{placed_same, placed_other}
use Rattle.calls.specs.Meaning.{AsksWith, ReleaseFollows, FreshMeans, LengthMeans, GrantMeans, ReturnMeans, JoinMeans}
use Rattle.calls.specs.Rightly.{Rightly}
use Rattle.calls.proofs.Answering.{step_done, step_refused}
use Rattle.calls.proofs.Granting.{grant_rightly}
use Rattle.calls.proofs.Numbered.{known}
use Rattle.calls.proofs.Releasing.{put_row, put_slice, put_terms, put_release}
use Rattle.calls.proofs.SameSums.{placed_total, placed_sum}
use Rattle.calls.proofs.Soundness.{blank_row}

-- an answer of 0 is no refusal
pub accepted_none : (t : Table) (e : Event) → number (step t e).answer ≡ 0 → first_refusal (checks_of t e) ≡ none
accepted_none t e fine = by (first_refusal (checks_of t e)) refl
  where
    by : (o : Option Refusal) → first_refusal (checks_of t e) ≡ o → first_refusal (checks_of t e) ≡ none
    by none is = is
    by (some why) is = absurd (omega (arith, (known why).1, (step_refused t e why is).answer_is, fine))

-- an asking row has a request
asking_request : (s : State) → is_asking s ≡ true → (q : Request) × (s ≡ Asking q)
asking_request Free e = absurd (clash e refl)
asking_request Going e = absurd (clash e refl)
asking_request (Asking q) e = (q, refl)

-- Fresh.
empty_means_fresh : (terms : Terms) → FreshMeans (empty_table terms) terms
unfolding empty_table empty_head row
empty_means_fresh terms =
    record {
      one_each = refl;
      all_free = λ i. blank_row queues i;
      total_none = refl;
      sum_none = refl;
      rest_none = refl;
      terms_given = refl;
      not_out = refl;
      holder_none = refl;
      ticks_none = refl;
    }

pub fresh_means : (t : Table) (terms : Terms) → number (step t (Fresh terms)).answer ≡ 0 → FreshMeans (step t (Fresh terms)).table terms
fresh_means t terms fine =
    subst⁻¹ (λ (r : Reply). FreshMeans r.table terms) (step_done t (Fresh terms) (accepted_none t (Fresh terms) fine)) (empty_means_fresh terms)

-- Length.
next_share : (w p length : ℕ) (s : State) → (cond (is_free (next_set s length)) 0 w ≡ cond (is_free s) 0 w) × (cond (is_free (next_set s length)) 0 (w * p) ≡ cond (is_free s) 0 (w * p))
next_share w p length Free = (refl, refl)
next_share w p length Going = (refl, refl)
next_share w p length (Asking q) = (refl, refl)

module _ (t : Table) (queue length : ℕ) where
  -- the row that a length event puts in place
  abbrev new : Row
  new = row_next_set (row t queue) (meant t length)

  new_weight : weight_in new ≡ weight_in (row t queue)
  unfolding row_next_set weight_in
  new_weight = (next_share (row t queue).weight (row t queue).position (meant t length) (row t queue).state).0

  new_moment : moment_in new ≡ moment_in (row t queue)
  unfolding row_next_set moment_in
  new_moment = (next_share (row t queue).weight (row t queue).position (meant t length) (row t queue).state).1

  next_asks : (q : Request) → (row t queue).state ≡ Asking q → AsksWith new (row t queue).weight (row t queue).position q.opening q.length q.served (meant t length)
  unfolding row_next_set
  next_asks q asked = record { weight_is = refl; position_is = refl; request_is = ap (λ (s : State). next_set s (meant t length)) asked }

  set_means : Lengthens t queue length → LengthMeans t (length_set t queue length) queue length
  unfolding length_set placed summed
  set_means l =
      let found = asking_request (row t queue).state l.leaves.asks in
      let q : Request = found.0 in
      let inside : queue < lib.ListN.length t.rows = omega (arith, l.leaves.inside, l.leaves.was_sound.orderly_table.one_each) in
      record {
        request = q;
        asked = found.1;
        asks =
            subst⁻¹ (λ (r : Row). AsksWith r (row t queue).weight (row t queue).position q.opening q.length q.served (meant t length))
            (placed_same t queue new inside) (next_asks q found.1);
        sums = record { total_same = placed_total t queue new new_weight; sum_same = placed_sum t queue new new_moment };
        slice = record { out_same = refl; holder_same = refl; ticks_same = refl };
        terms_same = refl;
        others_same = λ i apart. placed_other t queue new i apart;
      }

  pub length_means : number (step t (Length queue length)).answer ≡ 0 → LengthMeans t (step t (Length queue length)).table queue length
  length_means fine =
      let e = accepted_none t (Length queue length) fine in
      subst⁻¹ (λ (r : Reply). LengthMeans t r.table queue length) (step_done t (Length queue length) e) (set_means (length_accepted t queue length e))

-- Grant.
granted_means : (t : Table) → GrantMeans t (granted t) (chosen t) (slice_given t)
unfolding granted with_slice sliced
granted_means t =
    record {
      rows_same = refl;
      sums = record { total_same = refl; sum_same = refl };
      terms_same = refl;
      out = refl;
      holder_is = refl;
      ticks_is = refl;
    }

pub grant_means : (t : Table) (queue slice : ℕ) → (step t Grant).answer ≡ Ok (Granted queue slice) → Rightly t queue slice × GrantMeans t (step t Grant).table queue slice
grant_means t queue slice is =
    let e = accepted_none t Grant (ap number is) in
    let done = step_done t Grant e in
    let told : ◌≡◌ {A = Result Answer Refusal} (Ok (Granted (chosen t) (slice_given t))) (Ok (Granted queue slice)) = sym (ap (λ (r : Reply). r.answer) done) ∙ is in
    let q : chosen t ≡ queue = cc in
    let s : slice_given t ≡ slice = cc in (
      grant_rightly t e queue slice is,
      subst⁻¹ (λ (r : Reply). GrantMeans t r.table queue slice) done
          (subst (λ (i : ℕ). GrantMeans t (granted t) i slice) q (subst (GrantMeans t (granted t) (chosen t)) s (granted_means t))),
    )

-- Return.
module _ (r : Row) (q : Request) (used : ℕ) (early : Bool) (asked : r.state ≡ Asking q) where
  charged_ended : (early ≡ true) ⊎ (q.length ≤ q.served + used) → AsksWith (charged r used early) r.weight (charged_to r.weight r.position used) (charged_to r.weight r.position used) q.next 0 q.next
  unfolding charged opened
  charged_ended ends =
      let p = charged_to r.weight r.position used in
      let opens : opened p q.next ≡ served_to q p used early = ⊎_elim (λ e. served_early q p used early e) (λ l. served_up q p used early l) ends in
      record { weight_is = refl; position_is = refl; request_is = ap (λ (s : State). served s p used early) asked ∙ ap Asking (sym opens) }

  charged_on : early ≡ false → q.served + used < q.length → AsksWith (charged r used early) r.weight (charged_to r.weight r.position used) q.opening q.length (q.served + used) q.next
  unfolding charged
  charged_on e l =
      let p = charged_to r.weight r.position used in
      record { weight_is = refl; position_is = refl; request_is = ap (λ (s : State). served s p used early) asked ∙ ap Asking (sym (served_on q p used early e l)) }

-- a slice that comes or goes leaves the rows
after_slice : (t : Table) (out : Bool) (holder ticks : ℕ) {u : Table} {queue : ℕ} → ReleaseFollows (with_slice t out holder ticks) u queue → ReleaseFollows t u queue
unfolding with_slice sliced row
after_slice t out holder ticks f =
    record { others_same = f.others_same; freed_exactly = f.freed_exactly; waits = f.waits; none_left = f.none_left }

module _ (t : Table) (queue used : ℕ) (early : Bool) where
  taken_means : Returns t queue used → ReturnMeans t (returned t queue used early) queue used early
  unfolding returned with_slice sliced charged_to
  taken_means r =
      let held = holding t queue used r in
      let q : Request = held.request in
      let old : Row = row t queue in
      let new : Row = charged old used early in
      let before : Table = with_slice t false 0 0 in
      let inside : queue < length t.rows = omega (arith, r.inside, r.was_sound.orderly_table.one_each) in
      let is : row (released (placed before queue new)) queue ≡ new = put_row before queue new inside (return_asks t queue used r early) in
      let slice = put_slice before queue new in
      record {
        request = q;
        asked = held.state_asking;
        position = charged_to old.weight old.position used;
        rises = refl;
        next_opens = λ ends. subst⁻¹ (λ (x : Row). AsksWith x old.weight (charged_to old.weight old.position used) (charged_to old.weight old.position used) q.next 0 q.next) is (charged_ended old q used early held.state_asking ends);
        stays_open = λ e l. subst⁻¹ (λ (x : Row). AsksWith x old.weight (charged_to old.weight old.position used) q.opening q.length (q.served + used) q.next) is (charged_on old q used early held.state_asking e l);
        in_again = slice.out_same;
        holder_none = slice.holder_same;
        ticks_none = slice.ticks_same;
        terms_same = put_terms before queue new;
        release = after_slice t false 0 0 (put_release before queue new);
      }

  pub return_means : number (step t (Return queue used early)).answer ≡ 0 → ReturnMeans t (step t (Return queue used early)).table queue used early
  return_means fine =
      let e = accepted_none t (Return queue used early) fine in
      subst⁻¹ (λ (r : Reply). ReturnMeans t r.table queue used early) (step_done t (Return queue used early) e) (taken_means (return_accepted t queue used early e))

-- Join.
entering_asks : (weight position length : ℕ) → AsksWith (entering weight position length) weight position position length 0 length
unfolding entering opened
entering_asks weight position length = record { weight_is = refl; position_is = refl; request_is = refl }

entering_stays : (weight position length : ℕ) → is_going (entering weight position length).state ≡ false
unfolding entering
entering_stays weight position length = refl

module _ (t : Table) (queue weight length : ℕ) where
  joined_means : Joins t queue weight length → JoinMeans t (joined t queue weight length) queue weight length
  unfolding joined
  joined_means j =
      let at : ℕ = entry t.head in
      let new : Row = entering weight at (meant t length) in
      let inside : queue < lib.ListN.length t.rows = omega (arith, j.inside, j.was_sound.orderly_table.one_each) in
      record {
        was_free = j.free;
        position = at;
        not_below = λ present. entry_not_below t.head present;
        least = λ present c l. entry_least t.head present c l;
        into_empty = λ empty. entry_empty_lem t.head empty;
        asks = subst⁻¹ (λ (x : Row). AsksWith x weight at at (meant t length) 0 (meant t length)) (put_row t queue new inside (entering_stays weight at (meant t length))) (entering_asks weight at (meant t length));
        slice = put_slice t queue new;
        terms_same = put_terms t queue new;
        release = put_release t queue new;
      }

  pub join_means : number (step t (Join queue weight length)).answer ≡ 0 → JoinMeans t (step t (Join queue weight length)).table queue weight length
  join_means fine =
      let e = accepted_none t (Join queue weight length) fine in
      subst⁻¹ (λ (r : Reply). JoinMeans t r.table queue weight length) (step_done t (Join queue weight length) e) (joined_means (join_accepted t queue weight length e))
