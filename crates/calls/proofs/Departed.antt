-- What an accepted leave means, and that a reweight is a leave and a join.
use mathlib.Core.Bool.{true, false, not}
use mathlib.Core.Option.{none}
use mathlib.Core.Path.{◌≡◌, refl, ap, sym, subst, subst⁻¹, ◌∙◌}
use mathlib.Core.Logic.{⊎_elim, ◌≢◌}
use Prim.Native.Nat.{ℕ, ◌*◌, ◌<◌}
use native.Mathlib.Decide.{ℕ_discrete}
use native.Mathlib.Omega.{arith}
use lib.ListN.{length}
use Rattle.laws.proofs.Tests.{clash, refuted, either, le_or_lt}
use Rattle.rows.specs.declared.Row.{Row}
use Rattle.rows.specs.declared.State.TheVariants.{Going}
use Rattle.rows.specs.Row.{blank, is_free, is_going}
use Rattle.rows.proofs.Virtual.{reached_yes, yes_reached}
use Rattle.rows.proofs.Shares.{asking_not_free}
use Rattle.head.specs.declared.Event.TheVariants.{Join, Leave, Reweight}
use Rattle.head.specs.Answers.{number}
use Rattle.head.specs.Refusals.{first_refusal, row_taken, checks_for}
use Rattle.share.specs.declared.Reply.{Reply}
use Rattle.share.specs.declared.Table.{Table}
use Rattle.share.specs.Asks.{Leaves}
use Rattle.share.specs.Calls.{step, checks_of}
use Rattle.share.specs.Events.{joined, leaving, left, reweighted}
use Rattle.share.specs.Release.{freed, Frees, done, released}
use Rattle.share.specs.Sound.{Orderly, Calm}
use Rattle.share.specs.Table.{row, reached, placed, AtMostV}
use Rattle.share.proofs.Accepted.{leave_accepted, reweight_accepted, fails_at}
use Rattle.share.proofs.Departing.{leaving_orderly, rejoins}
use Rattle.share.proofs.Keeps.{placed_keeps}
use Rattle.share.proofs.Placed.{placed_same, placed_other, weight_within}
use Rattle.share.proofs.Release.{frees_released, released_frees}
use Rattle.share.proofs.Sound.{says_sound}
use Rattle.share.proofs.Totals.{sums_true, weighed}
use Rattle.calls.specs.Meaning.{SameSums, ComesToRest, LeaveMeans, ReweightMeans}
use Rattle.calls.proofs.Answering.{step_done}
use Rattle.calls.proofs.OneDeparture.{going_keeps_W, going_keeps_A}
use Rattle.calls.proofs.Releasing.{put_row, put_slice, put_terms, put_release}
use Rattle.calls.proofs.Resting.{comes_to_rest, release_ends, freed_heavy, orderly_heavy}
use Rattle.calls.proofs.Meaning.{accepted_none}

-- Leave.
leaving_reached : (t : Table) (r : Row) → AtMostV t r.position → leaving t r ≡ blank
unfolding leaving
leaving_reached t r level = rw (yes_reached r.position t.head.total t.head.sum level) refl

-- "it becomes going: its request is dropped"
abbrev gone_from : Row → Row
gone_from r = record { weight = r.weight; position = r.position; state = Going }

leaving_owing : (t : Table) (r : Row) → reached t r.position ≡ false → leaving t r ≡ gone_from r
unfolding leaving
leaving_owing t r owing = rw owing refl

module _ (t : Table) (queue : ℕ) (l : Leaves t queue) where
  inside_rows : queue < length t.rows
  inside_rows = omega (arith, l.inside, l.was_sound.orderly_table.one_each)

  left_blank : AtMostV t (row t queue).position → row (left t queue) queue ≡ blank
  unfolding left
  left_blank level =
      let is = leaving_reached t (row t queue) level in
      put_row t queue (leaving t (row t queue)) inside_rows (ap (λ (x : Row). is_going x.state) is) ∙ is

  -- a row that V has not reached: the table with it going is calm, so its release does nothing
  module _ (ahead : AtMostV t (row t queue).position → ⊥) where
    owing : reached t (row t queue).position ≡ false
    owing = refuted (reached t (row t queue).position) (λ e. ahead (reached_yes (row t queue).position t.head.total t.head.sum e))

    -- the table between the leave and its release
    abbrev between : Table
    between = placed t queue (leaving t (row t queue))

    between_row : row between queue ≡ gone_from (row t queue)
    between_row = placed_same t queue (leaving t (row t queue)) inside_rows ∙ leaving_owing t (row t queue) owing

    between_sums : SameSums t between
    between_sums = record { total_same = going_keeps_W t queue l.asks owing; sum_same = going_keeps_A t queue l.asks owing }

    same_level : (p : ℕ) → AtMostV between p → AtMostV t p
    same_level p level = omega (arith, level, ap (λ (x : ℕ). p * x) between_sums.total_same, between_sums.sum_same)

    between_calm : Calm between
    between_calm j ready = by (ℕ_discrete j queue)
      where
        by : Dec (j ≡ queue) → ⊥
        by (yes e) =
            ahead
            (same_level (row t queue).position
            (subst (λ (x : Row). AtMostV between x.position) between_row (subst (λ (k : ℕ). AtMostV between (row between k).position) e ready.level)))
        by (no apart) =
            let same = placed_other t queue (leaving t (row t queue)) j apart in
            l.was_sound.no_one_ready j
            (record {
              going = subst (λ (x : Row). is_going x.state ≡ true) same ready.going;
              level = subst (λ (x : Row). AtMostV t x.position) same (same_level (row between j).position ready.level);
            })

    left_between : between ≡ left t queue
    unfolding left
    left_between =
        let o = l.was_sound.orderly_table in
        frees_released
        (weighed (placed_keeps t queue (leaving t (row t queue)) l.still o l.inside (leaving_orderly t (row t queue) l.asks (o.each queue))))
        (done between_calm)

    left_going : row (left t queue) queue ≡ gone_from (row t queue)
    left_going = subst (λ (u : Table). row u queue ≡ gone_from (row t queue)) left_between between_row

    left_sums : SameSums t (left t queue)
    left_sums = subst (SameSums t) left_between between_sums

    left_others : (i : ℕ) → i ≢ queue → row (left t queue) i ≡ row t i
    left_others i apart = subst (λ (u : Table). row u i ≡ row t i) left_between (placed_other t queue (leaving t (row t queue)) i apart)

  -- where no one is left: the queue was freed, and all that were going after it
  left_rests : (left t queue).head.total ≡ 0 → ComesToRest t (left t queue)
  unfolding left freed
  left_rests empty = ⊎_elim reached_it owed_it (either (reached t (row t queue).position))
    where
      o : Orderly t
      o = l.was_sound.orderly_table

      here : is_free (row t queue).state ≡ false
      here = asking_not_free (row t queue).state l.asks

      way : AtMostV t (row t queue).position → Frees (freed t queue) (left t queue)
      way level = subst (λ (r : Row). Frees (placed t queue r) (released (placed t queue (leaving t (row t queue))))) (leaving_reached t (row t queue) level) (released_frees (placed t queue (leaving t (row t queue))))

      reached_it : reached t (row t queue).position ≡ true → ComesToRest t (left t queue)
      reached_it e =
          let level = reached_yes (row t queue).position t.head.total t.head.sum e in
          comes_to_rest queue (orderly_heavy o) here level (release_ends (way level) empty (freed_heavy t queue here (orderly_heavy o)))

      owed_it : reached t (row t queue).position ≡ false → ComesToRest t (left t queue)
      owed_it e =
          absurd
          (omega (
            arith,
            (orderly_heavy o).weighs queue here,
            weight_within t queue (sums_true o) inside_rows,
            (left_sums (λ level. clash (yes_reached (row t queue).position t.head.total t.head.sum level) e)).total_same,
          ))

  left_means : LeaveMeans t (left t queue) queue
  unfolding left
  left_means =
      record {
        asked = l.asks;
        freed_exactly = (
          λ free. ⊎_elim (λ level. level)
              (λ far. absurd (clash (ap (λ (x : Row). is_free x.state) free) (ap (λ (x : Row). is_free x.state) (left_going (λ level. omega arith)))))
              (le_or_lt ((row t queue).position * t.head.total) t.head.sum),
          left_blank,
        );
        becomes_going = left_going;
        sums_kept = left_sums;
        others_same = left_others;
        rests = left_rests;
        slice = put_slice t queue (leaving t (row t queue));
        terms_same = put_terms t queue (leaving t (row t queue));
        release = put_release t queue (leaving t (row t queue));
      }

pub leave_means : (t : Table) (queue : ℕ) → number (step t (Leave queue)).answer ≡ 0 → LeaveMeans t (step t (Leave queue)).table queue
leave_means t queue fine =
    let e = accepted_none t (Leave queue) fine in
    subst⁻¹ (λ (r : Reply). LeaveMeans t r.table queue) (step_done t (Leave queue) e) (left_means t queue (leave_accepted t queue e))

-- Reweight.
module _ (t : Table) (queue weight length : ℕ) (e : first_refusal (checks_of t (Reweight queue weight length)) ≡ none) where
  first_leaves : first_refusal (checks_of t (Leave queue)) ≡ none
  unfolding checks_of checks_for
  first_leaves = let fails = fails_at (checks_of t (Reweight queue weight length)) e in rw (fails 5, fails 0, fails 1, fails 4) refl

  then_joins : first_refusal (checks_of (left t queue) (Join queue weight length)) ≡ none
  unfolding checks_of checks_for row_taken
  then_joins =
      let fails = fails_at (checks_of t (Reweight queue weight length)) e in
      let j = rejoins t queue weight length (reweight_accepted t queue weight length e) in
      rw (j.free, ap not (says_sound (left t queue) j.was_sound), fails 1, fails 2, fails 3, j.still) refl

  after_leave : (step t (Leave queue)).table ≡ left t queue
  after_leave = ap (λ (r : Reply). r.table) (step_done t (Leave queue) first_leaves)

  two_steps : ReweightMeans t (reweighted t queue weight length) queue weight length
  unfolding reweighted
  two_steps =
      let second = step_done (left t queue) (Join queue weight length) then_joins in
      record {
        owed = (reweight_accepted t queue weight length e).owed;
        leaves = ap (λ (r : Reply). number r.answer) (step_done t (Leave queue) first_leaves);
        joins = subst⁻¹ (λ (u : Table). number (step u (Join queue weight length)).answer ≡ 0) after_leave (ap (λ (r : Reply). number r.answer) second);
        table_is = subst⁻¹ (λ (u : Table). joined (left t queue) queue weight length ≡ (step u (Join queue weight length)).table) after_leave (sym (ap (λ (r : Reply). r.table) second));
      }

pub reweight_means : (t : Table) (queue weight length : ℕ) → number (step t (Reweight queue weight length)).answer ≡ 0 → ReweightMeans t (step t (Reweight queue weight length)).table queue weight length
reweight_means t queue weight length fine =
    let e = accepted_none t (Reweight queue weight length) fine in
    subst⁻¹ (λ (r : Reply). ReweightMeans t r.table queue weight length) (step_done t (Reweight queue weight length) e) (two_steps t queue weight length e)
