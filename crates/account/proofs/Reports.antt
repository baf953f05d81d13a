-- What is tied, as document 01 says it: the reported lag is the account, row by row; accounts and reported lags add up to nothing, since the sum of
-- weight x (A - W x position) is W x A - W x A; no account is as low as minus the longest request.
use mathlib.Core.Bool.{false, cond}
use mathlib.Core.List.{List, [], ◌∷◌, map, ◌++◌}
use mathlib.Core.Logic.{⊎_elim}
use mathlib.Core.Option.{none}
use mathlib.Core.Path.{◌≡◌, refl, ap, sym, subst, ◌∙◌}
use Prim.Native.Nat.{ℕ, ◌+◌, ◌*◌, ◌≤◌, ◌<◌}
use native.Mathlib.Nat.{mul-pos}
use native.Mathlib.Omega.{arith}
use lib.IntN.{ℤ, pos}
use lib.Dec.{eqb}
use lib.ListN.{length, get_or, take, drop, length-map, get_or-map, get_or-append}
use lib.Seq.{take_at}
use borrow.Author.Tests.{le-ltb, eq-eqb, ne_eqb}
use Rattle.std.specs.Prelude.{Ok}
use Rattle.laws.specs.Difference.{◌⊖◌}
use Rattle.laws.specs.Lists.{sum_of}
use Rattle.laws.proofs.Tests.{le_or_lt}
use Rattle.rows.specs.declared.Row.{Row}
use Rattle.rows.specs.declared.State.{State}
use Rattle.rows.specs.declared.State.TheVariants.{Free, Going, Asking}
use Rattle.rows.specs.Numbers.{queues, unit}
use Rattle.rows.specs.Row.{blank, is_free, weight_in as weight_of_row, moment_in as moment_of_row}
use Rattle.rows.proofs.Shares.{moment_is, free_weighs_nothing}
use Rattle.head.specs.declared.Answer.TheVariants.{Reported}
use Rattle.head.specs.Answers.{denominator_given}
use Rattle.head.specs.Head.{is_empty}
use Rattle.head.specs.Lag.{lag_of, lag_unit}
use Rattle.head.specs.Refusals.{first_refusal}
use Rattle.share.specs.declared.Table.{Table}
use Rattle.share.specs.Calls.{lag_checks, lag_reply, lag_list}
use Rattle.share.specs.LagList.{lags_into}
use Rattle.share.specs.Sound.{Sound}
use Rattle.share.specs.Table.{row, true_total, true_sum, placed}
use Rattle.share.proofs.Placed.{no_weight, no_sum}
use Rattle.share.proofs.Sound.{says_sound}
use Rattle.share.proofs.Stepping.{call_accepted}
use Rattle.fractions.specs.Fraction.{over_above, ◌÷◌, whole, nothing, ◌~◌, total}
use Rattle.fractions.specs.Signed.{summed}
use Rattle.fractions.proofs.Differences.{Is, itself, difference_is, equal_is, summed_is}
use Rattle.fractions.proofs.Values.{value_any_over, value_over, value_whole, value_nothing, value_minus, value_change, same_value, value_above, total_value}
use Rattle.account.specs.Account.{Entry, absent, present, Queue, Account, entry, owed_to, rest, weight_left}
use Rattle.account.specs.Bound.{too_low}
use Rattle.account.specs.Report.{virtual_time, lag_in, reported}
use Rattle.account.proofs.Match.{Alike, same_weight, placed_total, placed_sum, match_set, blank_alike}
use Rattle.account.proofs.Releases.{present_inside, live_at}
use Rattle.account.proofs.Tied.{Held, Tied}

-- the numerator of a row's lag, in the row's part of W
lag_as : (s : State) (w A W p : ℕ) → Is (cond (is_free s) (pos 0) (w * A ⊖ w * (W * p))) (cond (is_free s) 0 w * A) (cond (is_free s) 0 w * (W * p))
lag_as Free w A W p = record { same = omega arith }
lag_as Going w A W p = difference_is (w * A) (w * (W * p))
lag_as (Asking q) w A W p = difference_is (w * A) (w * (W * p))

pub lag_is : (t : Table) (r : Row) → Is (lag_of t.head r) (weight_of_row r * t.head.sum) (weight_of_row r * (t.head.total * r.position))
unfolding lag_of weight_of_row
lag_is t r = lag_as r.state r.weight t.head.sum t.head.total r.position

-- where no one is present, nothing is owed and every lag is 0
absent_owes : (r : Row) (e : Entry) → Alike r e → weight_of_row r ≡ 0 → owed_to e ≡ nothing
absent_owes r absent like light = refl
absent_owes r (present q) like light = absurd (omega (arith, like.weighs like.free))

level_numbers : (A W w p D : ℕ) → W ≡ w → A ≡ w * p → w * A * D + 0 * D ≡ 0 * D + w * (W * p) * D
level_numbers A W w p D e f = rw (e, f) (omega arith)

module _ (t : Table) (a : Account) (tied : Tied t a) where
  no_one_owed : t.head.total ≡ 0 → (i : ℕ) → owed_to (get_or a.entries i absent) ≡ nothing
  no_one_owed no_one i = absent_owes (row t i) _ (tied.matched.alike i) (no_weight t tied.matched.sums no_one i)

  no_lag : t.head.total ≡ 0 → (i : ℕ) → Is (lag_of t.head (row t i)) 0 0
  no_lag no_one i =
      record { same = omega (arith, rw (no_weight t tied.matched.sums no_one i) at (lag_is t (row t i)).same) }

  -- the lag that the table has is the account
  pub lag_account : (i : ℕ) → lag_in t i ~ owed_to (entry a i)
  unfolding lag_in lag_unit entry
  lag_account i = ⊎_elim beside alone (le_or_lt 1 t.head.total)
    where
      beside : 1 ≤ t.head.total → lag_of t.head (row t i) ÷ (t.head.total * unit) ~ owed_to (get_or a.entries i absent)
      beside h = same_value (value_over (t.head.total * unit) (mul-pos h (omega arith)) (lag_is t (row t i))) ((tied.live h).held i).lags

      alone : t.head.total < 1 → lag_of t.head (row t i) ÷ (t.head.total * unit) ~ owed_to (get_or a.entries i absent)
      alone h =
          let no_one : t.head.total ≡ 0 = omega arith in
          rw (no_one_owed no_one i) (same_value (value_any_over (t.head.total * unit) (no_lag no_one i)) (value_nothing 0 _ (over_above (t.head.total * unit))))

  -- the lags of the table's rows add up to nothing
  weights_times : (k : ℕ) (rs : List Row) → sum_of (λ r. weight_of_row r * k) rs ≡ sum_of weight_of_row rs * k
  weights_times k [] = omega arith
  weights_times k (r ∷ rs) = omega (arith, weights_times k rs)

  moments_times : (k : ℕ) (rs : List Row) → sum_of (λ r. weight_of_row r * (k * r.position)) rs ≡ sum_of moment_of_row rs * k
  moments_times k [] = omega arith
  moments_times k (r ∷ rs) = omega (arith, moments_times k rs, ap (λ (x : ℕ). x * k) (moment_is r))

  all_owed : sum_of (λ r. weight_of_row r * t.head.sum) t.rows ≡ t.head.total * t.head.sum
  unfolding true_total
  all_owed = weights_times t.head.sum t.rows ∙ ap (λ (x : ℕ). x * t.head.sum) (sym tied.matched.sums.total_true)

  all_had : sum_of (λ r. weight_of_row r * (t.head.total * r.position)) t.rows ≡ t.head.sum * t.head.total
  unfolding true_sum
  all_had = moments_times t.head.total t.rows ∙ ap (λ (x : ℕ). x * t.head.total) (sym tied.matched.sums.sum_true)

  pub lags_level : summed (map (lag_of t.head) t.rows) ≡ pos 0
  lags_level =
      equal_is _ (pos 0)
      (summed_is (lag_of t.head) (λ r. weight_of_row r * t.head.sum) (λ r. weight_of_row r * (t.head.total * r.position)) (lag_is t) t.rows) (itself (pos 0))
      (omega (arith, all_owed, all_had))

  -- and so do the accounts
  owed_at : (i : ℕ) → get_or (map owed_to a.entries) i nothing ≡ owed_to (get_or a.entries i absent)
  owed_at i = get_or-map owed_to a.entries i absent

  as_many : length (map owed_to a.entries) ≡ length t.rows
  as_many = length-map a.entries owed_to ∙ tied.matched.entries_each ∙ sym tied.matched.rows_each

  pub accounts_level : total (map owed_to a.entries) ~ nothing
  unfolding row
  accounts_level = ⊎_elim beside alone (le_or_lt 1 t.head.total)
    where
      beside : 1 ≤ t.head.total → total (map owed_to a.entries) ~ nothing
      beside h =
          let some : 0 < t.head.total * unit = mul-pos h (omega arith) in
          let worth =
          total_value (λ r. weight_of_row r * t.head.sum) (λ r. weight_of_row r * (t.head.total * r.position)) blank (t.head.total * unit) some
          (map owed_to a.entries) t.rows as_many (λ i. rw (owed_at i) ((tied.live h).held i).lags) in
          same_value (value_change some (rw (all_owed, all_had) (omega arith)) worth) (value_nothing 0 (t.head.total * unit) some)

      alone : t.head.total < 1 → total (map owed_to a.entries) ~ nothing
      alone h =
          let no_one : t.head.total ≡ 0 = omega arith in
          let some : 0 < 1 = omega arith in
          same_value
          (total_value (λ (r : Row). 0) (λ (r : Row). 0) blank 1 some (map owed_to a.entries) t.rows as_many
          (λ i. rw (owed_at i, no_one_owed no_one i) (value_nothing 0 1 some)))
          (value_nothing (sum_of (λ (r : Row). 0) t.rows) 1 some)

  -- no account is as low as minus the longest request
  pub account_above : (i : ℕ) (q : Queue) → entry a i ≡ present q → too_low q ≡ false
  unfolding entry too_low
  account_above i q e =
      let like : Alike (row t i) (present q) = subst (Alike (row t i)) e (tied.matched.alike i) in
      let held : Held t.head.sum t.head.total (row t i) (present q) =
      subst (Held t.head.sum t.head.total (row t i)) e ((live_at t a tied i like.free).held i) in
      value_above held.lags (value_minus (value_whole q.longest)) (omega (arith, held.bounded))

  -- the last one there has nothing to pass on: V is its position
  pub last_owes_nothing : (i : ℕ) (q : Queue) → entry a i ≡ present q → weight_left a i ≡ 0 → q.owed ~ nothing
  unfolding entry weight_left rest
  last_owes_nothing i q e no_one =
      let like : Alike (row t i) (present q) = subst (Alike (row t i)) e (tied.matched.alike i) in
      let held : Held t.head.sum t.head.total (row t i) (present q) =
      subst (Held t.head.sum t.head.total (row t i)) e ((live_at t a tied i like.free).held i) in
      let inside = present_inside t i like.free in
      let others = match_set t a.entries i blank absent (omega (arith, tied.matched.rows_each)) blank_alike tied.matched in
      let W : (placed t i blank).head.total ≡ 0 = sym (same_weight others) ∙ no_one in
      same_value
      (value_change held.lags.positive
      (level_numbers t.head.sum t.head.total (weight_of_row (row t i)) (row t i).position (t.head.total * unit)
      (omega (arith, placed_total t i blank tied.matched.sums inside, free_weighs_nothing blank refl))
      (alone_sum (placed_sum t i blank tied.matched.sums inside) (no_sum (placed t i blank) others.sums W)))
      held.lags)
      (value_nothing 0 (t.head.total * unit) held.lags.positive)
    where
      alone_sum : (placed t i blank).head.sum + weight_of_row (row t i) * (row t i).position ≡ t.head.sum + weight_of_row blank * 0 → (placed t i blank).head.sum ≡ 0 → t.head.sum ≡ weight_of_row (row t i) * (row t i).position
      alone_sum x y = omega (arith, rw (free_weighs_nothing blank refl) at x)

  -- V
  pub clock_is : a.virtual ~ virtual_time t
  unfolding virtual_time is_empty
  clock_is = ⊎_elim beside alone (le_or_lt 1 t.head.total)
    where
      beside : 1 ≤ t.head.total → a.virtual ~ cond (eqb t.head.total 0) (whole t.head.resting) (pos t.head.sum ÷ t.head.total)
      beside h =
          rw (ne_eqb t.head.total 0 (λ e. omega arith))
          (same_value (tied.live h).clock (value_over t.head.total h (itself (pos t.head.sum))))

      alone : t.head.total < 1 → a.virtual ~ cond (eqb t.head.total 0) (whole t.head.resting) (pos t.head.sum ÷ t.head.total)
      alone h =
          let no_one : t.head.total ≡ 0 = omega arith in
          rw (eq-eqb t.head.total 0 no_one) (same_value (tied.rests no_one) (value_whole t.head.resting))

-- the lag report of a sound table, on a list that is long enough
module _ (t : Table) (lent : List ℤ) (sound_table : Sound t) (rows_each : length t.rows ≡ queues) (long : queues ≤ length lent) where
  not_refused : first_refusal (lag_checks t lent) ≡ none
  unfolding lag_checks
  not_refused = rw (says_sound t sound_table, le-ltb (length lent) queues long) refl

  list_is : lag_list t lent ≡ map (lag_of t.head) t.rows ++ drop queues lent
  unfolding lag_list lags_into
  list_is = rw not_refused refl

  many : length (map (lag_of t.head) t.rows) ≡ queues
  many = length-map t.rows (lag_of t.head) ∙ rows_each

  numerator_is : (i : ℕ) → i < queues → get_or (lag_list t lent) i (pos 0) ≡ lag_of t.head (row t i)
  unfolding row lag_of
  numerator_is i h =
      ap (λ (l : List ℤ). get_or l i (pos 0)) list_is
      ∙ get_or-append (map (lag_of t.head) t.rows) (drop queues lent) (pos 0) i (omega (arith, many))
      ∙ get_or-map (lag_of t.head) t.rows i blank

  denominator_is : denominator_given (lag_reply t lent).answer ≡ lag_unit t.head
  unfolding lag_reply
  denominator_is = rw (call_accepted (lag_checks t lent) t (record { answer = Ok (Reported (lag_unit t.head)); table = t }) not_refused) refl

  pub reported_is : (i : ℕ) → i < queues → reported t lent i ≡ lag_in t i
  unfolding reported lag_in
  reported_is i h = rw (numerator_is i h, denominator_is) refl

  pub report_front : take queues (lag_list t lent) ≡ map (lag_of t.head) t.rows
  report_front = rw list_is (take_at (map (lag_of t.head) t.rows) (drop queues lent) queues many)
