-- Some queue can always be served. V is a mean of the positions, so not every present row stands above it; going rows all do; so an asking row does
-- not, and its request opened no later than it stands.
use mathlib.Core.Path.{◌≡◌, refl, ap, sym, ◌∙◌}
use mathlib.Core.Bool.{true, false, cond}
use mathlib.Core.Logic.{⊎_elim}
use mathlib.Core.Option.{Option, none, some}
use Prim.Native.Nat.{ℕ, suc, ◌*◌, ◌≤◌, ◌<◌}
use native.Mathlib.Nat.{mul-le-mul_left, mul-le-mul_right}
use native.Mathlib.Omega.{arith}
use lib.ListN.{get_or}
use Rattle.laws.proofs.Sums.{sum_scaled}
use Rattle.laws.proofs.Tests.{refuted, le_or_lt}
use Rattle.rows.specs.declared.Row.{Row}
use Rattle.rows.specs.declared.State.{State}
use Rattle.rows.specs.declared.State.TheVariants.{Free, Going, Asking}
use Rattle.rows.specs.Numbers.{queues}
use Rattle.rows.specs.Row.{blank, is_free, is_going, weight_in, moment_in, position_of}
use Rattle.rows.specs.Virtual.{eligible_as, eligible_at}
use Rattle.rows.specs.Orderly.{OrderlyAs}
use Rattle.rows.proofs.Virtual.{reached_no}
use Rattle.share.specs.declared.Table.{Table}
use Rattle.share.specs.Table.{row, true_total, true_sum}
use Rattle.share.specs.Sound.{Sound}
use Rattle.share.specs.Choice.{eligible, Chosen, choice}
use Rattle.share.specs.Events.{chosen_or0, chosen}
use Rattle.share.proofs.Choice.{choice_none, choice_chosen, eligible_inside}

-- a row that V has not reached: its weight, a unit of A more than V gives it, and the moment that it has
above : (w p W A : ℕ) → A < p * W → w * suc A ≤ w * p * W
above w p W A h = omega (arith, mul-le-mul_left w h)

-- no row is eligible and none is ready: each present row stands above V
row_above : (total sum : ℕ) (s : State) (w p : ℕ) → OrderlyAs s w p → eligible_as total sum s ≡ false → (is_going s ≡ true → sum < p * total) → cond (is_free s) 0 w * suc sum ≤ cond (is_free s) 0 (w * p) * total
unfolding position_of
row_above total sum Free w p h waits calm = omega arith
row_above total sum Going w p h waits calm = above w p total sum (calm refl)
row_above total sum (Asking q) w p h waits calm =
    let opens_first : q.opening ≤ p = omega (arith, h.1.stands) in
    above w p total sum (omega (arith, reached_no q.opening total sum waits, mul-le-mul_right total opens_first))

-- with no row eligible, A x W would be more than itself
pub some_eligible : (t : Table) → Sound t → 0 < t.head.total → choice t ≡ none → ⊥
unfolding true_total true_sum row weight_in moment_in eligible eligible_at
some_eligible t h present missing =
    let o = h.orderly_table in
    omega (
      arith,
      present,
      o.total_true,
      o.sum_true,
      ap {B = ℕ} (λ (x : ℕ). x * suc t.head.sum) o.total_true,
      ap {B = ℕ} (λ (x : ℕ). x * t.head.total) o.sum_true,
      sum_scaled weight_in moment_in (suc t.head.sum) t.head.total t.rows blank
          (λ i l. let r : Row = get_or t.rows i blank in
          row_above t.head.total t.head.sum r.state r.weight r.position (o.each i)
          (refuted _ (choice_none t missing i))
          (λ going. ⊎_elim (λ level. absurd (h.no_one_ready i (record { going = going; level = level }))) (λ l. l) (le_or_lt (r.position * t.head.total) t.head.sum))),
    )

-- so a sound table that is not empty has a chosen queue
module _ (t : Table) (h : Sound t) (present : 0 < t.head.total) where
  pub chosen_found : choice t ≡ some (chosen t)
  unfolding chosen
  chosen_found = by (choice t) refl
    where
      by : (o : Option ℕ) → choice t ≡ o → choice t ≡ some (chosen_or0 (choice t))
      by none e = absurd (some_eligible t h present e)
      by (some i) e = e ∙ ap some (sym (ap chosen_or0 e))

  pub chosen_rightly : Chosen t (chosen t)
  chosen_rightly = choice_chosen t (chosen t) chosen_found

  pub chosen_inside : chosen t < queues
  chosen_inside = omega (arith, eligible_inside t (chosen t) chosen_rightly.asks, h.orderly_table.one_each)
