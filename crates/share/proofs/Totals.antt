-- The sums of an orderly table are small: it weighs no more than 64 rows can, V is a mean of positions and so at most P, and one row's share for
-- another's fits.
use mathlib.Core.Bool.{cond}
use mathlib.Core.Logic.{⊎_elim}
use Prim.Native.Nat.{ℕ, ◌*◌, ◌≤◌, ◌<◌}
use native.Mathlib.Nat.{mul-le-mul_left}
use native.Mathlib.Omega.{arith}
use lib.ListN.{length, get_or}
use Rattle.laws.proofs.Sums.{sum_bound, sum_scaled}
use Rattle.laws.proofs.Tests.{le_or_lt}
use Rattle.rows.specs.declared.Row.{Row}
use Rattle.rows.specs.declared.State.{State}
use Rattle.rows.specs.declared.State.TheVariants.{Free, Going, Asking}
use Rattle.rows.specs.Numbers.{max_weight, max_total, ceiling}
use Rattle.rows.specs.Row.{blank, is_free, weight_in, moment_in}
use Rattle.rows.specs.Orderly.{OrderlyAs}
use Rattle.rows.specs.Fits.{Exchanging}
use Rattle.rows.proofs.Shares.{going_not_free, orderly_weighs, orderly_weight, orderly_moment, weight_small, moment_small}
use Rattle.head.specs.Head.{entry}
use Rattle.head.specs.Judged.{Small, Replacing}
use Rattle.head.proofs.Entry.{entry_empty_lem, entry_least}
use Rattle.share.specs.declared.Table.{Table}
use Rattle.share.specs.Asks.{Placing}
use Rattle.share.specs.Release.{Weighed}
use Rattle.share.specs.Sound.{Orderly}
use Rattle.share.specs.Table.{row, true_total, true_sum, TrueSums}
use Rattle.share.proofs.Placed.{weight_within, moment_within}

pub sums_true : {t : Table} → Orderly t → TrueSums t
sums_true h = record { total_true = h.total_true; sum_true = h.sum_true }

pub weighed : {t : Table} → Orderly t → Weighed t
weighed {t} h =
    record {
      sums = sums_true h;
      weighs = λ i goes. orderly_weighs (row t i).state (row t i).weight (row t i).position (h.each i) (going_not_free (row t i).state goes);
    }

weight_most : (s : State) (w p : ℕ) → OrderlyAs s w p → cond (is_free s) 0 w ≤ max_weight
weight_most Free w p h = omega arith
weight_most Going w p h = h.weight_high
weight_most (Asking q) w p h = h.0.weight_high

pub total_most : (t : Table) → Orderly t → t.head.total ≤ max_total
unfolding true_total row weight_in
total_most t o =
    omega (
      arith,
      o.total_true,
      o.one_each,
      sum_bound weight_in t.rows blank max_weight
          (λ i l. let r : Row = get_or t.rows i blank in weight_most r.state r.weight r.position (o.each i)),
    )

-- a row's share of A is at most its share of W, times P
share_high : (s : State) (w p : ℕ) → OrderlyAs s w p → cond (is_free s) 0 (w * p) * 1 ≤ cond (is_free s) 0 w * ceiling
share_high Free w p h = omega arith
share_high Going w p h = omega (arith, mul-le-mul_left w h.position_high)
share_high (Asking q) w p h = omega (arith, mul-le-mul_left w h.0.position_high)

-- V is at most P
pub mean_high : (t : Table) → Orderly t → t.head.sum ≤ ceiling * t.head.total
unfolding true_total true_sum row weight_in moment_in
mean_high t h =
    omega (
      arith,
      h.total_true,
      h.sum_true,
      sum_scaled moment_in weight_in 1 ceiling t.rows blank
          (λ i l. let r : Row = get_or t.rows i blank in share_high r.state r.weight r.position (h.each i)),
    )

pub entry_high : (t : Table) → Orderly t → entry t.head ≤ ceiling
entry_high t h =
    ⊎_elim (λ present. entry_least t.head present ceiling (mean_high t h)) (λ none. omega (arith, entry_empty_lem t.head (omega arith), h.rest.rest_high))
    (le_or_lt 1 t.head.total)

-- A is at most 2 to the 58th
pub sum_most : (t : Table) → Orderly t → t.head.sum ≤ ceiling * max_total
sum_most t o = omega (arith, mean_high t o, mul-le-mul_left ceiling (total_most t o))

pub head_small : (t : Table) → Orderly t → Small t.head
head_small t o = record { total_high = total_most t o; sum_high = sum_most t o }

module _ (t : Table) (queue : ℕ) (r : Row) (p : Placing t queue r) where
  inside_rows : queue < length t.rows
  inside_rows = omega (arith, p.inside, p.orderly.one_each)

  pub exchange_weights : Exchanging t.head.total (row t queue).weight r.weight
  exchange_weights =
      record {
        has_it = omega (arith, weight_within t queue (sums_true p.orderly) inside_rows, orderly_weight (row t queue) (p.orderly.each queue));
        fits = omega (arith, total_most t p.orderly, weight_small r p.new);
      }

  pub exchange_moments : Exchanging t.head.sum (moment_in (row t queue)) (moment_in r)
  exchange_moments =
      record {
        has_it = moment_within t queue (sums_true p.orderly) inside_rows;
        fits = omega (arith, sum_most t p.orderly, moment_small r p.new, orderly_moment r p.new);
      }

  pub may_replace : Replacing t.head (row t queue) r
  may_replace = record { old_orderly = p.orderly.each queue; new_orderly = p.new; weights = exchange_weights; moments = exchange_moments }
