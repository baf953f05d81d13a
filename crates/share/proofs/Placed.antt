-- Putting one row in another's place: the other rows stay, W and A stay true sums, and where no row is left the table rests.
use mathlib.Core.Path.{◌≡◌, ap}
use mathlib.Core.Logic.{◌≢◌, ⊎_elim}
use Prim.Native.Nat.{ℕ, ◌≤◌, ◌<◌}
use native.Mathlib.Omega.{arith}
use lib.ListN.{length, length-set}
use lib.Seq.{get_or-set_same, get_or-set_other}
use Rattle.laws.proofs.Sums.{sum_set, sum_at, sum_bound}
use Rattle.laws.proofs.Tests.{le_or_lt}
use Rattle.rows.specs.declared.Row.{Row}
use Rattle.rows.specs.Row.{blank, weight_in, moment_in}
use Rattle.rows.proofs.Shares.{moment_is}
use Rattle.head.specs.Head.{summed}
use Rattle.head.proofs.Rest.{rest_last, rest_others}
use Rattle.share.specs.declared.Table.{Table}
use Rattle.share.specs.Table.{row, true_total, true_sum, placed, TrueSums}
use Rattle.share.proofs.Sound.{row_past}

module _ (t : Table) (i : ℕ) (r : Row) where
  pub placed_length : length (placed t i r).rows ≡ length t.rows
  unfolding placed
  placed_length = length-set t.rows i r

  pub placed_same : i < length t.rows → row (placed t i r) i ≡ r
  unfolding placed row
  placed_same h = get_or-set_same t.rows i r blank h

  pub placed_other : (j : ℕ) → j ≢ i → row (placed t i r) j ≡ row t j
  unfolding placed row
  placed_other j h = get_or-set_other t.rows i j r blank h

  pub placed_true : i < length t.rows → TrueSums t → TrueSums (placed t i r)
  unfolding placed summed row true_total true_sum
  placed_true h s =
      record {
        total_true = omega (arith, s.total_true, sum_set weight_in t.rows i r blank h);
        sum_true = omega (arith, s.sum_true, sum_set moment_in t.rows i r blank h);
      }

  -- where no row is left the table rests where the old one stood, and else nowhere
  pub placed_rests : (placed t i r).head.total ≡ 0 → (placed t i r).head.resting ≡ (row t i).position
  unfolding placed summed
  placed_rests none = rest_last (placed t i r).head.total (row t i).position none

  pub placed_goes_on : 0 < (placed t i r).head.total → (placed t i r).head.resting ≡ 0
  unfolding placed summed
  placed_goes_on some = rest_others (placed t i r).head.total (row t i).position some

-- a row's part in W and in A is at most the whole, so that a departure can take it out
module _ (t : Table) (i : ℕ) (sums : TrueSums t) (inside : i < length t.rows) where
  pub weight_within : weight_in (row t i) ≤ t.head.total
  unfolding row true_total
  weight_within = omega (arith, sums.total_true, sum_at weight_in t.rows i blank inside)

  pub moment_within : moment_in (row t i) ≤ t.head.sum
  unfolding row true_sum
  moment_within = omega (arith, sums.sum_true, sum_at moment_in t.rows i blank inside)

-- where W is 0 no row has a part in it, and A is 0 too
module _ (t : Table) (sums : TrueSums t) (none : t.head.total ≡ 0) where
  pub no_weight : (i : ℕ) → weight_in (row t i) ≡ 0
  unfolding weight_in
  no_weight i = ⊎_elim past (λ l. omega (arith, weight_within t i sums l)) (le_or_lt (length t.rows) i)
    where
      past : length t.rows ≤ i → weight_in (row t i) ≡ 0
      past l = ap weight_in (row_past t i l)

  pub no_sum : t.head.sum ≡ 0
  unfolding true_sum row
  no_sum = omega (arith, sums.sum_true, sum_bound moment_in t.rows blank 0 (λ i l. at i))
    where
      at : (i : ℕ) → moment_in (row t i) ≤ 0
      at i = rw (moment_is (row t i), no_weight i) (omega arith)
