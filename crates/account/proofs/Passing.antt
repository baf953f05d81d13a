-- What the table reports for one who stays is what it reported before and its share of each departure, once: equation 15 in fractions, and then along a release.
use mathlib.Core.Bool.{true, false}
use mathlib.Core.Logic.{◌≢◌, ⊎_elim}
use mathlib.Core.Path.{◌≡◌, refl, sym, ap, subst, ◌∙◌, subst⁻¹}
use Prim.Native.Nat.{ℕ, ◌+◌, ◌*◌, ◌≤◌, ◌<◌}
use native.Mathlib.Nat.{mul-pos}
use native.Mathlib.Omega.{arith}
use lib.ListN.{length}
use Rattle.laws.proofs.Tests.{clash}
use Rattle.rows.specs.declared.Row.{Row}
use Rattle.rows.specs.Numbers.{unit}
use Rattle.rows.specs.Row.{blank, is_free, weight_in}
use Rattle.rows.proofs.Virtual.{yes_reached}
use Rattle.rows.proofs.Shares.{asking_not_free, going_not_free}
use Rattle.head.specs.declared.Event.TheVariants.{Leave}
use Rattle.head.specs.Answers.{number}
use Rattle.head.specs.Lag.{lag_unit}
use Rattle.share.specs.declared.Reply.{Reply}
use Rattle.share.specs.declared.Table.{Table}
use Rattle.share.specs.Asks.{Leaves}
use Rattle.share.specs.Calls.{step}
use Rattle.share.specs.Events.{leaving, left}
use Rattle.share.specs.Release.{freed, Frees, done, one, released}
use Rattle.share.specs.Table.{reached, AtMostV, row, TrueSums}
use Rattle.share.proofs.Accepted.{leave_accepted}
use Rattle.share.proofs.Placed.{weight_within, moment_within, placed_true}
use Rattle.share.proofs.Release.{freed_total, freed_sum, freed_other, freed_same, freed_true, ready_inside, released_frees}
use Rattle.share.proofs.Totals.{sums_true}
use Rattle.calls.proofs.Answering.{step_done}
use Rattle.calls.proofs.Exactly.{becomes}
use Rattle.calls.proofs.Meaning.{accepted_none}
use Rattle.calls.proofs.OneDeparture.{weight_here, moment_here}
use Rattle.fractions.specs.Fraction.{◌⊕◌, ◌~◌}
use Rattle.fractions.proofs.Laws.{through, turned, sum_same, sum_nothing, sum_grouped}
use Rattle.fractions.proofs.Values.{Value, value_over, value_portion, value_sum, value_change, same_value}
use Rattle.account.specs.Passing.{given, given_by}
use Rattle.account.specs.Report.{lag_in}
use Rattle.account.proofs.Reports.{lag_is}
use Rattle.fractions.proofs.Laws as Laws

-- the lag of a row as numbers, over W x 720,720
lag_value : (t : Table) (j : ℕ) → 0 < t.head.total → Value (lag_in t j) (weight_in (row t j) * t.head.sum) (weight_in (row t j) * (t.head.total * (row t j).position)) (t.head.total * unit)
unfolding lag_in lag_unit
lag_value t j present = value_over (t.head.total * unit) (mul-pos present (omega arith)) (lag_is t (row t j))

-- A' and W' are what is left of A and W without v at s; w at p stays. What both sides have in common is w x W x U x W' x U.
core : (A W A' W' v s p : ℕ) → A' + v * s ≡ A → W' + v ≡ W → A * W' + v * A + W' * p * W ≡ A' * W + (W * p * W' + v * (W * s))
core A W A' W' v s p a b = rw (← a, ← b) (omega arith)

factored : (A W W' v w p U : ℕ) → (w * A * (W * U * W') + v * A * w * (W * U)) * (W' * U) + w * (W' * p) * (W * U * (W * U * W')) ≡ w * (W * U) * (W' * U) * (A * W' + v * A + W' * p * W)
factored A W W' v w p U = omega arith

refactored : (A' W W' v s w p U : ℕ) → w * A' * (W * U * (W * U * W')) + (w * (W * p) * (W * U * W') + v * (W * s) * w * (W * U)) * (W' * U) ≡ w * (W * U) * (W' * U) * (A' * W + (W * p * W' + v * (W * s)))
refactored A' W W' v s w p U = omega arith

shared : (A W A' W' v s w p U : ℕ) → A' + v * s ≡ A → W' + v ≡ W → (w * A * (W * U * W') + v * A * w * (W * U)) * (W' * U) + w * (W' * p) * (W * U * (W * U * W')) ≡ w * A' * (W * U * (W * U * W')) + (w * (W * p) * (W * U * W') + v * (W * s) * w * (W * U)) * (W' * U)
shared A W A' W' v s w p U a b =
    factored A W W' v w p U ∙ ap (λ (x : ℕ). w * (W * U) * (W' * U) * x) (core A W A' W' v s p a b) ∙ sym (refactored A' W W' v s w p U)

module _ (t : Table) (i j : ℕ) (sums : TrueSums t) (inside : i < length t.rows) (here : is_free (row t i).state ≡ false) (apart : j ≢ i) (left : 0 < (freed t i).head.total) where
  W_left : (freed t i).head.total + weight_in (row t i) ≡ t.head.total
  W_left = omega (arith, freed_total t i, weight_within t i sums inside)

  A_left : (freed t i).head.sum + weight_in (row t i) * (row t i).position ≡ t.head.sum
  A_left = omega (arith, freed_sum t i, moment_within t i sums inside, ap (λ (n : ℕ). n * (row t i).position) (weight_here (row t i) here), moment_here (row t i) here)

  pub passes_once : lag_in (freed t i) j ~ lag_in t j ⊕ given t i j
  unfolding given
  passes_once =
      let present : 0 < t.head.total = omega (arith, W_left) in
      let w : ℕ = weight_in (row t j) in
      let p : ℕ = (row t j).position in
      let before = lag_value t j present in
      let share = value_portion w (freed t i).head.total left (lag_value t i present) in
      let after = lag_value (freed t i) j left in
      same_value (rw (freed_other t i j apart) at after)
      (value_change (mul-pos left (omega arith))
      (shared t.head.sum t.head.total (freed t i).head.sum (freed t i).head.total (weight_in (row t i)) (row t i).position w p unit A_left W_left)
      (value_sum before share))

-- one who is not free at the end stood there all along
still_there : {t u : Table} (j : ℕ) → Frees t u → is_free (row u j).state ≡ false → is_free (row t j).state ≡ false
still_there j way at_end =
    ⊎_elim (λ same. ap (λ (x : Row). is_free x.state) (sym same) ∙ at_end)
    (λ gone. absurd (clash (ap (λ (x : Row). is_free x.state) gone.0) at_end))
    (becomes j way)

freed_sums : (t : Table) (i : ℕ) → i < length t.rows → TrueSums t → TrueSums (freed t i)
unfolding freed
freed_sums t i inside sums = placed_true t i blank inside sums

apart_from : (t : Table) (i j : ℕ) → is_free (row (freed t i) j).state ≡ false → j ≢ i
apart_from t i j e same =
    clash (ap (λ (x : Row). is_free x.state) (freed_same t i)) (subst (λ (k : ℕ). is_free (row (freed t i) k).state ≡ false) same e)

W_falls : {t u : Table} → TrueSums t → Frees t u → u.head.total ≤ t.head.total
W_falls sums (done calm) = omega arith
W_falls {t} sums (one i r rest) = omega (arith, W_falls (freed_true t i r sums) rest, freed_total t i)

-- along a whole release, in whatever order
pub passes_all_once : {t u : Table} (way : Frees t u) (j : ℕ) → TrueSums t → is_free (row u j).state ≡ false → 0 < u.head.total → lag_in u j ~ lag_in t j ⊕ given_by way j
passes_all_once {t} (done calm) j sums at_end some = turned (sum_nothing (lag_in t j))
passes_all_once {t} (one i r rest) j sums at_end some =
    let true_sums = freed_true t i r sums in
    let left : 0 < (freed t i).head.total = omega (arith, W_falls true_sums rest) in
    let apart = apart_from t i j (still_there j rest at_end) in
    through (passes_all_once rest j true_sums at_end some)
    (through (sum_same (passes_once t i j sums (ready_inside t i r) (going_not_free (row t i).state r.going) apart left) (Laws.same (given_by rest j)))
    (sum_grouped (lag_in t j) (given t i j) (given_by rest j)))

-- a leave that frees: the leaver's share first, then those of the rows that it lets go
freed_first : (t : Table) (queue : ℕ) → reached t (row t queue).position ≡ true → left t queue ≡ released (freed t queue)
unfolding left leaving freed
freed_first t queue owed = rw owed refl

pub leave_passes : (t : Table) (queue j : ℕ) → Leaves t queue → AtMostV t (row t queue).position → is_free (row (left t queue) j).state ≡ false → 0 < (left t queue).head.total → lag_in (left t queue) j ~ lag_in t j ⊕ (given t queue j ⊕ given_by (released_frees (freed t queue)) j)
leave_passes t queue j l owed at_end some =
    let is = freed_first t queue (yes_reached _ _ _ owed) in
    let here = asking_not_free (row t queue).state l.asks in
    let o = l.was_sound.orderly_table in
    let inside : queue < length t.rows = omega (arith, l.inside, o.one_each) in
    let sums = sums_true o in
    let way = released_frees (freed t queue) in
    let ended : is_free (row (released (freed t queue)) j).state ≡ false = subst (λ (u : Table). is_free (row u j).state ≡ false) is at_end in
    let left_over : 0 < (released (freed t queue)).head.total = subst (λ (u : Table). 0 < u.head.total) is some in
    let first : 0 < (freed t queue).head.total = omega (arith, W_falls (freed_sums t queue inside sums) way) in
    let apart = apart_from t queue j (still_there j way ended) in
    subst⁻¹ (λ (u : Table). lag_in u j ~ lag_in t j ⊕ (given t queue j ⊕ given_by way j)) is
    (through (passes_all_once way j (freed_sums t queue inside sums) ended left_over)
    (through (sum_same (passes_once t queue j sums inside here apart first) (Laws.same (given_by way j)))
    (sum_grouped (lag_in t j) (given t queue j) (given_by way j))))

pub leave_shares : (t : Table) (queue j : ℕ) → number (step t (Leave queue)).answer ≡ 0 → AtMostV t (row t queue).position → let u : Table = (step t (Leave queue)).table in is_free (row u j).state ≡ false → 0 < u.head.total → lag_in u j ~ lag_in t j ⊕ (given t queue j ⊕ given_by (released_frees (freed t queue)) j)
leave_shares t queue j e owed at_end some =
    let fine = accepted_none t (Leave queue) e in
    let is : (step t (Leave queue)).table ≡ left t queue = ap (λ (r : Reply). r.table) (step_done t (Leave queue) fine) in
    subst⁻¹ (λ (u : Table). lag_in u j ~ lag_in t j ⊕ (given t queue j ⊕ given_by (released_frees (freed t queue)) j)) is
    (leave_passes t queue j (leave_accepted t queue fine) owed (subst (λ (u : Table). is_free (row u j).state ≡ false) is at_end)
    (subst (λ (u : Table). 0 < u.head.total) is some))
