-- Where a table comes to rest. A row whose departure leaves the table empty has it to itself, so V is its position; and when a release frees all that are
-- left, each was at most V when it went, and V only rose: the last one freed is the furthest of all.
use mathlib.Core.Bool.{true, false}
use mathlib.Core.Logic.{⊎_elim}
use mathlib.Core.Path.{◌≡◌, refl, ap, sym, subst⁻¹, ◌∙◌}
use Prim.Native.Nat.{ℕ, ◌+◌, ◌*◌, ◌≤◌, ◌<◌}
use native.Mathlib.Decide.{ℕ_discrete}
use native.Mathlib.Nat.{mul_comm, mul-le-mul_left, le_of_mul-le-mul_right}
use native.Mathlib.Omega.{arith}
use lib.IntN.{pos}
use lib.ListN.{length, get_or}
use Rattle.laws.specs.Difference.{◌⊖◌}
use Rattle.laws.specs.Lists.{sum_of}
use Rattle.laws.proofs.Difference.{same_none}
use Rattle.laws.proofs.Sums.{sum_scaled}
use Rattle.laws.proofs.Tests.{clash, le_or_lt, either}
use Rattle.rows.specs.declared.Row.{Row}
use Rattle.rows.specs.Row.{blank, is_free, weight_in, moment_in}
use Rattle.rows.proofs.Shares.{moment_is, free_weighs_nothing, going_not_free, orderly_weighs}
use Rattle.head.specs.Lag.{lag_of}
use Rattle.share.specs.declared.Table.{Table}
use Rattle.share.specs.Release.{freed, Frees, done, one}
use Rattle.share.specs.Sound.{Orderly}
use Rattle.share.specs.Table.{row, true_total, true_sum, AtMostV, TrueSums}
use Rattle.share.proofs.Placed.{placed_true, weight_within, moment_within, no_weight, no_sum}
use Rattle.share.proofs.Release.{freed_total, freed_sum, freed_other, freed_same, freed_rests}
use Rattle.share.proofs.Sound.{row_past}
use Rattle.share.proofs.Totals.{sums_true}
use Rattle.calls.specs.Meaning.{ComesToRest, LastFreed}
use Rattle.calls.proofs.OneDeparture.{weight_here}

-- a row that is not free is one of the table's
there : (t : Table) (i : ℕ) → is_free (row t i).state ≡ false → i < length t.rows
there t i here =
    ⊎_elim (λ past. absurd (clash (ap (λ (r : Row). is_free r.state) (row_past t i past)) here)) (λ l. l) (le_or_lt (length t.rows) i)

-- numbers alone: w at p is all that there is of W and A, and what stands at V has no lag
at_V : (W A w p : ℕ) → W ≡ w → A ≡ w * p → p * W ≡ A
at_V W A w p e f = rw (e, f) (omega arith)

no_lag : (w W A p : ℕ) → p * W ≡ A → w * A ⊖ w * (W * p) ≡ pos 0
no_lag w W A p e = rw (← e, mul_comm p W) (same_none (w * (W * p)))

-- what freeing a row leaves of W and A
module _ (t : Table) (i : ℕ) (sums : TrueSums t) (here : is_free (row t i).state ≡ false) where
  W_left : (freed t i).head.total + weight_in (row t i) ≡ t.head.total
  W_left = omega (arith, freed_total t i, weight_within t i sums (there t i here))

  A_left : (freed t i).head.sum + weight_in (row t i) * (row t i).position ≡ t.head.sum
  A_left = omega (arith, freed_sum t i, moment_within t i sums (there t i here), moment_is (row t i))

  left_true : TrueSums (freed t i)
  unfolding freed
  left_true = placed_true t i blank (there t i here) sums

  pub last_freed : (freed t i).head.total ≡ 0 → LastFreed t i
  unfolding lag_of
  last_freed none =
      let at : (row t i).position * t.head.total ≡ t.head.sum =
      at_V t.head.total t.head.sum (weight_in (row t i)) (row t i).position (omega (arith, W_left))
      (omega (arith, A_left, no_sum (freed t i) left_true none)) in
      record {
        lag_none = rw here (no_lag (row t i).weight t.head.total t.head.sum (row t i).position at);
        stands_at_V = at;
        rests_there = freed_rests t i none;
      }

-- true sums, and every row that is there weighs something
pub record Heavy (t : Table) : Type 0 where
  pub sums : TrueSums t
  pub weighs : (i : ℕ) → is_free (row t i).state ≡ false → 1 ≤ weight_in (row t i)

pub freed_heavy : (t : Table) (i : ℕ) → is_free (row t i).state ≡ false → Heavy t → Heavy (freed t i)
freed_heavy t i here h = record { sums = left_true t i h.sums here; weighs = λ j. by j (ℕ_discrete j i) }
  where
    by : (j : ℕ) → Dec (j ≡ i) → is_free (row (freed t i) j).state ≡ false → 1 ≤ weight_in (row (freed t i) j)
    by j (yes e) =
        subst⁻¹ (λ (k : ℕ). is_free (row (freed t i) k).state ≡ false → 1 ≤ weight_in (row (freed t i) k)) e
        (subst⁻¹ (λ (r : Row). is_free r.state ≡ false → 1 ≤ weight_in r) (freed_same t i) (λ k. absurd (clash refl k)))
    by j (no apart) = subst⁻¹ (λ (r : Row). is_free r.state ≡ false → 1 ≤ weight_in r) (freed_other t i j apart) (h.weighs j)

-- V is at most a position that no row stands beyond
mean_within : (t : Table) (most : ℕ) → TrueSums t → ((i : ℕ) → is_free (row t i).state ≡ false → (row t i).position ≤ most) → t.head.sum ≤ most * t.head.total
unfolding true_total true_sum row
mean_within t most sums within =
    let W : t.head.total * most ≡ sum_of weight_in t.rows * most = ap (λ (x : ℕ). x * most) sums.total_true in
    let A : t.head.sum ≡ sum_of moment_in t.rows = sums.sum_true in
    omega (arith, W, A, sum_scaled moment_in weight_in 1 most t.rows blank (λ i l. share i))
  where
    share : (i : ℕ) → moment_in (get_or t.rows i blank) * 1 ≤ weight_in (get_or t.rows i blank) * most
    share i = ⊎_elim free present (either (is_free (get_or t.rows i blank).state))
      where
        r : Row
        r = get_or t.rows i blank

        free : is_free r.state ≡ true → moment_in r * 1 ≤ weight_in r * most
        free e = rw (moment_is r, free_weighs_nothing r e) (omega arith)

        present : is_free r.state ≡ false → moment_in r * 1 ≤ weight_in r * most
        present e = rw (moment_is r) (omega (arith, mul-le-mul_left (weight_in r) (within i e)))

-- what is known of the end of a way, from a table on it: where that is, if a row was there still, and else where that rested
pub record Ends (t u : Table) : Type 0 where
  pub rests : 0 < t.head.total → ComesToRest t u
  pub rested : t.head.total ≡ 0 → u.head.resting ≡ t.head.resting

reach_numbers : (W W' A A' w p most : ℕ) → W' + w ≡ W → A' + w * p ≡ A → p * W ≤ A → A' ≤ most * W' → 0 < W' → p ≤ most
reach_numbers W W' A A' w p most a b level within some =
    le_of_mul-le-mul_right {k = W'} (left (rw (← a, ← b) at level)) some
  where
    left : p * (W' + w) ≤ A' + w * p → p * W' ≤ most * W'
    left h = omega arith

-- one row freed before that
module _ {t u : Table} (i : ℕ) (heavy : Heavy t) (here : is_free (row t i).state ≡ false) (level : AtMostV t (row t i).position) (ends : Ends (freed t i) u) where
  rests_here : (freed t i).head.total ≡ 0 → ComesToRest t u
  rests_here empty = record { last = i; was_there = here; rests_there = at; furthest = λ j. by j (ℕ_discrete j i) }
    where
      at : u.head.resting ≡ (row t i).position
      at = ends.rested empty ∙ freed_rests t i empty

      by : (j : ℕ) → Dec (j ≡ i) → is_free (row t j).state ≡ false → (row t j).position ≤ u.head.resting
      by j (yes e) is = omega (arith, at, ap (λ (k : ℕ). (row t k).position) e)
      by j (no apart) is =
          let same = freed_other t i j apart in
          absurd (omega (arith, heavy.weighs j is, ap weight_in same, no_weight (freed t i) (left_true t i heavy.sums here) empty j))

  rests_beyond : 0 < (freed t i).head.total → ComesToRest t u
  rests_beyond some =
      record {
        last = later.last;
        was_there = ap (λ (r : Row). is_free r.state) (sym same) ∙ later.was_there;
        rests_there = later.rests_there ∙ ap (λ (r : Row). r.position) same;
        furthest = λ j. by j (ℕ_discrete j i);
      }
    where
      later : ComesToRest (freed t i) u
      later = ends.rests some

      other : Dec (later.last ≡ i) → row (freed t i) later.last ≡ row t later.last
      other (yes e) =
          absurd (clash (ap (λ (r : Row). is_free r.state) (ap (row (freed t i)) e ∙ freed_same t i)) later.was_there)
      other (no apart) = freed_other t i later.last apart

      same : row (freed t i) later.last ≡ row t later.last
      same = other (ℕ_discrete later.last i)

      by : (j : ℕ) → Dec (j ≡ i) → is_free (row t j).state ≡ false → (row t j).position ≤ u.head.resting
      by j (yes e) is =
          omega (
            arith,
            ap (λ (k : ℕ). (row t k).position) e,
            reach_numbers t.head.total (freed t i).head.total t.head.sum (freed t i).head.sum (weight_in (row t i)) (row t i).position
                u.head.resting (W_left t i heavy.sums here) (A_left t i heavy.sums here) level
                (mean_within (freed t i) u.head.resting (left_true t i heavy.sums here) later.furthest) some,
          )
      by j (no apart) is =
          let stays = freed_other t i j apart in
          omega (
            arith,
            ap (λ (r : Row). r.position) stays,
            later.furthest j (ap (λ (r : Row). is_free r.state) stays ∙ is),
          )

  pub comes_to_rest : ComesToRest t u
  comes_to_rest = ⊎_elim rests_beyond (λ none. rests_here (omega arith)) (le_or_lt 1 (freed t i).head.total)

-- a release that frees all that are left
pub release_ends : {t u : Table} → Frees t u → u.head.total ≡ 0 → Heavy t → Ends t u
release_ends (done calm) empty heavy = record { rests = λ some. absurd (omega arith); rested = λ same. refl }
release_ends {t} (one i r rest) empty heavy =
    let here = going_not_free (row t i).state r.going in
    record {
      rests = λ some. comes_to_rest i heavy here r.level (release_ends rest empty (freed_heavy t i here heavy));
      rested = λ none. absurd (omega (arith, heavy.weighs i here, no_weight t heavy.sums none i));
    }

-- every row of an orderly table that is there weighs something
pub orderly_heavy : {t : Table} → Orderly t → Heavy t
orderly_heavy {t} o =
    record {
      sums = sums_true o;
      weighs = λ i here. omega (arith, weight_here (row t i) here, orderly_weighs (row t i).state (row t i).weight (row t i).position (o.each i) here);
    }
