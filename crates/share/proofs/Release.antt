-- Release has no order. A ready row stays ready when another ready row is freed, since V only rises, and freeing two rows commutes; so any
-- ready row may be the first, and every way of freeing ends in the same table. For the resting position this needs true sums and weights above 0 (T-02): two
-- ready rows that have the table to themselves both stand at V, so the last one freed stands there whichever it is. `released` is such a way: each turn takes
-- one going row away.
use mathlib.Core.Path.{◌≡◌, refl, ap, sym, subst, subst⁻¹, ◌∙◌}
use mathlib.Core.Bool.{Bool, true, false, cond}
use mathlib.Core.Logic.{◌≢◌, ⊎_elim}
use mathlib.Core.Option.{Option, none, some}
use Prim.Native.Nat.{ℕ, zero, suc, ◌+◌, ◌-◌, ◌*◌, ◌≤◌, ◌<◌}
use native.Mathlib.Decide.{ℕ_discrete}
use native.Mathlib.Nat.{zero-add, le_antisymm, le_of_mul-le-mul_left}
use native.Mathlib.Omega.{arith}
use lib.ListN.{length, get_or}
use lib.Seq.{set_comm}
use Rattle.laws.specs.Lists.{sum_of, first_from}
use Rattle.laws.proofs.First.{first_none, first_some}
use Rattle.laws.proofs.Means.{still_reached}
use Rattle.laws.proofs.Sums.{sum_set, sum_bound}
use Rattle.laws.proofs.Tests.{clash, le_or_lt}
use Rattle.rows.specs.declared.Row.{Row}
use Rattle.rows.specs.declared.State.{State}
use Rattle.rows.specs.declared.State.TheVariants.{Free, Going, Asking}
use Rattle.rows.specs.Row.{blank, is_free, is_going, weight_in, moment_in}
use Rattle.head.specs.Head.{summed}
use Rattle.share.specs.declared.Table.{Table}
use Rattle.share.specs.Table.{row, placed, TrueSums}
use Rattle.share.specs.Sound.{Ready, ready, Calm}
use Rattle.share.specs.Release.{freed, Frees, done, one, Weighed, freeing, released}
use Rattle.share.proofs.Placed.{placed_other, placed_length, placed_same, placed_true, placed_rests, placed_goes_on, weight_within, moment_within, no_sum}
use Rattle.share.proofs.Sound.{ready_says, says_ready, row_past}

counted_in : (s : State) (n : ℕ) → is_going s ≡ true → cond (is_free s) 0 n ≡ n
counted_in Free n e = absurd (clash e refl)
counted_in Going n e = refl
counted_in (Asking q) n e = refl

module _ (t : Table) (i : ℕ) where
  pub freed_total : (freed t i).head.total ≡ t.head.total - weight_in (row t i)
  unfolding freed placed summed weight_in
  freed_total = omega arith

  pub freed_sum : (freed t i).head.sum ≡ t.head.sum - moment_in (row t i)
  unfolding freed placed summed moment_in
  freed_sum = omega arith

  pub freed_other : (j : ℕ) → j ≢ i → row (freed t i) j ≡ row t j
  unfolding freed
  freed_other j h = placed_other t i blank j h

  pub freed_same : row (freed t i) i ≡ blank
  unfolding freed
  freed_same =
      ⊎_elim (λ past. row_past (placed t i blank) i (omega (arith, placed_length t i blank))) (λ l. placed_same t i blank l)
      (le_or_lt (length t.rows) i)

  -- the last one freed leaves its position behind
  pub freed_rests : (freed t i).head.total ≡ 0 → (freed t i).head.resting ≡ (row t i).position
  unfolding freed
  freed_rests = placed_rests t i blank

  pub freed_goes_on : 0 < (freed t i).head.total → (freed t i).head.resting ≡ 0
  unfolding freed
  freed_goes_on = placed_goes_on t i blank

  -- what a ready row takes with it
  pub ready_weight : Ready t i → weight_in (row t i) ≡ (row t i).weight
  unfolding weight_in
  ready_weight r = counted_in (row t i).state _ r.going

  pub ready_moment : Ready t i → moment_in (row t i) ≡ (row t i).weight * (row t i).position
  unfolding moment_in
  ready_moment r = counted_in (row t i).state _ r.going

stays_ready : (t : Table) (i j : ℕ) → Ready t i → Ready t j → j ≢ i → Ready (freed t i) j
stays_ready t i j ri rj ne =
    let same = freed_other t i j ne in
    record {
      going = rw same rj.going;
      level =
          rw (same, freed_total t i, freed_sum t i, ready_weight t i ri, ready_moment t i ri)
          (still_reached (row t j).position (row t i).position (row t i).weight t.head.total t.head.sum ri.level rj.level);
    }

pub ready_inside : (t : Table) (i : ℕ) → Ready t i → i < length t.rows
ready_inside t i r =
    ⊎_elim (λ past. absurd (clash r.going (ap (λ (x : Row). is_going x.state) (row_past t i past)))) (λ l. l) (le_or_lt (length t.rows) i)

-- a ready row that weighs something takes W down
pub freed_less : (t : Table) (i : ℕ) → Weighed t → Ready t i → (freed t i).head.total < t.head.total
freed_less t i weighed r =
    omega (arith, freed_total t i, ready_weight t i r, weighed.weighs i r.going, weight_within t i weighed.sums (ready_inside t i r))

-- freeing a ready row keeps W and A true sums
pub freed_true : (t : Table) (i : ℕ) → Ready t i → TrueSums t → TrueSums (freed t i)
unfolding freed
freed_true t i r sums = placed_true t i blank (ready_inside t i r) sums

-- two tables that agree in rows, sums and resting position, and in the rest by computation
same_table : {t u : Table} → t.rows ≡ u.rows → t.head.total ≡ u.head.total → t.head.sum ≡ u.head.sum → t.head.resting ≡ u.head.resting → t.head.terms ≡ u.head.terms → t.head.out ≡ u.head.out → t.head.holder ≡ u.head.holder → t.head.ticks ≡ u.head.ticks → t ≡ u
same_table a b c d e f g h =
    λ i. record { rows = a i; head = record { total = b i; sum = c i; resting = d i; terms = e i; out = f i; holder = g i; ticks = h i } }

-- two positions that the mean of them has reached are one
level_both : (w v p q W A : ℕ) → W ≡ w + v → A ≡ w * p + v * q → 1 ≤ w → 1 ≤ v → p * W ≤ A → q * W ≤ A → p ≡ q
level_both w v p q W A total sum light heavy first second =
    le_antisymm (le_of_mul-le-mul_left {k = v} (reaches first) heavy) (le_of_mul-le-mul_left {k = w} (reached second) light)
  where
    reaches : p * W ≤ A → v * p ≤ v * q
    reaches h = let k : p * (w + v) ≤ w * p + v * q = rw (total, sum) at h in omega arith

    reached : q * W ≤ A → w * q ≤ w * p
    reached h = let k : q * (w + v) ≤ w * p + v * q = rw (total, sum) at h in omega arith

module _ (t : Table) (i j : ℕ) (apart : j ≢ i) where
  same : row (freed t i) j ≡ row t j
  same = freed_other t i j apart

  other : row (freed t j) i ≡ row t i
  other = freed_other t j i (λ e. apart (sym e))

  rows_commute : (freed (freed t i) j).rows ≡ (freed (freed t j) i).rows
  unfolding freed placed
  rows_commute = set_comm t.rows i j blank blank (λ e. apart (sym e))

  total_commutes : (freed (freed t i) j).head.total ≡ (freed (freed t j) i).head.total
  total_commutes =
      omega
      (arith, freed_total (freed t i) j, freed_total t i, freed_total (freed t j) i, freed_total t j, ap weight_in same, ap weight_in other)

  sum_commutes : (freed (freed t i) j).head.sum ≡ (freed (freed t j) i).head.sum
  sum_commutes =
      omega (arith, freed_sum (freed t i) j, freed_sum t i, freed_sum (freed t j) i, freed_sum t j, ap moment_in same, ap moment_in other)

  -- where these two are the last, they stand at one position
  module _ (weighed : Weighed t) (ri : Ready t i) (rj : Ready t j) where
    then : Table
    then = freed t i

    then_ready : Ready then j
    unfolding then
    then_ready = stays_ready t i j ri rj apart

    then_true : TrueSums then
    unfolding then
    then_true = freed_true t i ri weighed.sums

    last_level : (freed (freed t i) j).head.total ≡ 0 → (row t i).position ≡ (row t j).position
    unfolding then
    last_level empty =
        let wi = ready_weight t i ri in
        let wj = ready_weight t j rj in
        let total : t.head.total ≡ (row t i).weight + (row t j).weight =
        omega (
          arith,
          freed_total then j,
          freed_total t i,
          weight_within t i weighed.sums (ready_inside t i ri),
          weight_within then j then_true (ready_inside then j then_ready),
          ap weight_in same,
          wi,
          wj,
        ) in
        let sum : t.head.sum ≡ (row t i).weight * (row t i).position + (row t j).weight * (row t j).position =
        omega (
          arith,
          no_sum (freed then j) (freed_true then j then_ready then_true) empty,
          freed_sum then j,
          freed_sum t i,
          moment_within t i weighed.sums (ready_inside t i ri),
          moment_within then j then_true (ready_inside then j then_ready),
          ap moment_in same,
          ready_moment t i ri,
          ready_moment t j rj,
        ) in
        level_both (row t i).weight (row t j).weight (row t i).position (row t j).position t.head.total t.head.sum total sum
        (weighed.weighs i ri.going) (weighed.weighs j rj.going) ri.level rj.level

    rest_commutes : (freed (freed t i) j).head.resting ≡ (freed (freed t j) i).head.resting
    rest_commutes = ⊎_elim some none (le_or_lt 1 (freed (freed t i) j).head.total)
      where
        some : 1 ≤ (freed (freed t i) j).head.total → (freed (freed t i) j).head.resting ≡ (freed (freed t j) i).head.resting
        some h = freed_goes_on (freed t i) j h ∙ sym (freed_goes_on (freed t j) i (omega (arith, total_commutes)))

        none : (freed (freed t i) j).head.total < 1 → (freed (freed t i) j).head.resting ≡ (freed (freed t j) i).head.resting
        none h =
            freed_rests (freed t i) j (omega arith)
            ∙ ap (λ (r : Row). r.position) same
            ∙ sym (last_level (omega arith))
            ∙ sym (ap (λ (r : Row). r.position) other)
            ∙ sym (freed_rests (freed t j) i (omega (arith, total_commutes)))

    commute : freed (freed t i) j ≡ freed (freed t j) i
    unfolding freed placed summed
    commute = same_table rows_commute total_commutes sum_commutes rest_commutes refl refl refl refl

-- and so do the weights of those that are left
freed_weighed : (t : Table) (i : ℕ) → Ready t i → Weighed t → Weighed (freed t i)
freed_weighed t i r w = record { sums = freed_true t i r w.sums; weighs = λ j. by j (ℕ_discrete j i) }
  where
    by : (j : ℕ) → Dec (j ≡ i) → is_going (row (freed t i) j).state ≡ true → 1 ≤ (row (freed t i) j).weight
    by j (yes e) =
        subst⁻¹ (λ (k : ℕ). is_going (row (freed t i) k).state ≡ true → 1 ≤ (row (freed t i) k).weight) e
        (subst⁻¹ (λ (x : Row). is_going x.state ≡ true → 1 ≤ x.weight) (freed_same t i) (λ g. absurd (clash g refl)))
    by j (no apart) = subst⁻¹ (λ (x : Row). is_going x.state ≡ true → 1 ≤ x.weight) (freed_other t i j apart) (w.weighs j)

-- one step of `any_first`: the rest of the way, with i freed first, joined on again
first_then : {t u : Table} (i j : ℕ) → Weighed t → Ready t i → Ready t j → Frees (freed t j) u → (Ready (freed t j) i → Frees (freed (freed t j) i) u) → Dec (j ≡ i) → Frees (freed t i) u
first_then {t} {u} i j weighed ri rj rest again (yes e) = subst (λ (k : ℕ). Frees (freed t k) u) e rest
first_then {t} {u} i j weighed ri rj rest again (no apart) =
    one {u = u} j (stays_ready t i j ri rj apart)
    (subst⁻¹ (λ (m : Table). Frees m u) (commute t i j apart weighed ri rj) (again (stays_ready t j i rj ri (λ e. apart (sym e)))))

pub any_first : {t u : Table} (i : ℕ) → Weighed t → Ready t i → Frees t u → Frees (freed t i) u
any_first i weighed r (done calm) = absurd (calm i r)
any_first {t} i weighed r (one j rj rest) =
    first_then i j weighed r rj rest (λ ready'. any_first i (freed_weighed t j rj weighed) ready' rest) (ℕ_discrete j i)

pub same_end : {t u v : Table} → Weighed t → Frees t u → Frees t v → u ≡ v
same_end weighed (done calm) (done calm') = refl
same_end weighed (done calm) (one i r rest) = absurd (calm i r)
same_end {t} weighed (one i r rest) way = same_end (freed_weighed t i r weighed) rest (any_first i weighed r way)

-- how many rows are going
goes : Row → ℕ
goes r = cond (is_going r.state) 1 0

pub goers : Table → ℕ
goers t = sum_of goes t.rows

goes_most : (b : Bool) → cond b 1 0 ≤ 1
goes_most true = omega arith
goes_most false = omega arith

goers_most : (t : Table) → goers t ≤ length t.rows
unfolding goers goes
goers_most t = omega (arith, sum_bound goes t.rows blank 1 (λ i l. goes_most (is_going (get_or t.rows i blank).state)))

pub goers_fall : (t : Table) (i : ℕ) → Ready t i → goers (freed t i) + 1 ≡ goers t
unfolding goers goes freed placed row
goers_fall t i r =
    omega (arith, sum_set goes t.rows i blank blank (ready_inside t i r), ap {B = ℕ} (λ (b : Bool). cond b 1 0) r.going)

none_ready : (t : Table) → first_from (ready t) 0 t.rows ≡ none → Calm t
unfolding row
none_ready t e i r = clash (says_ready t i r) (first_none (ready t) blank 0 t.rows e i (ready_inside t i r))

some_ready : (t : Table) (i : ℕ) → first_from (ready t) 0 t.rows ≡ some i → Ready t i
unfolding row
some_ready t i e =
    let found = first_some (ready t) blank 0 i t.rows e in
    ready_says t i (rw (found.1, zero-add) found.2.passed)

-- enough turns free every row that is to be freed
freeing_frees : (most : ℕ) (t : Table) → goers t ≤ most → Frees t (freeing most t)
freeing_frees zero t h = done (λ i (r : Ready t i). omega (arith, goers_fall t i r))
freeing_frees (suc most) t h =
    turn (λ i r. freeing_frees most (freed t i) (omega (arith, goers_fall t i r))) (first_from (ready t) 0 t.rows) refl
  where
    turn : ((i : ℕ) → Ready t i → Frees (freed t i) (freeing most (freed t i))) → (o : Option ℕ) → first_from (ready t) 0 t.rows ≡ o → Frees t (freeing (suc most) t)
    turn again none e = rw (e, freeing) (done (none_ready t e))
    turn again (some i) e = rw (e, freeing) (one i (some_ready t i e) (again i (some_ready t i e)))

-- `released` is a release, so it is every release
pub released_frees : (t : Table) → Frees t (released t)
unfolding released
released_frees t = freeing_frees (length t.rows) t (goers_most t)

pub frees_released : {t u : Table} → Weighed t → Frees t u → u ≡ released t
frees_released {t} weighed way = same_end weighed way (released_frees t)
