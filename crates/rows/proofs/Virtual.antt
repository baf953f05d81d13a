-- Virtual time by cross products: a position is behind, level or ahead as its cross product is below, at or above A, and ahead by the least number of units
-- that makes V reach it. So the test whether V has reached a position says just that, and so do those of a row that ask it.
use mathlib.Core.Path.{◌≡◌, refl, ap, subst}
use mathlib.Core.Bool.{true, false}
use mathlib.Core.Logic.{⊎_elim}
use Prim.Native.Nat.{ℕ, ◌+◌, ◌-◌, ◌*◌, ◌/◌, ◌≤◌, ◌<◌}
use native.Mathlib.Nat.{mul-le-mul}
use native.Mathlib.Omega.{arith}
use borrow.Author.Tests.{lt-ltb, le-ltb, eq-eqb, ne_eqb}
use Rattle.laws.proofs.Means.{round_up_not_below, round_up_least}
use Rattle.laws.proofs.Tests.{clash, le_or_lt}
use Rattle.rows.specs.declared.Row.{Row}
use Rattle.rows.specs.declared.Standing.TheVariants.{Behind, Level, Ahead}
use Rattle.rows.specs.declared.State.{State}
use Rattle.rows.specs.declared.State.TheVariants.{Free, Going, Asking}
use Rattle.rows.specs.Numbers.{max_total}
use Rattle.rows.specs.Row.{is_going}
use Rattle.rows.specs.Virtual.{Reached, standing_at, not_ahead, reached, ready_as, ready_at}
use Rattle.rows.specs.Looks.{beyond}

-- so many units more make V reach a position, and one less does not
pub record Short (position total sum units : ℕ) : Type 0 where
  pub some : 1 ≤ units
  pub enough : Reached position total (sum + units * total)
  pub no_less : sum + (units - 1) * total < position * total

-- numbers alone: d in parts of w, rounded up, is the least number of them
least_parts : (d w : ℕ) → 0 < d → 0 < w → let n : ℕ = (d + (w - 1)) / w in (1 ≤ n) × (d ≤ n * w) × ((n - 1) * w < d)
least_parts d w some whole =
    let n : ℕ = (d + (w - 1)) / w in
    let enough : d ≤ n * w = round_up_not_below d w whole in
    let one : 1 ≤ n = ⊎_elim (λ l. l) (λ z. absurd (none n (omega arith) enough)) (le_or_lt 1 n) in
    (one, enough, ⊎_elim (λ more. absurd (omega (arith, round_up_least d w (n - 1) whole more))) (λ less. less) (le_or_lt d ((n - 1) * w)))
  where
    none : (n : ℕ) → n ≡ 0 → d ≤ n * w → ⊥
    none n z h = let k : d ≤ 0 * w = subst (λ (x : ℕ). d ≤ x * w) z h in omega arith

module _ (position total sum : ℕ) where
  pub is_behind : position * total < sum → standing_at position total sum ≡ Behind
  unfolding standing_at
  is_behind h = rw (lt-ltb _ _ h) refl

  pub is_level : position * total ≡ sum → standing_at position total sum ≡ Level
  unfolding standing_at
  is_level h = rw (le-ltb (position * total) sum (omega arith), eq-eqb _ _ h) refl

  pub is_ahead : sum < position * total → standing_at position total sum ≡ Ahead ((position * total - sum + (total - 1)) / total)
  unfolding standing_at
  is_ahead h = rw (le-ltb (position * total) sum (omega arith), ne_eqb (position * total) sum (λ e. omega arith)) refl

  -- which needs a W above 0
  pub ahead_weighs : sum < position * total → 0 < total
  ahead_weighs h = ⊎_elim (λ l. l) (λ none. absurd (weightless (omega arith))) (le_or_lt 1 total)
    where
      weightless : total ≡ 0 → ⊥
      weightless none = let k : sum < position * 0 = subst (λ (w : ℕ). sum < position * w) none h in omega arith

  -- ahead, by the least number of units
  pub ahead_short : sum < position * total → Short position total sum ((position * total - sum + (total - 1)) / total)
  ahead_short h =
      let parts = least_parts (position * total - sum) total (omega arith) (ahead_weighs h) in
      record { some = parts.0; enough = omega (arith, parts.1); no_less = omega (arith, parts.2) }

  pub reached_yes : reached position total sum ≡ true → Reached position total sum
  unfolding reached
  reached_yes e =
      ⊎_elim (λ h. h) (λ above. absurd (clash e (ap not_ahead (is_ahead above)))) (le_or_lt (position * total) sum)

  pub yes_reached : Reached position total sum → reached position total sum ≡ true
  unfolding reached
  yes_reached h =
      ⊎_elim (λ at. ap not_ahead (is_level (omega arith))) (λ below. ap not_ahead (is_behind below)) (le_or_lt sum (position * total))

  pub no_reached : sum < position * total → reached position total sum ≡ false
  unfolding reached
  no_reached h = ap not_ahead (is_ahead h)

  pub reached_no : reached position total sum ≡ false → sum < position * total
  reached_no e = ⊎_elim (λ h. absurd (clash (yes_reached h) e)) (λ h. h) (le_or_lt (position * total) sum)

pub cross_fits : {position total : ℕ} → position ≤ beyond → total ≤ max_total → position * total ≤ beyond * max_total
cross_fits h l = mul-le-mul h l

-- a row is ready exactly if it is going and V has reached it
ready_going : (total sum : ℕ) (s : State) (position : ℕ) → ready_as total sum s position ≡ true → is_going s ≡ true
ready_going total sum Free position e = e
ready_going total sum Going position e = refl
ready_going total sum (Asking q) position e = e

ready_reached : (total sum : ℕ) (s : State) (position : ℕ) → ready_as total sum s position ≡ true → Reached position total sum
ready_reached total sum Free position e = absurd (clash e refl)
ready_reached total sum Going position e = reached_yes position total sum e
ready_reached total sum (Asking q) position e = absurd (clash e refl)

reached_ready : (total sum : ℕ) (s : State) (position : ℕ) → is_going s ≡ true → Reached position total sum → ready_as total sum s position ≡ true
reached_ready total sum Free position g h = g
reached_ready total sum Going position g h = yes_reached position total sum h
reached_ready total sum (Asking q) position g h = g

module _ (total sum : ℕ) (r : Row) where
  pub ready_is_going : ready_at total sum r ≡ true → is_going r.state ≡ true
  unfolding ready_at
  ready_is_going = ready_going total sum r.state r.position

  pub ready_is_reached : ready_at total sum r ≡ true → Reached r.position total sum
  unfolding ready_at
  ready_is_reached = ready_reached total sum r.state r.position

  pub is_ready : is_going r.state ≡ true → Reached r.position total sum → ready_at total sum r ≡ true
  unfolding ready_at
  is_ready = reached_ready total sum r.state r.position

-- what the code's test goes by
pub ruleset standing = (is_behind, is_level, is_ahead, ahead_weighs, cross_fits)
