-- The table of steps, by one test that is computed over it: weight x step = 720,720 at every entry (document 01, "The numbers of the shop").
use mathlib.Core.Path.{◌≡◌, refl}
use mathlib.Core.Bool.{Bool}
use mathlib.Core.List.{◌∷◌}
use mathlib.Core.Logic.{⊎_elim}
use Prim.Native.Nat.{ℕ, zero, suc, ◌*◌, ◌≤◌, ◌<◌}
use native.Mathlib.Omega.{arith}
use native.Mathlib.Nat.{zero-add, mul-le-mul, mul-le-mul_right}
use lib.Dec.{eqb}
use lib.ListN.{get_or, get_or-eq_default}
use borrow.Author.Tests.{eqb-true}
use Rattle.laws.proofs.Tests.{all_from_at, le_or_lt}
use Rattle.rows.specs.Numbers.{steps, step_of, unit, max_weight, max_length}

step_below : (w : ℕ) → w < 1 → step_of w ≡ 0
unfolding step_of
step_below zero h = refl
step_below (suc k) h = absurd (omega arith)

step_past : (w : ℕ) → max_weight < w → step_of w ≡ 0
unfolding step_of
step_past w h = get_or-eq_default (0 ∷ steps) 0 h

-- a weight that is none of 1 to n
abbrev pub NoneUpTo : ℕ → ℕ → Type 0
NoneUpTo zero w = Unit {0}
NoneUpTo (suc n) w = NoneUpTo n w × (w ≡ suc n → ⊥)

none_up_to : (n w : ℕ) → NoneUpTo n w → 1 ≤ w → w ≤ n → ⊥
none_up_to zero w h low high = omega arith
none_up_to (suc n) w h low high = ⊎_elim (λ most. none_up_to n w h.0 low most) (λ past. h.1 (omega arith)) (le_or_lt w n)

-- has no step
pub step_other : (w : ℕ) → NoneUpTo max_weight w → step_of w ≡ 0
step_other w h =
    ⊎_elim (λ low. ⊎_elim (λ high. absurd (none_up_to max_weight w h low high)) (step_past w) (le_or_lt w max_weight)) (step_below w) (le_or_lt 1 w)

exact : ℕ → ℕ → Bool
exact k step = eqb (suc k * step) unit

pub weight_times_step : (w : ℕ) → 1 ≤ w → w ≤ max_weight → w * step_of w ≡ unit
unfolding exact step_of
weight_times_step zero low high = absurd (omega arith)
weight_times_step (suc k) low high =
    eqb-true (suc k * get_or steps k 0) unit (rw zero-add at (all_from_at exact 0 steps refl 0 k (omega arith)))

-- no step is longer than a unit
pub step_most : (w : ℕ) → step_of w ≤ unit
step_most w = ⊎_elim (λ low. ⊎_elim (inside low) past (le_or_lt w max_weight)) below (le_or_lt 1 w)
  where
    inside : 1 ≤ w → w ≤ max_weight → step_of w ≤ unit
    inside low high = omega (arith, weight_times_step w low high, mul-le-mul_right (step_of w) low)

    past : max_weight < w → step_of w ≤ unit
    past h = omega (arith, step_past w h)

    below : w < 1 → step_of w ≤ unit
    below h = omega (arith, step_below w h)

-- how far a request can carry a queue
pub travel_most : (w : ℕ) {s : ℕ} → s ≡ step_of w → (n : ℕ) → n ≤ max_length → n * s ≤ max_length * unit
travel_most w e n h = rw e (mul-le-mul h (step_most w))
