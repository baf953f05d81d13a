-- A mean A / W as a pair of numbers, and what taking a part w at position p out of it does.
use mathlib.Core.Path.{◌≡◌, subst}
use mathlib.Core.Logic.{⊎_elim}
use Prim.Native.Nat.{ℕ, ◌+◌, ◌-◌, ◌*◌, ◌/◌, ◌≤◌, ◌<◌, zero-le}
use native.Mathlib.Nat.{mul-zero, mul-le-mul_left, sub-eq-zero_of_le, lt-div-mul-add, div-lt_iff_lt-mul}
use native.Mathlib.Omega.{arith}
use Rattle.laws.proofs.Tests.{le_or_lt}

-- two positions that the mean has reached: the one, and the other's part, fit into A together
together : (q p w k A : ℕ) → p * (w + k) ≤ A → q * (w + k) ≤ A → q * k + w * p ≤ A
together q p w k A hp hq =
    ⊎_elim (λ l. omega (arith, mul-le-mul_left w l)) (λ l. omega (arith, mul-le-mul_left k l)) (le_or_lt p q)

-- the mean is not pulled below q by taking out a part that it has reached
pub still_reached : (q p w W A : ℕ) → p * W ≤ A → q * W ≤ A → q * (W - w) ≤ A - w * p
still_reached q p w W A hp hq = ⊎_elim all_out some_left (le_or_lt W w)
  where
    all_out : W ≤ w → q * (W - w) ≤ A - w * p
    all_out h = rw (sub-eq-zero_of_le h, mul-zero) zero-le

    some_left : w < W → q * (W - w) ≤ A - w * p
    some_left h =
        let e : W ≡ w + (W - w) = omega arith in
        let hp' : p * (w + (W - w)) ≤ A = subst (λ (x : ℕ). p * x ≤ A) e hp in
        let hq' : q * (w + (W - w)) ≤ A = subst (λ (x : ℕ). q * x ≤ A) e hq in
        omega (arith, together q p w (W - w) A hp' hq')

-- a / w rounded up: the least whole number not below it
pub round_up_not_below : (a w : ℕ) → 0 < w → a ≤ (a + (w - 1)) / w * w
round_up_not_below a w h = omega (arith, lt-div-mul-add {a = a + (w - 1)} {b = w} h)

pub round_up_least : (a w c : ℕ) → 0 < w → a ≤ c * w → (a + (w - 1)) / w ≤ c
round_up_least a w c h e = omega (arith, (div-lt_iff_lt-mul {k = w} {x = a + (w - 1)} {y = c + 1} h).1 (omega arith))
