-- An orderly row's part in W and A is its weight and its weight x position, a free one's being zero; and both are small.
use mathlib.Core.Path.{◌≡◌, refl, sym}
use mathlib.Core.Bool.{true, false, cond}
use Prim.Native.Nat.{ℕ, ◌*◌, ◌≤◌}
use native.Mathlib.Nat.{mul-le-mul}
use native.Mathlib.Omega.{arith}
use Rattle.laws.proofs.Tests.{clash}
use Rattle.rows.specs.declared.Row.{Row}
use Rattle.rows.specs.declared.State.{State}
use Rattle.rows.specs.declared.State.TheVariants.{Free, Going, Asking}
use Rattle.rows.specs.Numbers.{max_weight, ceiling}
use Rattle.rows.specs.Row.{is_free, is_going, is_asking, weight_in, moment_in}
use Rattle.rows.specs.Orderly.{OrderlyAs, OrderlyRow}

pub moment_fits : {w p : ℕ} → w ≤ max_weight → p ≤ ceiling → w * p ≤ max_weight * ceiling
moment_fits h l = mul-le-mul h l

record Share (s : State) (w p : ℕ) : Type 0 where
  weight_is : cond (is_free s) 0 w ≡ w
  moment_is : cond (is_free s) 0 (w * p) ≡ w * p
  weight_most : w ≤ max_weight
  position_most : p ≤ ceiling

share_of : (s : State) (w p : ℕ) → OrderlyAs s w p → Share s w p
share_of Free w p h =
    record {
      weight_is = sym h.0;
      moment_is = rw h.0 (omega arith);
      weight_most = omega (arith, h.0);
      position_most = omega (arith, h.1);
    }
share_of Going w p h = record { weight_is = refl; moment_is = refl; weight_most = h.weight_high; position_most = h.position_high }
share_of (Asking q) w p h = record { weight_is = refl; moment_is = refl; weight_most = h.0.weight_high; position_most = h.0.position_high }

-- a row's part in A is its part in W times its position
moment_as : (s : State) (w p : ℕ) → cond (is_free s) 0 (w * p) ≡ cond (is_free s) 0 w * p
moment_as Free w p = omega arith
moment_as Going w p = refl
moment_as (Asking q) w p = refl

pub moment_is : (r : Row) → moment_in r ≡ weight_in r * r.position
unfolding moment_in weight_in
moment_is r = moment_as r.state r.weight r.position

-- a going row is not free, nor is an asking one
pub going_not_free : (s : State) → is_going s ≡ true → is_free s ≡ false
going_not_free Free e = absurd (clash e refl)
going_not_free Going e = refl
going_not_free (Asking q) e = refl

pub asking_not_free : (s : State) → is_asking s ≡ true → is_free s ≡ false
asking_not_free Free e = absurd (clash e refl)
asking_not_free Going e = absurd (clash e refl)
asking_not_free (Asking q) e = refl

-- an orderly row that is not free weighs something, and a free one nothing
pub orderly_weighs : (s : State) (w p : ℕ) → OrderlyAs s w p → is_free s ≡ false → 1 ≤ w
orderly_weighs Free w p o here = absurd (clash refl here)
orderly_weighs Going w p o here = o.weight_low
orderly_weighs (Asking q) w p o here = o.0.weight_low

free_weight : (s : State) (n : ℕ) → is_free s ≡ true → cond (is_free s) 0 n ≡ 0
free_weight s n e = rw e refl

pub free_weighs_nothing : (r : Row) → is_free r.state ≡ true → weight_in r ≡ 0
unfolding weight_in
free_weighs_nothing r e = free_weight r.state r.weight e

module _ (r : Row) (h : OrderlyRow r) where
  share : Share r.state r.weight r.position
  share = share_of r.state r.weight r.position h

  pub orderly_weight : weight_in r ≡ r.weight
  unfolding weight_in
  orderly_weight = share.weight_is

  pub orderly_moment : moment_in r ≡ r.weight * r.position
  unfolding moment_in
  orderly_moment = share.moment_is

  pub weight_small : r.weight ≤ max_weight
  weight_small = share.weight_most

  pub position_small : r.position ≤ ceiling
  position_small = share.position_most

  pub moment_small : r.weight * r.position ≤ max_weight * ceiling
  moment_small = moment_fits weight_small position_small
