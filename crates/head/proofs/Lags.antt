-- The product that the code computes is the row's lag, a free row's too.
use mathlib.Core.Path.{◌≡◌, refl}
use mathlib.Core.Bool.{cond}
use Prim.Native.Nat.{ℕ, ◌*◌}
use native.Mathlib.Omega.{arith}
use lib.IntN.{pos}
use Rattle.laws.specs.Difference.{◌⊖◌}
use Rattle.laws.proofs.Difference.{same_none}
use Rattle.rows.specs.declared.Row.{Row}
use Rattle.rows.specs.declared.State.{State}
use Rattle.rows.specs.declared.State.TheVariants.{Free, Going, Asking}
use Rattle.rows.specs.Row.{is_free}
use Rattle.rows.specs.Orderly.{OrderlyAs, OrderlyRow}
use Rattle.head.specs.declared.Head.{Head}
use Rattle.head.specs.Lag.{lag_of}

by_state : (s : State) (w p total sum : ℕ) → OrderlyAs s w p → w * sum ⊖ w * (total * p) ≡ cond (is_free s) (pos 0) (w * sum ⊖ w * (total * p))
by_state Free w p total sum h =
    let none : w * sum ≡ w * (total * p) = rw h.0 (omega arith) in
    rw none (same_none (w * (total * p)))
by_state Going w p total sum h = refl
by_state (Asking q) w p total sum h = refl

pub lag_product : (h : Head) (r : Row) → OrderlyRow r → r.weight * h.sum ⊖ r.weight * (h.total * r.position) ≡ lag_of h r
unfolding lag_of
lag_product h r o = by_state r.state r.weight r.position h.total h.sum o
