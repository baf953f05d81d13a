-- The request of an orderly row: its products fit.
use mathlib.Core.Path.{◌≡◌, subst}
use native.Mathlib.Omega.{arith}
use Rattle.rows.specs.declared.Request.{Request}
use Rattle.rows.specs.declared.Row.{Row}
use Rattle.rows.specs.declared.State.{State}
use Rattle.rows.specs.declared.State.TheVariants.{Asking}
use Rattle.rows.specs.Orderly.{OrderlyAs, OrderlyRow}
use Rattle.rows.specs.Row.{position_of}
use Rattle.head.specs.Judged.{Servable}

pub servable : (r : Row) (q : Request) → r.state ≡ Asking q → OrderlyRow r → Servable q
unfolding position_of
servable r q is orderly =
    let o = subst (λ (s : State). OrderlyAs s r.weight r.position) is orderly in
    record { opening_high = omega (arith, o.1.stands, o.0.position_high); length_high = o.1.length_high; served_less = o.1.served_less }
