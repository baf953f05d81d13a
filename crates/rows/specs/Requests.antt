-- Document 01, "The events": what they make of one row and of its request.
use Rattle.std.specs.Prelude.{Bool, cond, ◌||◌, ℕ, ◌+◌, leb}
use Rattle.rows.specs.declared.Request.{Request}
use Rattle.rows.specs.declared.Row.{Row}
use Rattle.rows.specs.declared.State.{State}
use Rattle.rows.specs.declared.State.TheVariants.{Free, Going, Asking}
use Rattle.rows.specs.Row.{charged_to}

-- "Join. ... opens its first request; the length given also holds for its later ones until a length event"
unfoldable pub opened : ℕ → ℕ → Request
opened position length = record { opening = position; length = length; served = 0; next = length }

unfoldable pub entering : ℕ → ℕ → ℕ → Row
entering weight position length = record { weight = weight; position = position; state = Asking (opened position length) }

-- "Length. Sets the length of the next request. The open one stays."
abbrev pub next_set : State → ℕ → State
next_set Free length = Free
next_set Going length = Going
next_set (Asking q) length = Asking (record { opening = q.opening; length = q.length; served = q.served; next = length })

unfoldable pub row_next_set : Row → ℕ → Row
row_next_set r length = record { weight = r.weight; position = r.position; state = next_set r.state length }

-- "Return. ... If the request is used up or ended early, the next opens at the new position (equations 11 and 12)."
unfoldable pub served_to : Request → ℕ → ℕ → Bool → Request
served_to q position used early =
    cond (early || leb q.length (q.served + used)) (opened position q.next)
    (record { opening = q.opening; length = q.length; served = q.served + used; next = q.next })

abbrev pub served : State → ℕ → ℕ → Bool → State
served Free position used early = Free
served Going position used early = Going
served (Asking q) position used early = Asking (served_to q position used early)

-- "Position rises by used x step."
unfoldable pub charged : Row → ℕ → Bool → Row
charged r used early =
    let position : ℕ = charged_to r.weight r.position used in
    record { weight = r.weight; position = position; state = served r.state position used early }
