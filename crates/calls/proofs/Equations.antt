-- Equations 7 to 12, 14 and 15 of report 96-038, over the common denominators of positions (720,720 / weight a tick) and of V = A / W.
use mathlib.Core.Bool.{Bool, true, false}
use mathlib.Core.Path.{◌≡◌, refl, ap, sym, ◌∙◌}
use Prim.Native.Nat.{ℕ, ◌+◌, ◌*◌, ◌<◌}
use native.Mathlib.Omega.{arith}
use lib.ListN.{length}
use Rattle.rows.specs.declared.Request.{Request}
use Rattle.rows.specs.declared.Row.{Row}
use Rattle.rows.specs.Numbers.{step_of}
use Rattle.rows.specs.Orderly.{OrderlyRequest}
use Rattle.rows.specs.Requests.{opened, served_to}
use Rattle.rows.specs.Row.{is_free, position_of, deadline_of, charged_to}
use Rattle.rows.proofs.Requests.{served_early, served_up}
use Rattle.share.specs.declared.Table.{Table}
use Rattle.share.specs.Release.{freed}
use Rattle.share.specs.Table.{row, TrueSums}
use Rattle.calls.proofs.OneDeparture.{departure_once}

-- Equation 9: the first request opens where the queue enters. Equation 10: its deadline is a length's steps later.
pub first_opens : (w p length : ℕ) → (opened p length).opening ≡ p
unfolding opened
first_opens w p length = refl

pub first_deadline : (w p length : ℕ) → deadline_of w (opened p length) ≡ p + length * step_of w
unfolding opened deadline_of
first_deadline w p length = refl

-- Equations 7 and 8: a queue has come its opening and a step for each tick served; the deadline is the rest of the length's steps on.
pub deadline_ahead : (w p left : ℕ) (q : Request) → OrderlyRequest w p q → q.served + left ≡ q.length → p + left * step_of w ≡ deadline_of w q
unfolding deadline_of position_of
deadline_ahead w p left q h e = rw (h.stands, ← e) (omega arith)

-- Equation 11: a request used up is followed by one that opens at its deadline.
pub next_opens_at_deadline : (w p used : ℕ) (early : Bool) (q : Request) → OrderlyRequest w p q → q.served + used ≡ q.length → (served_to q (charged_to w p used) used early).opening ≡ deadline_of w q
unfolding charged_to opened
next_opens_at_deadline w p used early q h e =
    ap (λ (x : Request). x.opening) (sym (served_up q (charged_to w p used) used early (omega arith))) ∙ deadline_ahead w p used q h e

-- Equation 12: one ended early, after u ticks in all, is followed by one that opens u steps after its opening.
pub next_opens_after_use : (w p used : ℕ) (q : Request) → OrderlyRequest w p q → (served_to q (charged_to w p used) used true).opening ≡ q.opening + (q.served + used) * step_of w
unfolding charged_to opened position_of
next_opens_after_use w p used q h =
    ap (λ (x : Request). x.opening) (sym (served_early q (charged_to w p used) used true refl)) ∙ rw h.stands (omega arith)

-- Equation 15, lag' = lag + w lag / (W left), for a row of weight w at p: over W x W', with the negative parts moved across.
pub remaining_lag : (t : Table) (i : ℕ) (w p : ℕ) → TrueSums t → i < length t.rows → is_free (row t i).state ≡ false → let r : Row = row t i in let u : Table = freed t i in w * u.head.sum * t.head.total + w * (t.head.total * p) * u.head.total + w * (r.weight * (t.head.total * r.position)) ≡ w * (u.head.total * p) * t.head.total + w * t.head.sum * u.head.total + w * (r.weight * t.head.sum)
remaining_lag t i w p sums inside present =
    let once = departure_once t i sums inside present in
    omega (arith, ap (λ (x : ℕ). w * x) once)
