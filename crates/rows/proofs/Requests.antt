-- What events make of a row. The rows that they put in place are orderly: a newcomer's, one with another next length, and one that was charged. And
-- how a request goes on after a charge, case by case.
use mathlib.Core.Path.{◌≡◌, refl, subst}
use mathlib.Core.Bool.{Bool, true, false, cond, ◌||◌}
use Prim.Native.Nat.{ℕ, zero, suc, ◌+◌, ◌≤◌, ◌<◌}
use native.Mathlib.Nat.{mul-le-mul_right}
use native.Mathlib.Omega.{arith}
use lib.Dec.{leb}
use borrow.Author.Tests.{ne_eqb, le-leb, lt-leb, leb-false}
use Rattle.laws.proofs.Tests.{clash, or_right, or_second, or_neither}
use Rattle.rows.specs.declared.Request.{Request}
use Rattle.rows.specs.declared.Row.{Row}
use Rattle.rows.specs.declared.State.{State}
use Rattle.rows.specs.declared.State.TheVariants.{Free, Going, Asking}
use Rattle.rows.specs.declared.Terms.{Terms}
use Rattle.rows.specs.Numbers.{ceiling, max_length, length_meant, step_of}
use Rattle.rows.specs.Row.{is_asking, position_of, deadline_of, charged_to}
use Rattle.rows.specs.Orderly.{InRange, OrderlyRequest, OrderlyAs, OrderlyRow, Allowed}
use Rattle.rows.proofs.Orderly.{default_low, default_high}
use Rattle.rows.specs.Requests.{opened, entering, next_set, served_to, served, charged}

-- "a length of 0 in a call stands for the house default": whatever a call may give, a request's length is in range
pub meant_low : (terms : Terms) (length : ℕ) → Allowed terms → 1 ≤ length_meant terms length
unfolding length_meant
meant_low terms zero allows = default_low allows
meant_low terms (suc n) allows = simp (ne_eqb (suc n) 0 (λ e. omega arith)) (omega arith)

pub meant_high : (terms : Terms) (length : ℕ) → Allowed terms → length ≤ max_length → length_meant terms length ≤ max_length
unfolding length_meant
meant_high terms zero allows h = default_high allows
meant_high terms (suc n) allows h = simp (ne_eqb (suc n) 0 (λ e. omega arith)) h

opened_orderly : (w p length : ℕ) → 1 ≤ length → length ≤ max_length → OrderlyRequest w p (opened p length)
unfolding opened position_of
opened_orderly w p length low high =
    record {
      length_low = low;
      length_high = high;
      next_low = low;
      next_high = high;
      served_less = low;
      stands = omega arith;
    }

pub entering_orderly : (terms : Terms) (w p length : ℕ) → Allowed terms → InRange w p → length ≤ max_length → OrderlyRow (entering w p (length_meant terms length))
unfolding entering
entering_orderly terms w p length allows range high =
    (range, opened_orderly w p (length_meant terms length) (meant_low terms length allows) (meant_high terms length allows high))

pub asking_range : (s : State) (w p : ℕ) → is_asking s ≡ true → OrderlyAs s w p → InRange w p
asking_range Free w p e h = absurd (clash e refl)
asking_range Going w p e h = h
asking_range (Asking q) w p e h = h.0

pub next_orderly : (terms : Terms) (s : State) (w p length : ℕ) → Allowed terms → length ≤ max_length → OrderlyAs s w p → OrderlyAs (next_set s (length_meant terms length)) w p
unfolding position_of
next_orderly terms Free w p length allows high h = h
next_orderly terms Going w p length allows high h = h
next_orderly terms (Asking q) w p length allows high h =
    let r = h.1 in (
      h.0,
      record {
        length_low = r.length_low;
        length_high = r.length_high;
        next_low = meant_low terms length allows;
        next_high = meant_high terms length allows high;
        served_less = r.served_less;
        stands = r.stands;
      },
    )

-- a charge within the request ends at most at its deadline
pub charge_high : (w p used : ℕ) (q : Request) → OrderlyRequest w p q → q.served + used ≤ q.length → charged_to w p used ≤ deadline_of w q
unfolding charged_to deadline_of position_of
charge_high w p used q h fits = omega (arith, h.stands, mul-le-mul_right (step_of w) fits)

-- what is left of the request after a charge that does not end it
going_on : (w p used : ℕ) (q : Request) → OrderlyRequest w p q → q.served + used < q.length → OrderlyRequest w (charged_to w p used) (record { opening = q.opening; length = q.length; served = q.served + used; next = q.next })
unfolding charged_to position_of
going_on w p used q h less =
    record {
      length_low = h.length_low;
      length_high = h.length_high;
      next_low = h.next_low;
      next_high = h.next_high;
      served_less = less;
      stands = omega (arith, h.stands);
    }

served_request : (w p used : ℕ) (early : Bool) (q : Request) → OrderlyRequest w p q → OrderlyRequest w (charged_to w p used) (served_to q (charged_to w p used) used early)
unfolding served_to
served_request w p used early q h = by (early || leb q.length (q.served + used)) refl
  where
    by : (b : Bool) → (early || leb q.length (q.served + used)) ≡ b → OrderlyRequest w (charged_to w p used) (cond b (opened (charged_to w p used) q.next) (record { opening = q.opening; length = q.length; served = q.served + used; next = q.next }))
    by true e = opened_orderly w (charged_to w p used) q.next h.next_low h.next_high
    by false e = going_on w p used q h (leb-false q.length (q.served + used) (or_right early _ e))

served_orderly : (w p used : ℕ) (early : Bool) (q : Request) → InRange w p → OrderlyRequest w p q → charged_to w p used ≤ ceiling → OrderlyAs (served (Asking q) (charged_to w p used) used early) w (charged_to w p used)
served_orderly w p used early q range h high =
    (record { weight_low = range.weight_low; weight_high = range.weight_high; position_high = high }, served_request w p used early q h)

pub charged_orderly : (r : Row) (q : Request) (used : ℕ) (early : Bool) → r.state ≡ Asking q → OrderlyRow r → charged_to r.weight r.position used ≤ ceiling → OrderlyRow (charged r used early)
unfolding charged
charged_orderly r q used early asks h high =
    let as_asking : OrderlyAs (Asking q) r.weight r.position = subst (λ (s : State). OrderlyAs s r.weight r.position) asks h in
    rw asks (served_orderly r.weight r.position used early q as_asking.0 as_asking.1 high)

module _ (q : Request) (position used : ℕ) (early : Bool) where
  pub served_early : early ≡ true → opened position q.next ≡ served_to q position used early
  unfolding served_to
  served_early e = rw e refl

  pub served_up : q.length ≤ q.served + used → opened position q.next ≡ served_to q position used early
  unfolding served_to
  served_up h = rw (or_second early (le-leb q.length (q.served + used) h)) refl

  pub served_on : early ≡ false → q.served + used < q.length → record { opening = q.opening; length = q.length; served = q.served + used; next = q.next } ≡ served_to q position used early
  unfolding served_to
  served_on e h = rw (or_neither e (lt-leb q.length (q.served + used) h)) refl
