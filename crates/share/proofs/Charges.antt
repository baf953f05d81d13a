-- The holder's row when its slice comes back: the slice was within its request, so that the charge ends at most at P; its request can be charged with the
-- ticks used, and the row that comes of it can be placed.
use mathlib.Core.Path.{◌≡◌, refl, ap, subst}
use mathlib.Core.Bool.{Bool, false}
use Prim.Native.Nat.{ℕ, ◌+◌, ◌≤◌, ◌<◌}
use native.Mathlib.Omega.{arith}
use Rattle.rows.specs.declared.Request.{Request}
use Rattle.rows.specs.declared.Row.{Row}
use Rattle.rows.specs.declared.State.{State}
use Rattle.rows.specs.declared.State.TheVariants.{Free, Going, Asking}
use Rattle.rows.specs.declared.Terms.{Terms}
use Rattle.rows.specs.Numbers.{ceiling}
use Rattle.rows.specs.Row.{is_going, charged_to}
use Rattle.rows.specs.Orderly.{OrderlyAs, slice_most}
use Rattle.rows.specs.Fits.{Charging, served_as}
use Rattle.rows.specs.Requests.{charged}
use Rattle.rows.proofs.Requests.{charge_high, charged_orderly}
use Rattle.rows.proofs.Shares.{position_small}
use Rattle.head.specs.declared.Head.{Head}
use Rattle.head.specs.Head.{sliced}
use Rattle.head.specs.Slice.{OrderlyHolder, HeldBy, OrderlySlice}
use Rattle.share.specs.declared.Table.{Table}
use Rattle.share.specs.Asks.{Placing, Ahead, Returns}
use Rattle.share.specs.Sound.{held, Orderly}
use Rattle.share.specs.Table.{row, with_slice}

-- the slice taken in: an orderly table without one
pub taken_in : (t : Table) → Orderly t → Orderly (with_slice t false 0 0)
unfolding with_slice sliced row
taken_in t o =
    record {
      one_each = o.one_each;
      terms_allowed = o.terms_allowed;
      each = o.each;
      total_true = o.total_true;
      sum_true = o.sum_true;
      rest = record { rest_high = o.rest.rest_high; only_empty = o.rest.only_empty };
      slice = (refl, refl);
    }

-- the holder's request, when a slice is out
pub record Holding (t : Table) (r : Row) : Type 0 where
  pub request : Request
  pub state_asking : r.state ≡ Asking request
  pub orderly_holder : OrderlyHolder t.head r.weight request

holding_as : (h : Head) (s : State) (w : ℕ) → HeldBy h s w → (q : Request) × (s ≡ Asking q) × OrderlyHolder h w q
holding_as h Free w o = absurd o
holding_as h Going w o = absurd o
holding_as h (Asking q) w o = (q, refl, o)

pub holding : (t : Table) (queue used : ℕ) → Returns t queue used → Holding t (row t queue)
holding t queue used r =
    let by_holder = subst (λ (out : Bool). OrderlySlice t.head out (held t)) r.held r.was_sound.orderly_table.slice in
    let found = holding_as t.head (row t queue).state (row t queue).weight (rw r.holds by_holder.1) in
    record { request = found.0; state_asking = found.1; orderly_holder = found.2 }

-- a slice is at most what is left of the request
pub slice_within : (terms : Terms) (q : Request) → q.served < q.length → q.served + slice_most terms q ≤ q.length
unfolding slice_most
slice_within terms q h = omega arith

pub charge_within : (t : Table) (queue used : ℕ) (r : Returns t queue used) → charged_to (row t queue).weight (row t queue).position used ≤ ceiling
charge_within t queue used r =
    let h = holding t queue used r in
    let w = (row t queue).weight in
    let as_asking : OrderlyAs (Asking h.request) w (row t queue).position =
    subst (λ (s : State). OrderlyAs s w (row t queue).position) h.state_asking (r.was_sound.orderly_table.each queue) in
    let fits : h.request.served + used ≤ h.request.length =
    omega (arith, r.within, h.orderly_holder.slice_high, slice_within t.head.terms h.request as_asking.1.served_less) in
    omega (arith, charge_high w (row t queue).position used h.request as_asking.1 fits, h.orderly_holder.deadline_high)

module _ (t : Table) (queue used : ℕ) (r : Returns t queue used) where
  slice_limit : (terms : Terms) (q : Request) → slice_most terms q ≤ terms.limit
  unfolding slice_most
  slice_limit terms q = omega arith

  pub return_charges : Charging (row t queue) used
  return_charges =
      let o = r.was_sound.orderly_table in
      let h = holding t queue used r in
      let q = h.request in
      let as_asking : OrderlyAs (Asking q) (row t queue).weight (row t queue).position =
      subst (λ (s : State). OrderlyAs s (row t queue).weight (row t queue).position) h.state_asking (o.each queue) in
      let limit : t.head.ticks ≤ t.head.terms.limit = omega (arith, h.orderly_holder.slice_high, slice_limit t.head.terms q) in
      record {
        position_high = position_small (row t queue) (o.each queue);
        used_high = omega (arith, r.within, o.terms_allowed.limit_high, limit);
        fits = omega (arith, r.within, o.terms_allowed.limit_high, limit, ap served_as h.state_asking, as_asking.1.served_less, as_asking.1.length_high);
      }

  module _ (early : Bool) where
    pub return_places : Placing (with_slice t false 0 0) queue (charged (row t queue) used early)
    return_places =
        let o = r.was_sound.orderly_table in
        let h = holding t queue used r in
        record {
          orderly = taken_in t o;
          inside = r.inside;
          new = charged_orderly (row t queue) h.request used early h.state_asking (o.each queue) (charge_within t queue used r);
        }

    -- it goes on asking
    pub return_asks : is_going (charged (row t queue) used early).state ≡ false
    unfolding charged
    return_asks = rw (holding t queue used r).state_asking refl

pub slice_ahead : (t : Table) (out : Bool) (holder ticks nearest : ℕ) → Ahead t nearest → Ahead (with_slice t out holder ticks) nearest
unfolding with_slice sliced row
slice_ahead t out holder ticks nearest a = record { nearest_high = a.nearest_high; before = a.before }
