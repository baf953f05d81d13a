-- The walk over the rows. What it carries is the part of W and A that is done, the best of the rows passed, and a position that no going row passed
-- stands before. One row more keeps that; where there is none more, the row is not fine. Nothing is asked of the order in which requests go: the
-- walk compares bids as the choice does.
use mathlib.Core.Path.{◌≡◌, refl, ap, sym, subst, ◌∙◌}
use mathlib.Core.Bool.{Bool, true, false, not, cond, ◌&&◌}
use mathlib.Core.List.{List, [], ◌∷◌}
use mathlib.Core.Option.{some}
use Prim.Native.Nat.{ℕ, suc, ◌+◌, ◌*◌, ◌≤◌, ◌<◌}
use native.Mathlib.Omega.{arith}
use lib.ListN.{length, drop}
use lib.Seq.{drop-cons}
use borrow.Author.Tests.{not-true}
use Rattle.std.specs.Prelude.{Option, Some, None}
use Rattle.std.proofs.lemmas.Option.{none-some, same_Some}
use Rattle.laws.specs.Lists.{every, sum_of}
use Rattle.laws.proofs.Tests.{clash, every_each, each_every, below_next}
use Rattle.rows.specs.declared.Row.{Row}
use Rattle.rows.specs.declared.State.{State}
use Rattle.rows.specs.declared.State.TheVariants.{Free, Going, Asking}
use Rattle.rows.specs.declared.Terms.{Terms}
use Rattle.rows.specs.declared.looking.First.{First}
use Rattle.rows.specs.declared.looking.Seen.{Seen}
use Rattle.rows.specs.Numbers.{queues, max_weight, ceiling}
use Rattle.rows.specs.Row.{blank, is_free, is_going, weight_in, moment_in}
use Rattle.rows.specs.Virtual.{reached, eligible_as, eligible_at}
use Rattle.rows.specs.Orderly.{OrderlyAs, orderly_as}
use Rattle.rows.specs.Order.{bid_as, bid, goes_before}
use Rattle.rows.specs.Looks.{unseen, counting, passing, led_by, leads_over, leads, bidding, seen_free, seen_going, seen_bidding, seen_asking, seen_as, seen_after}
use Rattle.rows.specs.Fits.{Roomy}
use Rattle.rows.proofs.Orderly.{in_range_lem, orderly_as_lem, as_orderly}
use Rattle.rows.proofs.Shares.{moment_fits}
use Rattle.share.specs.declared.Table.{Table}
use Rattle.share.specs.Table.{row, true_total, true_sum}
use Rattle.share.specs.Choice.{eligible, precedes, better, choose_from, choice}
use Rattle.share.specs.Walks.{Fine, first_queue, Passed, SoFar}

-- what a fine row adds to what was seen
record Good (terms : Terms) (total sum : ℕ) (s : Seen) (at : ℕ) (state : State) (w p : ℕ) (after : Seen) : Type 0 where
  orderly : OrderlyAs state w p
  ahead : is_going state ≡ true → reached p total sum ≡ false
  weight_is : after.weights ≡ s.weights + cond (is_free state) 0 w
  moment_is : after.moments ≡ s.moments + cond (is_free state) 0 (w * p)
  weight_high : cond (is_free state) 0 w ≤ max_weight
  moment_high : cond (is_free state) 0 (w * p) ≤ max_weight * ceiling
  nearest_less : after.nearest ≤ s.nearest
  nearest_is : is_going state ≡ true → after.nearest ≤ p
  takes : (eligible_as total sum state && leads terms s (bid_as state w p)) ≡ true → after.first ≡ Some (record { queue = at; bid = bid_as state w p })
  stays : (eligible_as total sum state && leads terms s (bid_as state w p)) ≡ false → after.first ≡ s.first

-- one row looked at: it is fine, and there is what it adds; or it is not, and there is nothing
record Says (terms : Terms) (total sum : ℕ) (s : Seen) (at : ℕ) (state : State) (w p : ℕ) (after : Option Seen) : Type 0 where
  fine : (next : Seen) → after ≡ Some next → Good terms total sum s at state w p next
  faulty : after ≡ None → OrderlyAs state w p → (is_going state ≡ true → reached p total sum ≡ false) → ⊥

says_by : (terms : Terms) (total sum : ℕ) (s : Seen) (at : ℕ) (state : State) (w p : ℕ) (b : Bool) (good : Seen) → (b ≡ true → Good terms total sum s at state w p good) → (b ≡ false → OrderlyAs state w p → (is_going state ≡ true → reached p total sum ≡ false) → ⊥) → Says terms total sum s at state w p (cond b (Some good) None)
says_by terms total sum s at state w p true good g f =
    record { fine = λ next e. subst (Good terms total sum s at state w p) (same_Some _ _ e) (g refl); faulty = λ e. absurd (none-some _ (sym e)) }
says_by terms total sum s at state w p false good g f = record { fine = λ next e. absurd (none-some _ e); faulty = λ e. f refl }

-- an asking row that bids, or does not
module _ (terms : Terms) (total sum : ℕ) (s : Seen) (at : ℕ) (w p : ℕ) (q : Rattle.rows.specs.declared.Request.Request) (h : OrderlyAs (Asking q) w p) where
  asks : (e l : Bool) → reached q.opening total sum ≡ e → leads terms s (bid_as (Asking q) w p) ≡ l → Good terms total sum s at (Asking q) w p (cond e (cond l (led_by (counting s w p) (record { queue = at; bid = bid_as (Asking q) w p })) (counting s w p)) (counting s w p))
  asks true true e l =
      record {
        orderly = h;
        ahead = λ g. absurd (clash g refl);
        weight_is = refl;
        moment_is = refl;
        weight_high = h.0.weight_high;
        moment_high = moment_fits h.0.weight_high h.0.position_high;
        nearest_less = omega arith;
        nearest_is = λ g. absurd (clash g refl);
        takes = λ b. refl;
        stays = λ b. absurd (clash (rw (e, l) refl) b);
      }
  asks true false e l =
      record {
        orderly = h;
        ahead = λ g. absurd (clash g refl);
        weight_is = refl;
        moment_is = refl;
        weight_high = h.0.weight_high;
        moment_high = moment_fits h.0.weight_high h.0.position_high;
        nearest_less = omega arith;
        nearest_is = λ g. absurd (clash g refl);
        takes = λ b. absurd (clash b (rw (e, l) refl));
        stays = λ b. refl;
      }
  asks false l e l_is =
      record {
        orderly = h;
        ahead = λ g. absurd (clash g refl);
        weight_is = refl;
        moment_is = refl;
        weight_high = h.0.weight_high;
        moment_high = moment_fits h.0.weight_high h.0.position_high;
        nearest_less = omega arith;
        nearest_is = λ g. absurd (clash g refl);
        takes = λ b. absurd (clash b (rw e refl));
        stays = λ b. refl;
      }

look_says : (terms : Terms) (total sum : ℕ) (s : Seen) (at : ℕ) (state : State) (w p : ℕ) → Says terms total sum s at state w p (seen_as terms total sum s at state w p)
unfolding seen_free seen_going seen_asking seen_bidding bidding leads
look_says terms total sum s at Free w p =
    says_by terms total sum s at Free w p (orderly_as Free w p) s
    (λ e. record {
      orderly = orderly_as_lem Free w p e;
      ahead = λ g. absurd (clash g refl);
      weight_is = omega arith;
      moment_is = omega arith;
      weight_high = omega arith;
      moment_high = omega arith;
      nearest_less = omega arith;
      nearest_is = λ g. absurd (clash g refl);
      takes = λ b. absurd (clash b refl);
      stays = λ b. refl;
    })
    (λ e o a. clash (as_orderly Free w p o) e)
look_says terms total sum s at Going w p =
    says_by terms total sum s at Going w p (every (orderly_as Going w p ∷ not (reached p total sum) ∷ [])) (passing (counting s w p) p)
    (λ e. let h = every_each _ e in
    let range = in_range_lem w p h.0 in
    record {
      orderly = range;
      ahead = λ g. not-true _ h.1.0;
      weight_is = refl;
      moment_is = refl;
      weight_high = range.weight_high;
      moment_high = moment_fits range.weight_high range.position_high;
      nearest_less = omega arith;
      nearest_is = λ g. omega arith;
      takes = λ b. absurd (clash b refl);
      stays = λ b. refl;
    })
    (λ e o a. clash (each_every _ (as_orderly Going w p o, (ap not (a refl), tt))) e)
look_says terms total sum s at (Asking q) w p =
    says_by terms total sum s at (Asking q) w p (orderly_as (Asking q) w p) (seen_bidding terms total sum (counting s w p) at q q.opening w p)
    (λ e. asks terms total sum s at w p q (orderly_as_lem (Asking q) w p e) (reached q.opening total sum) (leads terms s (bid_as (Asking q) w p)) refl refl)
    (λ e o a. clash (as_orderly (Asking q) w p o) e)

-- the row at i, and those after it
left_at : (t : Table) (i : ℕ) → i < length t.rows → drop i t.rows ≡ row t i ∷ drop (suc i) t.rows
unfolding row
left_at t i inside = drop-cons t.rows i blank inside

-- the walk compares with the best so far as the choice does
leads_better : (t : Table) (first : Option First) (r : Row) → ((f : First) → first ≡ Some f → f.bid ≡ bid (row t f.queue)) → leads_over t.head.terms first (bid r) ≡ better t r (first_queue first)
unfolding precedes
leads_better t None r best = refl
leads_better t (Some f) r best = ap (goes_before t.head.terms (bid r)) (best f refl)

module _ (t : Table) (i : ℕ) (s after : Seen) (inside : i < length t.rows) (old : Passed t i s) (good : Good t.head.terms t.head.total t.head.sum s i (row t i).state (row t i).weight (row t i).position after) where
  abbrev ahead_of_all : Bool
  ahead_of_all = eligible_as t.head.total t.head.sum (row t i).state && leads t.head.terms s (bid_as (row t i).state (row t i).weight (row t i).position)

  -- whether the row takes the best one's place
  same_test : ahead_of_all ≡ (eligible t (row t i) && better t (row t i) (first_queue s.first))
  unfolding eligible eligible_at bid leads
  same_test = ap (λ (b : Bool). eligible t (row t i) && b) (leads_better t s.first (row t i) old.best)

  first_after : (b : Bool) → ahead_of_all ≡ b → cond b (some i) (first_queue s.first) ≡ first_queue after.first
  first_after true e = rw (good.takes e) refl
  first_after false e = rw (good.stays e) refl

  rest_next : choose_from t (suc i) (drop (suc i) t.rows) (first_queue after.first) ≡ choice t
  rest_next =
      ap (choose_from t (suc i) (drop (suc i) t.rows))
      (sym (first_after ahead_of_all refl) ∙ ap (λ (b : Bool). cond b (some i) (first_queue s.first)) same_test)
      ∙ ap (λ (rs : List Row). choose_from t i rs (first_queue s.first)) (sym (left_at t i inside))
      ∙ old.rest

  best_next : (b : Bool) → ahead_of_all ≡ b → (f : First) → after.first ≡ Some f → f.bid ≡ bid (row t f.queue)
  unfolding bid
  best_next true e f is = subst (λ (x : First). x.bid ≡ bid (row t x.queue)) (same_Some _ _ (sym (good.takes e) ∙ is)) refl
  best_next false e f is = old.best f (sym (good.stays e) ∙ is)

  passed_next : Passed t (suc i) after
  unfolding weight_in moment_in
  passed_next =
      record {
        fine_below = below_next (λ j. Fine t (row t j)) i old.fine_below (record { orderly = good.orderly; ahead = good.ahead });
        weights_left = omega (arith, old.weights_left, good.weight_is, ap (sum_of weight_in) (left_at t i inside));
        moments_left = omega (arith, old.moments_left, good.moment_is, ap (sum_of moment_in) (left_at t i inside));
        nearest_below =
            below_next (λ j. is_going (row t j).state ≡ true → after.nearest ≤ (row t j).position) i
            (λ j h g. omega (arith, old.nearest_below j h g, good.nearest_less))
            (λ g. good.nearest_is g);
        rest = rest_next;
        best = best_next ahead_of_all refl;
      }

pub walk_starts : (t : Table) → SoFar t 0 unseen
unfolding true_total true_sum choice
walk_starts t =
    record {
      weights_most = omega arith;
      moments_most = omega arith;
      nearest_most = omega arith;
      passed =
          record {
            fine_below = λ j h. absurd (omega arith);
            weights_left = omega arith;
            moments_left = omega arith;
            nearest_below = λ j h. absurd (omega arith);
            rest = refl;
            best = λ f e. absurd (none-some _ e);
          };
    }

-- there is room for one row more
pub walk_room : {t : Table} {i : ℕ} {s : Seen} → SoFar t i s → i < queues → Roomy s
walk_room h below = record { weights_fit = omega (arith, h.weights_most); moments_fit = omega (arith, h.moments_most) }

-- one row more, which is fine or not
module _ (t : Table) (i : ℕ) (s : Seen) (one_each : length t.rows ≡ queues) (below : i < queues) where
  says : Says t.head.terms t.head.total t.head.sum s i (row t i).state (row t i).weight (row t i).position (seen_after t.head.terms t.head.total t.head.sum s i (row t i))
  unfolding seen_after
  says = look_says t.head.terms t.head.total t.head.sum s i (row t i).state (row t i).weight (row t i).position

  pub walk_next : (after : Seen) → seen_after t.head.terms t.head.total t.head.sum s i (row t i) ≡ Some after → SoFar t i s → SoFar t (suc i) after
  walk_next after e h =
      let good = says.fine after e in
      record {
        weights_most = omega (arith, h.weights_most, good.weight_is, good.weight_high);
        moments_most = omega (arith, h.moments_most, good.moment_is, good.moment_high);
        nearest_most = omega (arith, h.nearest_most, good.nearest_less);
        passed = passed_next t i s after (omega arith) h.passed good;
      }

  pub walk_stops : seen_after t.head.terms t.head.total t.head.sum s i (row t i) ≡ None → ((j : ℕ) → Fine t (row t j)) → ⊥
  walk_stops e fine = let at = fine i in says.faulty e at.orderly at.ahead

-- what the walk goes by, row by row
pub ruleset walking = (walk_starts, walk_room, walk_next, walk_stops)
