-- A return: every row gains its part of the ticks and the holder loses them all, which is the move of V and of the holder's position. The holder's
-- request opened at or below V and is not overrun, so the holder ends less than that request ahead of V, which has risen.
use mathlib.Core.Bool.{Bool, true, false, cond, ◌||◌}
use mathlib.Core.List.{List}
use mathlib.Core.Logic.{⊎_elim}
use mathlib.Core.Path.{◌≡◌, refl, ap, sym, subst, ◌∙◌}
use Prim.Native.Nat.{ℕ, ◌+◌, ◌*◌, ◌≤◌, ◌<◌}
use native.Mathlib.Nat.{mul-pos, mul-le-mul_left, mul-le-mul_right}
use native.Mathlib.Omega.{arith}
use lib.Dec.{leb}
use lib.ListN.{length, get_or, set}
use Rattle.laws.proofs.Tests.{clash, le_or_lt}
use Rattle.rows.specs.declared.Request.{Request}
use Rattle.rows.specs.declared.Row.{Row}
use Rattle.rows.specs.declared.State.TheVariants.{Asking}
use Rattle.rows.specs.Numbers.{queues, unit, max_weight, step_of}
use Rattle.rows.specs.Requests.{opened, served_to, charged}
use Rattle.rows.specs.Row.{position_of, charged_to, weight_in as weight_of_row}
use Rattle.rows.proofs.Steps.{weight_times_step}
use Rattle.share.specs.declared.Table.{Table}
use Rattle.share.specs.Table.{row, placed}
use Rattle.share.proofs.Placed.{weight_within}
use Rattle.fractions.specs.Fraction.{whole, ◌⊕◌, portion}
use Rattle.fractions.proofs.Values.{value_whole, value_minus, value_sum, value_change}
use Rattle.account.specs.Account.{Entry, absent, present, Queue, Account, all_gain, reopened, served_more}
use Rattle.account.proofs.Match.{Alike, Match, same_weight, placed_total, placed_sum, set_both, match_set, match_gain, credited_alike, placed_terms}
use Rattle.account.proofs.Tied.{Held, Live, Tied, Moves, moved_clock, moved}
use Rattle.account.specs.Account as Acc

abbrev asking : ℕ → ℕ → Request → Row
asking w p q = record { weight = w; position = p; state = Asking q }

-- the account's request follows the row's
request_alike : (b : Bool) (w p p' : ℕ) (q : Request) (e : Queue) (used : ℕ) → Alike (asking w p q) (present e) → Alike (record { weight = w; position = p'; state = Asking (cond b (opened p' q.next) (record { opening = q.opening; length = q.length; served = q.served + used; next = q.next })) }) (present (cond b (reopened e) (served_more e used)))
unfolding opened weight_of_row
request_alike true w p p' q e used h =
    record {
      free = refl;
      going = h.going;
      weight = h.weight;
      weighs = h.weighs;
      request = record { same_length = h.request.same_next; same_served = refl; same_next = h.request.same_next; no_longer = omega arith };
    }
request_alike false w p p' q e used h =
    record {
      free = refl;
      going = h.going;
      weight = h.weight;
      weighs = h.weighs;
      request =
          record {
            same_length = h.request.same_length;
            same_served = ap (λ (k : ℕ). k + used) h.request.same_served;
            same_next = h.request.same_next;
            no_longer = h.request.no_longer;
          };
    }

charged_alike : (w p : ℕ) (q : Request) (e : Entry) (used : ℕ) (early : Bool) → Alike (asking w p q) e → Alike (charged (asking w p q) used early) (Acc.charged e used early)
unfolding charged served_to
charged_alike w p q absent used early h = absurd (clash refl (sym h.free))
charged_alike w p q (present e) used early h =
    let test : (early || leb q.length (q.served + used)) ≡ (early || leb e.length (e.served + used)) =
    rw (h.request.same_length, h.request.same_served) refl in
    rw test
    (credited_alike _ (present (Acc.requested e used early)) _
    (request_alike (early || leb e.length (e.served + used)) w p (charged_to w p used) q e used h))

-- numbers alone: w at p in W, charged u ticks of step s, with w x s = U
lag_numbers : (A W U w p s u : ℕ) → w * s ≡ U → (w * A * 1 + 0 * (W * U)) * (W * U) + w * (W * (p + u * s)) * (W * U * 1) ≡ w * A * (W * U * 1) + (w * (W * p) * 1 + u * (W * U)) * (W * U)
lag_numbers A W U w p s u e = rw (← e) (omega arith)

longest_kept : (b : Bool) (e : Queue) (used : ℕ) → e.longest ≤ (cond {A = Queue} b (reopened e) (served_more e used)).longest
longest_kept true e used = omega arith
longest_kept false e used = omega arith

owed_kept : (b : Bool) (e : Queue) (used : ℕ) → (cond {A = Queue} b (reopened e) (served_more e used)).owed ≡ e.owed
owed_kept true e used = refl
owed_kept false e used = refl

-- the holder's request opened at o, at most V, and has served n of its ticks before these u
record Holds (A W A' w p u : ℕ) (q : Request) : Type 0 where
  opens : q.opening * W ≤ A
  stands : p ≡ q.opening + q.served * step_of w
  fits : q.served + u ≤ q.length
  step : w * step_of w ≡ unit
  weighs : 1 ≤ w
  charge : A' ≡ A + u * unit

-- the bound after the charge: nothing used, or V has risen
none_used : (A W U w p s l l' : ℕ) → l ≤ l' → w * (W * p) < w * A + l * (W * U) → w * (W * (p + 0 * s)) < w * A + l' * (W * U)
none_used A W U w p s l l' h b = omega (arith, mul-le-mul_right (W * U) h)

some_used : (A W A' U w o s n u m l : ℕ) → o * W ≤ A → n + u ≤ m → m ≤ l → w * s ≡ U → 1 ≤ w → A' ≡ A + u * U → 0 < U → 0 < u → w * (W * (o + n * s + u * s)) < w * A' + l * (W * U)
some_used A W A' U w o s n u m l opens fits longest step weighs charge wide used =
    let far : w * (W * (o + n * s + u * s)) ≡ w * (o * W) + (n + u) * (W * U) = rw (← step) (omega arith) in
    let risen : w * A' ≡ w * A + w * (u * U) = rw charge (omega arith) in
    let longer : n + u ≤ l = omega arith in
    close far risen (mul-le-mul_left w opens) (mul-le-mul_right (W * U) longer) (mul-pos weighs (mul-pos used wide))
  where
    close : w * (W * (o + n * s + u * s)) ≡ w * (o * W) + (n + u) * (W * U) → w * A' ≡ w * A + w * (u * U) → w * (o * W) ≤ w * A → (n + u) * (W * U) ≤ l * (W * U) → 0 < w * (u * U) → w * (W * (o + n * s + u * s)) < w * A' + l * (W * U)
    close x y z v k = omega arith

charged_bound : {A W A' w p u : ℕ} {q : Request} (l l' : ℕ) → Holds A W A' w p u q → q.length ≤ l → l ≤ l' → w * (W * p) < w * A' + l * (W * unit) → w * (W * (p + u * step_of w)) < w * A' + l' * (W * unit)
charged_bound {A} {W} {A'} {w} {p} {u} {q} l l' h a b c = ⊎_elim some none (le_or_lt 1 u)
  where
    some : 1 ≤ u → w * (W * (p + u * step_of w)) < w * A' + l' * (W * unit)
    some k =
        rw h.stands
        (some_used A W A' unit w q.opening (step_of w) q.served u q.length l' h.opens h.fits (omega arith) h.step h.weighs h.charge
        (omega arith) k)

    none : u < 1 → w * (W * (p + u * step_of w)) < w * A' + l' * (W * unit)
    none k = let z : u ≡ 0 = omega arith in rw z (none_used A' W unit w p (step_of w) l l' b c)

charged_weight : (w p : ℕ) (q : Request) (u : ℕ) (early : Bool) → weight_of_row (charged (asking w p q) u early) ≡ w
unfolding weight_of_row charged served_to
charged_weight w p q u early = refl

charged_held : {A W A' w p u : ℕ} {q : Request} (e : Entry) (early : Bool) → Holds A W A' w p u q → Alike (asking w p q) e → Held A' W (asking w p q) e → Held A' W (charged (asking w p q) u early) (Acc.charged e u early)
unfolding charged served_to charged_to weight_of_row
charged_held absent early h k l = absurd (clash refl (sym k.free))
charged_held {A} {W} {A'} {w} {p} {u} {q} (present e) early h k l =
    record {
      lags =
          rw (charged_weight w p q u early, owed_kept (early || leb e.length (e.served + u)) e u)
          (value_change l.lags.positive (lag_numbers A' W unit w p (step_of w) u h.step)
          (value_sum l.lags (value_minus (value_whole u))));
      bounded =
          rw (charged_weight w p q u early)
          (charged_bound e.longest (Acc.requested e u early).longest h (rw k.request.same_length k.request.no_longer)
          (longest_kept (early || leb e.length (e.served + u)) e u) l.bounded);
    }

charge_numbers : (A A' w p s U u : ℕ) → A' + w * p ≡ A + w * (p + u * s) → w * s ≡ U → A' ≡ A + u * U
charge_numbers A A' w p s U u e step = rw (← step) (omega arith)

-- what the table knows of the holder at a return of so many ticks
pub record Charges (t : Table) (w p used : ℕ) (q : Request) : Type 0 where
  pub opens : q.opening * t.head.total ≤ t.head.sum
  pub stands : p ≡ position_of w q
  pub fits : q.served + used ≤ q.length
  pub light : 1 ≤ w
  pub heavy : w ≤ max_weight

module _ (t : Table) (a : Account) (i used : ℕ) (early : Bool) (w p : ℕ) (q : Request) (tied : Tied t a) (at : row t i ≡ asking w p q) (numbered : i < queues) (c : Charges t w p used q) where
  inside : i < length t.rows
  inside = omega (arith, tied.matched.rows_each)

  r : Row
  r = charged (asking w p q) used early

  u : Table
  u = placed t i r

  row_weight : weight_of_row (row t i) ≡ w
  unfolding weight_of_row
  row_weight = ap weight_of_row at

  W_same : u.head.total ≡ t.head.total
  unfolding u r
  W_same = omega (arith, placed_total t i r tied.matched.sums inside, row_weight, charged_weight w p q used early)

  A_charged : u.head.sum ≡ t.head.sum + used * unit
  unfolding u r charged charged_to
  A_charged =
      let e = placed_sum t i r tied.matched.sums inside in
      charge_numbers t.head.sum u.head.sum w p (step_of w) unit used
      (rw (row_weight, ap (λ (x : Row). x.position) at, charged_weight w p q used early) at e)
      (weight_times_step w c.light c.heavy)

  gained : List Entry
  gained = all_gain (whole used) t.head.total a.entries

  gained_match : Match t gained
  unfolding gained
  gained_match = match_gain (whole used) t.head.total tied.matched

  holder_alike : Alike (asking w p q) (get_or gained i absent)
  holder_alike = subst (λ (x : Row). Alike x (get_or gained i absent)) at (gained_match.alike i)

  moves : 0 < u.head.total → Moves t.head.sum t.head.total u.head.sum u.head.total (whole used) t.head.total
  moves h =
      let before : 0 < t.head.total = omega (arith, W_same) in
      record {
        plus = used;
        less = 0;
        base = 1;
        amount = value_whole used;
        shared = before;
        before = before;
        after = h;
        move = rw (W_same, A_charged) (omega arith);
        rises = rw (W_same, A_charged) (omega arith);
      }

  holds : Holds t.head.sum u.head.total u.head.sum w p used q
  unfolding position_of
  holds =
      record {
        opens = rw W_same c.opens;
        stands = c.stands;
        fits = c.fits;
        step = weight_times_step w c.light c.heavy;
        weighs = c.light;
        charge = A_charged;
      }

  alive : 0 < u.head.total → Live u (record { entries = set gained i (Acc.charged (get_or gained i absent) used early); virtual = a.virtual ⊕ portion (whole used) unit t.head.total; terms = a.terms })
  unfolding u r gained
  alive h =
      let m = moves h in
      let live = tied.live m.before in
      let all = moved m tied.matched live.held in
      record {
        clock = moved_clock m live.clock;
        held =
            set_both (Held u.head.sum u.head.total) t gained i r (Acc.charged (get_or gained i absent) used early) inside
            (omega (arith, gained_match.entries_each))
            (charged_held (get_or gained i absent) early holds holder_alike
            (subst (λ (x : Row). Held u.head.sum u.head.total x (get_or gained i absent)) at (all i)))
            all;
      }

  pub returned_tied : Tied (placed t i (charged (asking w p q) used early)) (Acc.returned a i used early)
  unfolding u r gained Acc.returned
  returned_tied =
      rw (same_weight tied.matched)
      (record {
        same_terms = tied.same_terms ∙ sym (placed_terms t i r);
        matched =
            match_set t gained i r (Acc.charged (get_or gained i absent) used early) numbered
            (charged_alike w p q (get_or gained i absent) used early holder_alike) gained_match;
        live = alive;
        rests = λ none. absurd (omega (arith, W_same, row_weight, weight_within t i tied.matched.sums inside, c.light));
      })
