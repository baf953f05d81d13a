-- The events that move no V: a queue that leaves owing time and becomes going, a length, a slice given out or taken in, an empty table. A queue
-- that leaves and is owed time is freed, which is a departure like any other.
use mathlib.Core.Bool.{Bool, true, false, cond}
use mathlib.Core.Logic.{⊎_elim}
use mathlib.Core.Path.{◌≡◌, refl, sym, ◌∙◌}
use Prim.Native.Nat.{ℕ, zero, suc, ◌+◌, ◌*◌, ◌≤◌, ◌<◌}
use native.Mathlib.Omega.{arith}
use lib.ListN.{length, get_or, set, replicate, length-replicate, get_or-replicate, get_or-eq_default}
use Rattle.laws.specs.Lists.{sum_of}
use Rattle.laws.proofs.Tests.{clash, either, le_or_lt}
use Rattle.rows.specs.declared.Row.{Row}
use Rattle.rows.specs.declared.State.{State}
use Rattle.rows.specs.declared.State.TheVariants.{Free, Going, Asking}
use Rattle.rows.specs.declared.Terms.{Terms}
use Rattle.rows.specs.Numbers.{queues}
use Rattle.rows.specs.Requests.{next_set}
use Rattle.rows.specs.Row.{blank, is_free, is_asking, weight_in as weight_of_row, moment_in as moment_of_row}
use Rattle.rows.proofs.Virtual.{reached_yes, yes_reached}
use Rattle.rows.proofs.Shares.{asking_not_free}
use Rattle.head.specs.Head.{sliced, empty_head}
use Rattle.share.specs.declared.Table.{Table}
use Rattle.share.specs.Events.{empty_table, leaving}
use Rattle.share.specs.Release.{freed}
use Rattle.share.specs.Table.{row, true_total, true_sum, AtMostV, reached, placed, with_slice}
use Rattle.calls.proofs.OneDeparture.{weight_here}
use Rattle.fractions.proofs.Values.{value_nothing}
use Rattle.account.specs.Account.{Entry, absent, present, Account, entry, settled, going_away, no_one}
use Rattle.account.proofs.Match.{Alike, placed_total, placed_sum, set_both, match_set, blank_alike, placed_terms}
use Rattle.account.proofs.Releases.{settled_yes, yes_settled, present_inside, present_weighs, freed_tied, live_at}
use Rattle.account.proofs.Tied.{Held, Tied}
use Rattle.account.specs.Account as Acc

-- a slice given out or taken in
pub slice_tied : (t : Table) (a : Account) (out : Bool) (holder ticks : ℕ) → Tied t a → Tied (with_slice t out holder ticks) a
unfolding with_slice sliced row
slice_tied t a out holder ticks tied =
    record {
      same_terms = tied.same_terms;
      matched =
          record {
            rows_each = tied.matched.rows_each;
            entries_each = tied.matched.entries_each;
            sums = record { total_true = tied.matched.sums.total_true; sum_true = tied.matched.sums.sum_true };
            alike = tied.matched.alike;
          };
      live = λ h. record { clock = (tied.live h).clock; held = (tied.live h).held };
      rests = tied.rests;
    }

-- no row and no one
nothing_sums : (f : Row → ℕ) (n : ℕ) → f blank ≡ 0 → sum_of f (replicate n blank) ≡ 0
nothing_sums f zero h = refl
nothing_sums f (suc n) h = omega (arith, nothing_sums f n h)

pub at_replicate {ℓ} : {A : Type ℓ} (n j : ℕ) (d : A) → get_or (replicate n d) j d ≡ d
at_replicate n j d =
    ⊎_elim (λ past. get_or-eq_default (replicate n d) d (rw (length-replicate n d) past)) (λ l. get_or-replicate n j d d l) (le_or_lt n j)

pub fresh_tied : (terms : Terms) → Tied (empty_table terms) (no_one terms)
unfolding empty_table empty_head no_one row true_total true_sum weight_of_row moment_of_row
fresh_tied terms =
    record {
      same_terms = refl;
      matched =
          record {
            rows_each = length-replicate queues blank;
            entries_each = length-replicate queues absent;
            sums = record { total_true = sym (nothing_sums weight_of_row queues refl); sum_true = sym (nothing_sums moment_of_row queues refl) };
            alike = λ j. rw (at_replicate queues j blank, at_replicate queues j absent) blank_alike;
          };
      live = λ h. absurd (omega arith);
      rests = λ h. value_nothing 0 1 (omega arith);
    }

same_numbers : (x y w w' p p' : ℕ) → x + w * p ≡ y + w' * p' → w' ≡ w → p' ≡ p → x ≡ y
same_numbers x y w w' p p' e f g = let k : x + w * p ≡ y + w * p = rw (f, g) at e in omega arith

-- a row set to another of the same weight at the same position, in both
module _ (t : Table) (a : Account) (i : ℕ) (tied : Tied t a) (here : is_free (row t i).state ≡ false) (r : Row) (e : Entry) (same_part : weight_of_row r ≡ weight_of_row (row t i)) (same_place : r.position ≡ (row t i).position) (like : Alike r e) (keeps : (A W : ℕ) → Held A W (row t i) (entry a i) → Held A W r e) where
  inside : i < length t.rows
  inside = present_inside t i here

  W_same : (placed t i r).head.total ≡ t.head.total
  W_same = omega (arith, placed_total t i r tied.matched.sums inside)

  A_same : (placed t i r).head.sum ≡ t.head.sum
  A_same =
      same_numbers (placed t i r).head.sum t.head.sum (weight_of_row (row t i)) (weight_of_row r) (row t i).position r.position
      (placed_sum t i r tied.matched.sums inside) same_part same_place

  pub kept_tied : Tied (placed t i r) (record { entries = set a.entries i e; virtual = a.virtual; terms = a.terms })
  unfolding entry
  kept_tied =
      record {
        same_terms = tied.same_terms ∙ sym (placed_terms t i r);
        matched = match_set t a.entries i r e (omega (arith, inside, tied.matched.rows_each)) like tied.matched;
        live =
            λ h.
            let live = tied.live (omega (arith, W_same)) in
            record {
              clock = rw (W_same, A_same) live.clock;
              held =
                  set_both (Held (placed t i r).head.sum (placed t i r).head.total) t a.entries i r e inside
                  (omega (arith, inside, tied.matched.rows_each, tied.matched.entries_each))
                  (rw (W_same, A_same) (keeps t.head.sum t.head.total (live.held i)))
                  (λ j. rw (W_same, A_same) (live.held j));
            };
        rests = λ none. absurd (omega (arith, W_same, present_weighs t a tied i here));
      }

-- a queue that leaves owing time
abbrev gone : Row → Row
gone r = record { weight = r.weight; position = r.position; state = Going }

gone_alike : (r : Row) (e : Entry) → is_free r.state ≡ false → Alike r e → Alike (gone r) (going_away e)
unfolding weight_of_row
gone_alike r absent here h = absurd (clash h.free here)
gone_alike r (present q) here h =
    record {
      free = refl;
      going = refl;
      weight = sym (weight_here r here) ∙ h.weight;
      weighs = λ k. rw (weight_here r here) at (h.weighs here);
      request = tt;
    }

gone_held : (r : Row) (e : Entry) (A W : ℕ) → is_free r.state ≡ false → Held A W r e → Held A W (gone r) (going_away e)
unfolding weight_of_row
gone_held r absent A W here h =
    record { lags = rw (weight_here r here) at h.lags; bounded = tt }
gone_held r (present q) A W here h =
    record { lags = rw (weight_here r here) at h.lags; bounded = rw (weight_here r here) at h.bounded }

going_part : (r : Row) → is_free r.state ≡ false → weight_of_row (gone r) ≡ weight_of_row r
unfolding weight_of_row
going_part r here = sym (weight_here r here)

entry_alike : (t : Table) (a : Account) (i : ℕ) → Tied t a → Alike (row t i) (entry a i)
unfolding entry
entry_alike t a i tied = tied.matched.alike i

freeing : (t : Table) (a : Account) (i : ℕ) → Tied t a → is_free (row t i).state ≡ false → AtMostV t (row t i).position → Tied (placed t i blank) (Acc.freed a i)
unfolding freed
freeing t a i tied here level = freed_tied t a i tied here level

module _ (t : Table) (a : Account) (i : ℕ) (tied : Tied t a) (asks : is_asking (row t i).state ≡ true) where
  here : is_free (row t i).state ≡ false
  here = asking_not_free (row t i).state asks

  -- the sign of the account is the table's test
  pub settled_is : settled (entry a i) ≡ reached t (row t i).position
  unfolding entry
  settled_is = ⊎_elim owed owing (either (reached t (row t i).position))
    where
      held : Held t.head.sum t.head.total (row t i) (get_or a.entries i absent)
      held = (live_at t a tied i here).held i

      weighs : 1 ≤ weight_of_row (row t i)
      weighs = (tied.matched.alike i).weighs here

      owed : reached t (row t i).position ≡ true → settled (get_or a.entries i absent) ≡ reached t (row t i).position
      owed e = settled_yes held weighs (reached_yes (row t i).position t.head.total t.head.sum e) ∙ sym e

      owing : reached t (row t i).position ≡ false → settled (get_or a.entries i absent) ≡ reached t (row t i).position
      owing e =
          ⊎_elim (λ k. absurd (clash (yes_reached (row t i).position t.head.total t.head.sum (yes_settled held weighs k)) e)) (λ k. k ∙ sym e)
          (either (settled (get_or a.entries i absent)))

  pub left_tied : Tied (placed t i (leaving t (row t i))) (Acc.left a i)
  unfolding Acc.left leaving entry
  left_tied = rw settled_is (by (reached t (row t i).position) refl)
    where
      by : (b : Bool) → reached t (row t i).position ≡ b → Tied (placed t i (cond b blank (gone (row t i)))) (cond b (Acc.freed a i) (record { entries = set a.entries i (going_away (get_or a.entries i absent)); virtual = a.virtual; terms = a.terms }))
      by true e = freeing t a i tied here (reached_yes (row t i).position t.head.total t.head.sum e)
      by false e =
          kept_tied t a i tied here (gone (row t i)) (going_away (get_or a.entries i absent)) (going_part (row t i) here) refl
          (gone_alike (row t i) (get_or a.entries i absent) here (tied.matched.alike i))
          (λ A W. gone_held (row t i) (get_or a.entries i absent) A W here)

-- a length for the next request
abbrev next_row : Row → ℕ → Row
next_row r n = record { weight = r.weight; position = r.position; state = next_set r.state n }

next_free : (s : State) (n w : ℕ) → cond (is_free (next_set s n)) 0 w ≡ cond (is_free s) 0 w
next_free Free n w = refl
next_free Going n w = refl
next_free (Asking q) n w = refl

next_part : (r : Row) (n : ℕ) → weight_of_row (next_row r n) ≡ weight_of_row r
unfolding weight_of_row
next_part r n = next_free r.state n r.weight

next_alike : (s : State) (w p n : ℕ) (e : Entry) → Alike (record { weight = w; position = p; state = s }) e → Alike (record { weight = w; position = p; state = next_set s n }) (Acc.next_set e n)
unfolding weight_of_row
next_alike Free w p n absent h = h
next_alike Free w p n (present q) h = record { free = h.free; going = h.going; weight = h.weight; weighs = h.weighs; request = tt }
next_alike Going w p n absent h = h
next_alike Going w p n (present q) h = record { free = h.free; going = h.going; weight = h.weight; weighs = h.weighs; request = tt }
next_alike (Asking r) w p n absent h = record { free = h.free; going = h.going; weight = h.weight; weighs = h.weighs; request = tt }
next_alike (Asking r) w p n (present q) h =
    record {
      free = h.free;
      going = h.going;
      weight = h.weight;
      weighs = h.weighs;
      request =
          record {
            same_length = h.request.same_length;
            same_served = h.request.same_served;
            same_next = refl;
            no_longer = h.request.no_longer;
          };
    }

next_held : (r : Row) (n : ℕ) (e : Entry) (A W : ℕ) → Held A W r e → Held A W (next_row r n) (Acc.next_set e n)
next_held r n absent A W h = record { lags = rw (next_part r n) h.lags; bounded = tt }
next_held r n (present q) A W h = record { lags = rw (next_part r n) h.lags; bounded = rw (next_part r n) h.bounded }

pub lengthened_tied : (t : Table) (a : Account) (i n : ℕ) → Tied t a → is_asking (row t i).state ≡ true → Tied (placed t i (next_row (row t i) n)) (Acc.lengthened a i n)
unfolding Acc.lengthened entry
lengthened_tied t a i n tied asks =
    kept_tied t a i tied (asking_not_free (row t i).state asks) (next_row (row t i) n) (Acc.next_set (get_or a.entries i absent) n)
    (next_part (row t i) n) refl
    (next_alike (row t i).state (row t i).weight (row t i).position n (get_or a.entries i absent) (tied.matched.alike i))
    (λ A W. next_held (row t i) n (get_or a.entries i absent) A W)
