-- The choice is the rule's: a walk that keeps the best row so far ends with a row that meets the rule. All it asks of the order is that it is
-- strict and that of three rows the middle one goes before the last or after the first.
use mathlib.Core.Path.{◌≡◌, refl, ap}
use mathlib.Core.Bool.{Bool, true, false, cond, ◌&&◌}
use mathlib.Core.List.{List, [], ◌∷◌}
use mathlib.Core.Logic.{⊎_elim}
use mathlib.Core.Option.{Option, none, some}
use Prim.Native.Nat.{ℕ, zero, suc, ◌+◌, ◌≤◌, ◌<◌}
use native.Mathlib.Nat.{add-zero, zero-add, add-suc, suc-add}
use native.Mathlib.Omega.{arith}
use lib.ListN.{length, get_or}
use Rattle.laws.proofs.Tests.{clash, refuted, le_or_lt, and_left, and_right, and_second, below_next}
use Rattle.rows.specs.declared.Row.{Row}
use Rattle.rows.specs.Row.{blank}
use Rattle.rows.specs.Virtual.{eligible_at}
use Rattle.rows.specs.Order.{bid}
use Rattle.rows.proofs.Order.{strict}
use Rattle.share.specs.declared.Table.{Table}
use Rattle.share.specs.Table.{row}
use Rattle.share.specs.Choice.{eligible, precedes, Chosen, better, choose_from, choice}
use Rattle.share.proofs.Sound.{row_past}

-- the order's three laws, of rows
precedes_irrefl : (t : Table) (a : Row) → precedes t a a ≡ true → ⊥
unfolding precedes
precedes_irrefl t a = (strict t.head.terms).irrefl (bid a)

precedes_trans : (t : Table) (a b c : Row) → precedes t a b ≡ true → precedes t b c ≡ true → precedes t a c ≡ true
unfolding precedes
precedes_trans t a b c = (strict t.head.terms).trans (bid a) (bid b) (bid c)

precedes_between : (t : Table) (a b c : Row) → precedes t a c ≡ true → precedes t a b ≡ false → precedes t b c ≡ true
unfolding precedes
precedes_between t a b c = (strict t.head.terms).between (bid a) (bid b) (bid c)

and_true : (a : Bool) → a && true ≡ false → a ≡ false
and_true true e = e
and_true false e = refl

-- of the rows below n, this one meets the rule
record Leads (t : Table) (n b : ℕ) : Type 0 where
  inside : b < n
  asks : eligible t (row t b) ≡ true
  least : (j : ℕ) → j < n → eligible t (row t j) ≡ true → precedes t (row t j) (row t b) ≡ false
  lowest : (j : ℕ) → j < n → eligible t (row t j) ≡ true → precedes t (row t b) (row t j) ≡ false → b ≤ j

abbrev Best : Table → ℕ → Option ℕ → Type 0
Best t n none = (j : ℕ) → j < n → eligible t (row t j) ≡ false
Best t n (some b) = Leads t n b

module _ (t : Table) (n : ℕ) where
  -- the row at n takes over
  takes_over : (best : Option ℕ) → eligible t (row t n) ≡ true → better t (row t n) best ≡ true → Best t n best → Best t (suc n) (some n)
  takes_over none asks ahead before =
      record {
        inside = omega arith;
        asks = asks;
        least = below_next _ n (λ j l e. absurd (clash e (before j l))) (λ e. refuted _ (precedes_irrefl t (row t n)));
        lowest = below_next _ n (λ j l e. absurd (clash e (before j l))) (λ e p. omega arith);
      }
  takes_over (some b) asks ahead before =
      record {
        inside = omega arith;
        asks = asks;
        least =
            below_next _ n
            (λ j l e. refuted _ (λ p. clash (precedes_trans t (row t j) (row t n) (row t b) p ahead) (before.least j l e)))
            (λ e. refuted _ (precedes_irrefl t (row t n)));
        lowest =
            below_next _ n
            (λ j l e p. absurd (clash (precedes_between t (row t n) (row t j) (row t b) ahead p) (before.least j l e)))
            (λ e p. omega arith);
      }

  -- the row at n does not: it is not eligible, or does not go before the best
  passed_over : (best : Option ℕ) → (eligible t (row t n) && better t (row t n) best) ≡ false → Best t n best → Best t (suc n) best
  passed_over none stays before = below_next (λ j. eligible t (row t j) ≡ false) n before (and_true (eligible t (row t n)) stays)
  passed_over (some b) stays before =
      record {
        inside = omega (arith, before.inside);
        asks = before.asks;
        least = below_next _ n before.least (λ e. and_second (eligible t (row t n)) _ e stays);
        lowest = below_next _ n before.lowest (λ e p. omega (arith, before.inside));
      }

  turn : (best : Option ℕ) → Best t n best → Best t (suc n) (cond (eligible t (row t n) && better t (row t n) best) (some n) best)
  turn best before = by (eligible t (row t n) && better t (row t n) best) refl
    where
      by : (b : Bool) → (eligible t (row t n) && better t (row t n) best) ≡ b → Best t (suc n) (cond b (some n) best)
      by true e = takes_over best (and_left _ _ e) (and_right (eligible t (row t n)) _ e) before
      by false e = passed_over best e before

-- the walk, from the rows that are left
walk : (t : Table) (i : ℕ) (rs : List Row) (best : Option ℕ) → ((k : ℕ) → get_or rs k blank ≡ row t (i + k)) → Best t i best → Best t (i + length rs) (choose_from t i rs best)
walk t i [] best at before = rw add-zero before
walk t i (r ∷ rs) best at before =
    let here : r ≡ row t i = rw add-zero at (at zero) in
    rw (add-suc, ← suc-add)
    (walk t (suc i) rs (cond (eligible t r && better t r best) (some i) best) (λ k. rw (suc-add, ← add-suc) (at (suc k))) (rw here (turn t i best before)))

choice_leads : (t : Table) → Best t (length t.rows) (choice t)
unfolding choice row
choice_leads t = rw zero-add at (walk t 0 t.rows none (λ k. rw zero-add refl) (λ j h. absurd (omega arith)))

pub eligible_inside : (t : Table) (j : ℕ) → eligible t (row t j) ≡ true → j < length t.rows
unfolding eligible eligible_at
eligible_inside t j e =
    ⊎_elim (λ past. absurd (clash e (ap (eligible t) (row_past t j past)))) (λ l. l) (le_or_lt (length t.rows) j)

leads_chosen : (t : Table) (b : ℕ) → Leads t (length t.rows) b → Chosen t b
leads_chosen t b h =
    record {
      asks = h.asks;
      least = λ j e. h.least j (eligible_inside t j e) e;
      lowest = λ j e p. h.lowest j (eligible_inside t j e) e p;
    }

by_choice : (t : Table) (o : Option ℕ) → Best t (length t.rows) o → (i : ℕ) → o ≡ some i → Chosen t i
by_choice t none h i e = let z : ◌≡◌ {A = ℕ} 0 1 = cc in absurd (omega arith)
by_choice t (some b) h i e = let same : b ≡ i = cc in rw (← same) (leads_chosen t b h)

-- what the function finds meets the rule
pub choice_chosen : (t : Table) (i : ℕ) → choice t ≡ some i → Chosen t i
choice_chosen t i e = by_choice t (choice t) (choice_leads t) i e

by_none : (t : Table) (o : Option ℕ) → Best t (length t.rows) o → o ≡ none → (i : ℕ) → eligible t (row t i) ≡ true → ⊥
by_none t none h e i asks = clash asks (h i (eligible_inside t i asks))
by_none t (some b) h e i asks = let z : ◌≡◌ {A = ℕ} 0 1 = cc in omega arith

-- it finds one where a row is eligible at all
pub choice_none : (t : Table) → choice t ≡ none → (i : ℕ) → eligible t (row t i) ≡ true → ⊥
choice_none t e i asks = by_none t (choice t) (choice_leads t) e i asks
