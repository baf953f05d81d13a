-- The rule names one queue: only one row meets it, that row is what the choice finds, and it has the least deadline; ties go by the table's rule.
use mathlib.Core.Bool.{true, false}
use mathlib.Core.Option.{Option, none, some}
use mathlib.Core.Logic.{⊎_elim}
use mathlib.Core.Path.{◌≡◌, refl, ap, sym, ◌∙◌}
use Prim.Native.Nat.{ℕ, ◌≤◌}
use native.Mathlib.Nat.{le_antisymm}
use native.Mathlib.Omega.{arith}
use borrow.Author.Tests.{le-ltb}
use Rattle.laws.proofs.Tests.{clash, refuted}
use Rattle.rows.specs.declared.Row.{Row}
use Rattle.rows.specs.declared.State.{State}
use Rattle.rows.specs.declared.State.TheVariants.{Free, Going, Asking}
use Rattle.rows.specs.Order.{bid_of, bid_as, bid, sooner_or_behind}
use Rattle.rows.specs.Virtual.{eligible_as, eligible_at}
use Rattle.rows.proofs.Order.{rule_1, rule_2, not_before, not_behind, behind_says}
use Rattle.share.specs.declared.Table.{Table}
use Rattle.share.specs.Choice.{eligible, deadline, precedes, Chosen, choice}
use Rattle.share.specs.Table.{row}
use Rattle.share.proofs.Choice.{choice_chosen, choice_none}

-- only one row meets the rule: of two, neither goes before the other, so each number is at most the other
pub chosen_only : (t : Table) (i j : ℕ) → Chosen t i → Chosen t j → i ≡ j
chosen_only t i j a b =
    le_antisymm (a.lowest j b.asks (b.least i a.asks)) (b.lowest i a.asks (a.least j b.asks))

-- and what meets the rule is what the function finds
pub chosen_choice : (t : Table) (i : ℕ) → Chosen t i → choice t ≡ some i
chosen_choice t i h = by (choice t) refl
  where
    by : (o : Option ℕ) → choice t ≡ o → choice t ≡ some i
    by none e = absurd (choice_none t e i h.asks)
    by (some b) e = e ∙ ap some (chosen_only t b i (choice_chosen t b e) h)

-- an eligible row bids with its own position
bid_at : (total sum : ℕ) (s : State) (w p : ℕ) → eligible_as total sum s ≡ true → (bid_as s w p).position ≡ p
unfolding bid_of
bid_at total sum Free w p e = absurd (clash e refl)
bid_at total sum Going w p e = absurd (clash e refl)
bid_at total sum (Asking q) w p e = refl

stands_at : (t : Table) (r : Row) → eligible t r ≡ true → (bid r).position ≡ r.position
unfolding eligible eligible_at bid
stands_at t r e = bid_at t.head.total t.head.sum r.state r.weight r.position e

-- the rule in the documents' words: under both rules the least deadline,
module _ (t : Table) (i j : ℕ) (h : Chosen t i) (e : eligible t (row t j) ≡ true) where
  pub least_deadline : deadline (row t i) ≤ deadline (row t j)
  unfolding precedes deadline
  least_deadline = not_before t.head.terms (bid (row t j)) (bid (row t i)) (h.least j e)

  module _ (same : deadline (row t j) ≡ deadline (row t i)) where
    -- and of equal ones under rule 1 the lowest number,
    pub lowest_number : t.head.terms.rule ≡ 1 → i ≤ j
    unfolding precedes deadline
    lowest_number is =
        h.lowest j e (rule_1 t.head.terms (bid (row t i)) (bid (row t j)) is ∙ le-ltb (bid (row t i)).deadline (bid (row t j)).deadline (omega (arith, same)))

    -- under rule 2 the lesser position,
    pub lesser_position : t.head.terms.rule ≡ 2 → (row t i).position ≤ (row t j).position
    unfolding precedes deadline
    lesser_position is =
        let not_first : sooner_or_behind (bid (row t j)) (bid (row t i)) ≡ false = sym (rule_2 t.head.terms (bid (row t j)) (bid (row t i)) is) ∙ h.least j e in
        ⊎_elim (λ less. absurd (omega (arith, same))) (λ tie. omega (arith, tie.1, stands_at t (row t i) h.asks, stands_at t (row t j) e))
        (not_behind (bid (row t j)) (bid (row t i)) not_first)

    -- and then the lowest number
    pub then_lowest : t.head.terms.rule ≡ 2 → (row t j).position ≡ (row t i).position → i ≤ j
    unfolding precedes deadline
    then_lowest is level =
        h.lowest j e
        (rule_2 t.head.terms (bid (row t i)) (bid (row t j)) is
        ∙ refuted (sooner_or_behind (bid (row t i)) (bid (row t j)))
        (λ p. ⊎_elim (λ less. omega (arith, same)) (λ tie. omega (arith, tie.1, level, stands_at t (row t i) h.asks, stands_at t (row t j) e))
        (behind_says (bid (row t i)) (bid (row t j)) p)))
