-- Whether the resting position is in order is decided by its test: a law each way. And what it is once a row has left.
use mathlib.Core.Path.{◌≡◌}
use mathlib.Core.Bool.{true, cond}
use mathlib.Core.Logic.{⊎_elim}
use Prim.Native.Nat.{ℕ, ◌≤◌, ◌<◌}
use native.Mathlib.Omega.{arith}
use lib.Dec.{leb, eqb}
use borrow.Author.Tests.{eq-eqb, ne_eqb, eqb-true, leb-true, le-leb}
use Rattle.laws.proofs.Tests.{le_or_lt}
use Rattle.rows.specs.Numbers.{ceiling}
use Rattle.head.specs.declared.Head.{Head}
use Rattle.head.specs.Head.{is_empty}
use Rattle.head.specs.Rest.{rest_after, OrderlyRest, orderly_rest}

module _ (total position : ℕ) where
  pub rest_last : total ≡ 0 → rest_after total position ≡ position
  unfolding rest_after
  rest_last none = simp (eq-eqb _ _ none)

  pub rest_others : 0 < total → rest_after total position ≡ 0
  unfolding rest_after
  rest_others some = simp (ne_eqb total 0 (λ e. omega arith))

module _ (h : Head) where
  pub rest_says : orderly_rest h ≡ true → OrderlyRest h
  unfolding orderly_rest is_empty
  rest_says e = ⊎_elim present empty (le_or_lt 1 h.total)
    where
      present : 1 ≤ h.total → OrderlyRest h
      present some =
          let is : h.resting ≡ 0 = eqb-true _ _ (rw (ne_eqb h.total 0 (λ none. omega arith)) at e) in
          record { rest_high = omega arith; only_empty = λ k. is }

      empty : h.total < 1 → OrderlyRest h
      empty none =
          let is : h.total ≡ 0 = omega arith in
          record { rest_high = leb-true _ _ (rw (eq-eqb _ _ is) at e); only_empty = λ k. absurd (omega arith) }

  pub says_rest : OrderlyRest h → orderly_rest h ≡ true
  unfolding orderly_rest is_empty
  says_rest o = ⊎_elim present empty (le_or_lt 1 h.total)
    where
      present : 1 ≤ h.total → cond (eqb h.total 0) (leb h.resting ceiling) (eqb h.resting 0) ≡ true
      present some = simp (ne_eqb h.total 0 (λ none. omega arith)) (eq-eqb _ _ (o.only_empty some))

      empty : h.total < 1 → cond (eqb h.total 0) (leb h.resting ceiling) (eqb h.resting 0) ≡ true
      empty none = let is : h.total ≡ 0 = omega arith in simp (eq-eqb _ _ is) (le-leb _ _ o.rest_high)
