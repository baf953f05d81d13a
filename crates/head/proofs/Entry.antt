-- A newcomer enters at the least whole number not below V: rounding up by W - 1 before the division.
use mathlib.Core.Path.{◌≡◌}
use Prim.Native.Nat.{ℕ, ◌*◌, ◌≤◌, ◌<◌}
use native.Mathlib.Omega.{arith}
use borrow.Author.Tests.{eq-eqb, ne_eqb}
use Rattle.laws.proofs.Means.{round_up_not_below, round_up_least}
use Rattle.head.specs.declared.Head.{Head}
use Rattle.head.specs.Head.{is_empty, entry_empty, entry}

module _ (h : Head) where
  pub entry_empty_lem : h.total ≡ 0 → entry h ≡ entry_empty h
  unfolding entry is_empty
  entry_empty_lem e = simp (eq-eqb _ _ e)

  module _ (present : 0 < h.total) where
    -- not below V
    pub entry_not_below : h.sum ≤ entry h * h.total
    unfolding entry is_empty
    entry_not_below = simp (ne_eqb h.total 0 (λ e. omega arith)) (round_up_not_below h.sum h.total present)

    -- and no whole number that is not below V is less
    pub entry_least : (c : ℕ) → h.sum ≤ c * h.total → entry h ≤ c
    unfolding entry is_empty
    entry_least c l = simp (ne_eqb h.total 0 (λ e. omega arith)) (round_up_least h.sum h.total c present l)
