-- A pass of the release walk, from the top. What is left to free ends where all of it would, whatever was freed so far; and either W has fallen, or the table is
-- as the pass found it and the rows passed are not ready.
use mathlib.Core.Path.{◌≡◌, refl, ap, subst, subst⁻¹, ◌∙◌}
use mathlib.Core.Logic.{◌⊎◌, ⊎_elim}
use Prim.Native.Nat.{ℕ, ◌-◌, ◌≤◌, ◌<◌}
use native.Mathlib.Decide.{ℕ_discrete}
use native.Mathlib.Omega.{arith}
use Rattle.share.specs.declared.Table.{Table}
use Rattle.share.specs.Asks.{Releasing}
use Rattle.share.specs.Release.{freed, Frees, released}
use Rattle.share.specs.Sound.{Ready, Calm}
use Rattle.share.proofs.Keeps.{freed_keeps, still_freed}
use Rattle.share.proofs.Release.{any_first, released_frees, frees_released, same_end, freed_less, ready_inside}
use Rattle.share.proofs.Sound.{ready_says, says_ready}
use Rattle.share.proofs.Totals.{total_most, weighed}

-- t₀ is the table that the pass began with, and the rows from i on are passed
pub record Passing (t₀ t : Table) (i : ℕ) : Type 0 where
  pub inside : i ≤ 64
  pub releasing : Releasing t
  pub way : Frees t (released t₀)
  pub so_far : (t.head.total < t₀.head.total) ⊎ ((t ≡ t₀) × ((j : ℕ) → i ≤ j → Ready t₀ j → ⊥))

pub pass_begins : (t : Table) → Releasing t → Passing t t 64
pass_begins t r =
    record {
      inside = omega arith;
      releasing = r;
      way = released_frees t;
      so_far = ◌⊎◌.inr (refl, λ j l ready. omega (arith, ready_inside t j ready, r.orderly.one_each));
    }

-- the next row: it is freed,
pub pass_frees : (t₀ t : Table) (i : ℕ) → Passing t₀ t i → 0 < i → Ready t (i - 1) → Passing t₀ (freed t (i - 1)) (i - 1)
pass_frees t₀ t i inv some r =
    let o = inv.releasing.orderly in
    let less = freed_less t (i - 1) (weighed o) r in
    record {
      inside = omega (arith, inv.inside);
      releasing =
          record {
            orderly = freed_keeps t (i - 1) inv.releasing.still o (omega (arith, inv.inside));
            still = still_freed t (i - 1) ∙ inv.releasing.still;
          };
      way = any_first (i - 1) (weighed o) r inv.way;
      so_far = ◌⊎◌.inl (⊎_elim (λ fell. omega (arith, less)) (λ same. omega (arith, less, ap (λ (x : Table). x.head.total) same.0)) inv.so_far);
    }

-- or it is not ready, and then it was not when the pass began, if nothing was freed since
pub pass_leaves : (t₀ t : Table) (i : ℕ) → Passing t₀ t i → 0 < i → (Ready t (i - 1) → ⊥) → Passing t₀ t (i - 1)
pass_leaves t₀ t i inv some not_ready =
    record {
      inside = omega (arith, inv.inside);
      releasing = inv.releasing;
      way = inv.way;
      so_far = ⊎_elim (λ fell. ◌⊎◌.inl fell) (λ same. ◌⊎◌.inr (same.0, λ j l r. by same.0 same.1 j l r (ℕ_discrete j (i - 1)))) inv.so_far;
    }
  where
    by : t ≡ t₀ → ((j : ℕ) → i ≤ j → Ready t₀ j → ⊥) → (j : ℕ) → i - 1 ≤ j → Ready t₀ j → Dec (j ≡ i - 1) → ⊥
    by same later j l r (yes e) = not_ready (subst⁻¹ (λ (x : Table). Ready x (i - 1)) same (subst (Ready t₀) e r))
    by same later j l r (no apart) = later j (omega arith) r

-- a pass that is over and left W as it was found nothing to free
pub pass_over : (t₀ t : Table) → Passing t₀ t 0 → (t.head.total < t₀.head.total) ⊎ Calm t
pass_over t₀ t inv =
    ⊎_elim (λ fell. ◌⊎◌.inl fell) (λ same. ◌⊎◌.inr (subst⁻¹ Calm same.0 (λ j r. same.1 j (omega arith) r))) inv.so_far

-- what a pass goes by, row by row, and what the release goes by, pass by pass
pub ruleset passing = (pass_begins, pass_frees, pass_leaves, pass_over, total_most, ready_says, says_ready)

pub ruleset releasing = (total_most, weighed, released_frees, frees_released, same_end)
