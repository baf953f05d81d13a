-- Soundness is decided by its test: for each notion of specs/Sound a law from the test to the record and one back.
use mathlib.Core.Path.{◌≡◌, refl, ap, subst⁻¹}
use mathlib.Core.Bool.{true, not}
use mathlib.Core.Logic.{⊎_elim}
use Prim.Native.Nat.{ℕ, ◌≤◌, ◌<◌}
use lib.ListN.{length, get_or-eq_default}
use borrow.Author.Tests.{eq-eqb, eqb-true, not-true}
use Rattle.laws.proofs.Tests.{clash, refuted, every_each, each_every, all_at, at_all, le_or_lt}
use Rattle.rows.specs.declared.Row.{Row}
use Rattle.rows.specs.Row.{blank, is_going}
use Rattle.rows.specs.Orderly.{OrderlyRow, orderly_row}
use Rattle.rows.proofs.Orderly.{orderly_row_lem, row_orderly, allowed_says, says_allowed}
use Rattle.rows.proofs.Virtual.{ready_is_going, ready_is_reached, is_ready}
use Rattle.head.proofs.Rest.{rest_says, says_rest}
use Rattle.head.proofs.Slice.{orderly_slice_lem, slice_orderly}
use Rattle.share.specs.declared.Table.{Table}
use Rattle.share.specs.Table.{row}
use Rattle.share.specs.Sound.{held, Orderly, orderly, Ready, ready, Calm, calm, Sound, sound}

-- past the last row there is none, which is orderly
pub row_past : (t : Table) (i : ℕ) → length t.rows ≤ i → row t i ≡ blank
unfolding row
row_past t i h = get_or-eq_default t.rows blank h

module _ {ℓ} (t : Table) (P : Row → Type ℓ) (past : P blank) (inside : (i : ℕ) → i < length t.rows → P (row t i)) where
  -- what holds of a free row and of each row of the table holds of every row number
  pub every_row : (i : ℕ) → P (row t i)
  every_row i =
      ⊎_elim (λ beyond. subst⁻¹ P (row_past t i beyond) past) (inside i) (le_or_lt (length t.rows) i)

pub orderly_says : (t : Table) → orderly t ≡ true → Orderly t
unfolding orderly row
orderly_says t e =
    let h = every_each _ e in
    record {
      one_each = eqb-true _ _ h.0;
      terms_allowed = allowed_says t.head.terms h.1.0;
      each = every_row t OrderlyRow (refl, refl) (λ i l. orderly_row_lem _ (all_at orderly_row t.rows h.1.1.0 blank i l));
      total_true = eqb-true _ _ h.1.1.1.0;
      sum_true = eqb-true _ _ h.1.1.1.1.0;
      rest = rest_says t.head h.1.1.1.1.1.0;
      slice = orderly_slice_lem t.head t.head.out (held t) h.1.1.1.1.1.1.0;
    }

pub says_orderly : (t : Table) → Orderly t → orderly t ≡ true
unfolding orderly row
says_orderly t h =
    each_every _ (
      eq-eqb _ _ h.one_each,
      (
        says_allowed t.head.terms h.terms_allowed,
        (
          at_all orderly_row t.rows blank (λ i l. row_orderly _ (h.each i)),
          (
            eq-eqb _ _ h.total_true,
            (
              eq-eqb _ _ h.sum_true,
              (says_rest t.head h.rest, (slice_orderly t.head t.head.out (held t) h.slice, tt)),
            ),
          ),
        ),
      ),
    )

pub ready_says : (t : Table) (i : ℕ) → ready t (row t i) ≡ true → Ready t i
unfolding ready
ready_says t i e =
    record { going = ready_is_going t.head.total t.head.sum (row t i) e; level = ready_is_reached t.head.total t.head.sum (row t i) e }

pub says_ready : (t : Table) (i : ℕ) → Ready t i → ready t (row t i) ≡ true
unfolding ready
says_ready t i h = is_ready t.head.total t.head.sum (row t i) h.going h.level

pub calm_says : (t : Table) → calm t ≡ true → Calm t
unfolding calm row
calm_says t e i r =
    ⊎_elim (λ beyond. clash r.going (ap (λ (x : Row). is_going x.state) (row_past t i beyond)))
    (λ l. clash (says_ready t i r) (not-true _ (all_at (λ x. not (ready t x)) t.rows e blank i l)))
    (le_or_lt (length t.rows) i)

pub says_calm : (t : Table) → Calm t → calm t ≡ true
unfolding calm row
says_calm t h = at_all (λ x. not (ready t x)) t.rows blank (λ i l. ap not (refuted (ready t (row t i)) (λ e. h i (ready_says t i e))))

pub sound_says : (t : Table) → sound t ≡ true → Sound t
unfolding sound
sound_says t e = let h = every_each _ e in record { orderly_table = orderly_says t h.0; no_one_ready = calm_says t h.1.0 }

pub says_sound : (t : Table) → Sound t → sound t ≡ true
unfolding sound
says_sound t h = each_every _ (says_orderly t h.orderly_table, (says_calm t h.no_one_ready, tt))
