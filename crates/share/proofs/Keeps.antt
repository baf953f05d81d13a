-- Soundness is kept. Putting an orderly row in place keeps a table orderly; a release only puts free rows in place and ends calm; so each event's
-- part is that the row it places is orderly.
use mathlib.Core.Path.{◌≡◌, refl, subst, subst⁻¹, ◌∙◌}
use mathlib.Core.Bool.{Bool, false}
use mathlib.Core.Logic.{⊎_elim}
use Prim.Native.Nat.{ℕ, ◌<◌}
use native.Mathlib.Decide.{ℕ_discrete}
use native.Mathlib.Omega.{arith}
use Rattle.laws.proofs.Tests.{le_or_lt}
use Rattle.rows.specs.declared.Row.{Row}
use Rattle.rows.specs.Numbers.{queues}
use Rattle.rows.specs.Row.{blank}
use Rattle.rows.specs.Orderly.{OrderlyRow}
use Rattle.rows.proofs.Shares.{position_small}
use Rattle.head.specs.declared.Head.{Head}
use Rattle.head.specs.Head.{summed}
use Rattle.head.specs.Rest.{OrderlyRest}
use Rattle.head.specs.Slice.{OrderlySlice}
use Rattle.share.specs.declared.Table.{Table}
use Rattle.share.specs.Table.{row, placed}
use Rattle.share.specs.Sound.{held, Orderly, Calm, Sound}
use Rattle.share.specs.Release.{freed, Frees, done, one, released}
use Rattle.share.proofs.Placed.{placed_length, placed_same, placed_other, placed_true, placed_rests, placed_goes_on}
use Rattle.share.proofs.Release.{released_frees, ready_inside}
use Rattle.share.proofs.Totals.{sums_true}

-- with no slice out, holder and ticks are zero whatever the rows are
no_slice : (h : Head) (r : Row) → h.out ≡ false → OrderlySlice h h.out r → (h.holder ≡ 0) × (h.ticks ≡ 0)
no_slice h r e o = subst (λ (out : Bool). OrderlySlice h out r) e o

slice_none : (h : Head) (r : Row) → h.out ≡ false → (h.holder ≡ 0) × (h.ticks ≡ 0) → OrderlySlice h h.out r
slice_none h r e o = subst⁻¹ (λ (out : Bool). OrderlySlice h out r) e o

each_placed : (t : Table) (i : ℕ) (r : Row) → Orderly t → i < queues → OrderlyRow r → (j : ℕ) → Dec (j ≡ i) → OrderlyRow (row (placed t i r) j)
each_placed t i r h inside new j (yes e) =
    subst⁻¹ (λ (k : ℕ). OrderlyRow (row (placed t i r) k)) e (subst⁻¹ OrderlyRow (placed_same t i r (omega (arith, h.one_each))) new)
each_placed t i r h inside new j (no apart) = subst⁻¹ OrderlyRow (placed_other t i r j apart) (h.each j)

rest_placed : (t : Table) (i : ℕ) (r : Row) → OrderlyRow (row t i) → OrderlyRest (placed t i r).head
rest_placed t i r old =
    record {
      rest_high =
          ⊎_elim (λ some. omega (arith, placed_goes_on t i r some)) (λ none. omega (arith, placed_rests t i r (omega arith), position_small (row t i) old))
          (le_or_lt 1 (placed t i r).head.total);
      only_empty = placed_goes_on t i r;
    }

-- an orderly row in the place of another, no slice being out
pub placed_keeps : (t : Table) (i : ℕ) (r : Row) → t.head.out ≡ false → Orderly t → i < queues → OrderlyRow r → Orderly (placed t i r)
unfolding placed summed
placed_keeps t i r still h inside new =
    let sums = placed_true t i r (omega (arith, h.one_each)) (sums_true h) in
    record {
      one_each = placed_length t i r ∙ h.one_each;
      terms_allowed = h.terms_allowed;
      each = λ j. each_placed t i r h inside new j (ℕ_discrete j i);
      total_true = sums.total_true;
      sum_true = sums.sum_true;
      rest = rest_placed t i r (h.each i);
      slice = slice_none (placed t i r).head (held (placed t i r)) still (no_slice t.head (held t) still h.slice);
    }

pub freed_keeps : (t : Table) (i : ℕ) → t.head.out ≡ false → Orderly t → i < queues → Orderly (freed t i)
unfolding freed
freed_keeps t i still h inside = placed_keeps t i blank still h inside (refl, refl)

pub still_freed : (t : Table) (i : ℕ) → (freed t i).head.out ≡ t.head.out
unfolding freed placed summed
still_freed t i = refl

pub frees_calm : {t u : Table} → Frees t u → Calm u
frees_calm (done calm) = calm
frees_calm (one i r rest) = frees_calm rest

pub frees_keeps : {t u : Table} → Frees t u → t.head.out ≡ false → Orderly t → Orderly u
frees_keeps (done calm) still h = h
frees_keeps {t} (one i r rest) still h =
    frees_keeps rest (still_freed t i ∙ still) (freed_keeps t i still h (subst (λ (n : ℕ). i < n) h.one_each (ready_inside t i r)))

-- a release makes an orderly table sound
pub release_sound : (t : Table) → t.head.out ≡ false → Orderly t → Sound (released t)
release_sound t still h =
    let way = released_frees t in
    record { orderly_table = frees_keeps way still h; no_one_ready = frees_calm way }
