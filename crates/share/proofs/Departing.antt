-- What code rests on between the halves of a reweight: a queue that left leaves a sound table, where it may join again.
use mathlib.Core.Path.{◌≡◌, refl, subst⁻¹, ◌∙◌}
use mathlib.Core.Bool.{Bool, true, false, cond}
use Prim.Native.Nat.{ℕ, ◌<◌}
use native.Mathlib.Decide.{ℕ_discrete}
use native.Mathlib.Omega.{arith}
use lib.ListN.{length}
use Rattle.rows.specs.declared.Row.{Row}
use Rattle.rows.specs.declared.State.TheVariants.{Going}
use Rattle.rows.specs.Row.{blank, is_free, is_asking}
use Rattle.rows.specs.Orderly.{OrderlyRow}
use Rattle.rows.proofs.Requests.{asking_range}
use Rattle.rows.proofs.Virtual.{yes_reached}
use Rattle.head.specs.Head.{summed}
use Rattle.share.specs.declared.Table.{Table}
use Rattle.share.specs.Asks.{Joins, Leaves, Reweights}
use Rattle.share.specs.Table.{row, placed, AtMostV, reached}
use Rattle.share.specs.Sound.{Sound}
use Rattle.share.specs.Release.{freed, Frees, done, one}
use Rattle.share.specs.Events.{leaving, left}
use Rattle.share.proofs.Placed.{placed_same}
use Rattle.share.proofs.Release.{freed_same, freed_other, released_frees}
use Rattle.share.proofs.Keeps.{placed_keeps, release_sound}

pub leaving_orderly : (t : Table) (r : Row) → is_asking r.state ≡ true → OrderlyRow r → OrderlyRow (leaving t r)
unfolding leaving
leaving_orderly t r asks h = by (reached t r.position)
  where
    by : (b : Bool) → OrderlyRow (cond b blank (record { weight = r.weight; position = r.position; state = Going }))
    by true = (refl, refl)
    by false = asking_range r.state r.weight r.position asks h

pub placed_out : (t : Table) (i : ℕ) (r : Row) → (placed t i r).head.out ≡ t.head.out
unfolding placed summed
placed_out t i r = refl

pub frees_out : {t u : Table} → Frees t u → u.head.out ≡ t.head.out
unfolding freed placed summed
frees_out (done calm) = refl
frees_out (one i r rest) = frees_out rest

pub left_sound : (t : Table) (queue : ℕ) → Leaves t queue → Sound (left t queue)
unfolding left
left_sound t queue l =
    let o = l.was_sound.orderly_table in
    let r = leaving t (row t queue) in
    release_sound (placed t queue r) (placed_out t queue r ∙ l.still)
    (placed_keeps t queue r l.still o l.inside (leaving_orderly t (row t queue) l.asks (o.each queue)))

-- a release leaves a free row free
freed_free : (t : Table) (i j : ℕ) → is_free (row t j).state ≡ true → Dec (j ≡ i) → is_free (row (freed t i) j).state ≡ true
freed_free t i j free (yes e) = subst⁻¹ (λ (k : ℕ). is_free (row (freed t i) k).state ≡ true) e (rw (freed_same t i) refl)
freed_free t i j free (no apart) = rw (freed_other t i j apart) free

pub frees_free : {t u : Table} (j : ℕ) → Frees t u → is_free (row t j).state ≡ true → is_free (row u j).state ≡ true
frees_free j (done calm) free = free
frees_free {t} j (one i r rest) free = frees_free j rest (freed_free t i j free (ℕ_discrete j i))

-- a queue that leaves while V has reached it is freed at once
pub left_free : (t : Table) (queue : ℕ) → Leaves t queue → AtMostV t (row t queue).position → is_free (row (left t queue) queue).state ≡ true
unfolding left leaving
left_free t queue l owed =
    let inside : queue < length t.rows = omega (arith, l.inside, l.was_sound.orderly_table.one_each) in
    frees_free queue (released_frees (placed t queue (leaving t (row t queue))))
    (rw (placed_same t queue (leaving t (row t queue)) inside, yes_reached (row t queue).position t.head.total t.head.sum owed) refl)

-- so the second half of a reweight is an accepted join
pub rejoins : (t : Table) (queue weight length : ℕ) → Reweights t queue weight length → Joins (left t queue) queue weight length
unfolding left
rejoins t queue weight length r =
    record {
      was_sound = left_sound t queue r.leaves;
      inside = r.leaves.inside;
      weight_low = r.weight_low;
      weight_high = r.weight_high;
      length_high = r.length_high;
      still = frees_out (released_frees (placed t queue (leaving t (row t queue)))) ∙ placed_out t queue _ ∙ r.leaves.still;
      free = left_free t queue r.leaves r.owed;
    }
