-- What the changes of a table may rest on: the row that each puts in another's place is orderly, and no going row stands before the position that is told
-- when the release begins.
use mathlib.Core.Path.{◌≡◌, refl}
use mathlib.Core.Bool.{Bool, false}
use Prim.Native.Nat.{ℕ}
use native.Mathlib.Omega.{arith}
use Rattle.std.specs.Prelude.{min}
use Rattle.laws.proofs.Tests.{clash}
use Rattle.rows.specs.declared.Row.{Row}
use Rattle.rows.specs.declared.State.TheVariants.{Going}
use Rattle.rows.specs.Requests.{entering, row_next_set, charged}
use Rattle.rows.specs.Row.{blank}
use Rattle.rows.specs.Virtual.{reached}
use Rattle.rows.proofs.Requests.{entering_orderly, asking_range, next_orderly}
use Rattle.rows.proofs.Virtual.{reached_no}
use Rattle.head.specs.Head.{entry, sliced}
use Rattle.share.specs.declared.Table.{Table}
use Rattle.share.specs.Asks.{Ahead, Placing, Settling, Joins, Leaves, Lengthens, Returns}
use Rattle.share.specs.Events.{meant}
use Rattle.share.specs.Release.{released, done}
use Rattle.share.specs.Table.{row, placed, with_slice}
use Rattle.share.proofs.Charges.{return_charges, return_places, return_asks, slice_ahead}
use Rattle.share.proofs.Release.{frees_released}
use Rattle.share.proofs.Settling.{placed_settling, ahead_less, settling_calm}
use Rattle.share.proofs.Totals.{entry_high, head_small, total_most, weighed}

-- where V has not reached the position there is nothing to release
pub nothing_ready : (t : Table) (nearest : ℕ) → Settling t nearest → reached nearest t.head.total t.head.sum ≡ false → t ≡ released t
nothing_ready t nearest s e = frees_released (weighed s.orderly) (done (settling_calm t nearest s (reached_no _ _ _ e)))

-- a queue that enters
module _ (t : Table) (queue weight length : ℕ) (j : Joins t queue weight length) where
  abbrev newcomer : Row
  newcomer = entering weight (entry t.head) (meant t length)

  pub entering_places : Placing t queue newcomer
  entering_places =
      let o = j.was_sound.orderly_table in
      record {
        orderly = o;
        inside = j.inside;
        new =
            entering_orderly t.head.terms weight (entry t.head) length o.terms_allowed
            (record { weight_low = j.weight_low; weight_high = j.weight_high; position_high = entry_high t o })
            j.length_high;
      }

  pub entering_settles : (nearest : ℕ) → Ahead t nearest → Settling (placed t queue newcomer) nearest
  unfolding entering
  entering_settles nearest ahead = placed_settling t queue newcomer nearest entering_places j.still ahead (λ g. absurd (clash g refl))

-- a queue that leaves: it is freed, or it goes and keeps its weight
module _ (t : Table) (queue : ℕ) (l : Leaves t queue) where
  abbrev gone : Row
  gone = record { weight = (row t queue).weight; position = (row t queue).position; state = Going }

  pub freeing_places : Placing t queue blank
  freeing_places = record { orderly = l.was_sound.orderly_table; inside = l.inside; new = (refl, refl) }

  pub freeing_settles : (nearest : ℕ) → Ahead t nearest → Settling (placed t queue blank) nearest
  freeing_settles nearest ahead = placed_settling t queue blank nearest freeing_places l.still ahead (λ g. absurd (clash g refl))

  pub going_places : Placing t queue gone
  going_places =
      let o = l.was_sound.orderly_table in
      let r = row t queue in
      record { orderly = o; inside = l.inside; new = asking_range r.state r.weight r.position l.asks (o.each queue) }

  pub going_settles : (nearest : ℕ) → Ahead t nearest → Settling (placed t queue gone) (min nearest (row t queue).position)
  going_settles nearest ahead = placed_settling t queue gone _ going_places l.still (ahead_less t nearest _ (omega arith) ahead) (λ g. omega arith)

-- a row with another next length
pub lengthening_places : (t : Table) (queue length : ℕ) → Lengthens t queue length → Placing t queue (row_next_set (row t queue) (meant t length))
unfolding row_next_set
lengthening_places t queue length l =
    let o = l.leaves.was_sound.orderly_table in
    let r = row t queue in
    record {
      orderly = o;
      inside = l.leaves.inside;
      new = next_orderly t.head.terms r.state r.weight r.position length o.terms_allowed l.length_high (o.each queue);
    }

-- the holder's row, charged
pub returning_settles : (t : Table) (queue used : ℕ) (early : Bool) (nearest : ℕ) → Returns t queue used → Ahead t nearest → Settling (placed (with_slice t false 0 0) queue (charged (row t queue) used early)) nearest
unfolding with_slice sliced
returning_settles t queue used early nearest r ahead =
    placed_settling (with_slice t false 0 0) queue (charged (row t queue) used early) nearest (return_places t queue used r early) refl
    (slice_ahead t false 0 0 nearest ahead) (λ g. absurd (clash g (return_asks t queue used r early)))

-- what the changes of a table go by
pub ruleset enters = (head_small, entering_places, entering_settles)

pub ruleset departs = (total_most, freeing_places, freeing_settles, going_places, going_settles)

pub ruleset returns = (return_charges, return_places, returning_settles)
