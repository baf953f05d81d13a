-- No going row stands before a position that V has not reached: then none is ready.
use mathlib.Core.Path.{◌≡◌, refl, subst⁻¹, ◌∙◌}
use mathlib.Core.Bool.{true, false}
use Prim.Native.Nat.{ℕ, ◌*◌, ◌≤◌, ◌<◌}
use native.Mathlib.Decide.{ℕ_discrete}
use native.Mathlib.Nat.{mul-le-mul_right}
use native.Mathlib.Omega.{arith}
use lib.ListN.{length}
use Rattle.laws.proofs.Tests.{clash}
use Rattle.rows.specs.declared.Row.{Row}
use Rattle.rows.specs.Row.{blank, is_going}
use Rattle.share.specs.declared.Table.{Table}
use Rattle.share.specs.Asks.{Placing, Ahead, Settling, Leaves}
use Rattle.share.specs.Release.{freed, Frees, done, one}
use Rattle.share.specs.Sound.{Calm}
use Rattle.rows.proofs.Virtual.{yes_reached}
use Rattle.share.specs.Table.{row, AtMostV, placed}
use Rattle.share.specs.Events.{leaving, left}
use Rattle.share.proofs.Keeps.{placed_keeps}
use Rattle.share.proofs.Departing.{placed_out}
use Rattle.share.proofs.Placed.{placed_same, placed_other}
use Rattle.share.proofs.Release.{freed_same, freed_other, released_frees}

module _ (t : Table) (nearest : ℕ) (s : Settling t nearest) where
  pub settling_calm : t.head.sum < nearest * t.head.total → Calm t
  settling_calm h i r = omega (arith, r.level, mul-le-mul_right t.head.total (s.ahead.before i r.going))

ahead_row : (t : Table) (i : ℕ) (r : Row) (nearest : ℕ) → i < length t.rows → Ahead t nearest → (is_going r.state ≡ true → nearest ≤ r.position) → (j : ℕ) → Dec (j ≡ i) → is_going (row (placed t i r) j).state ≡ true → nearest ≤ (row (placed t i r) j).position
ahead_row t i r nearest inside ahead new j (yes e) =
    subst⁻¹ (λ (k : ℕ). is_going (row (placed t i r) k).state ≡ true → nearest ≤ (row (placed t i r) k).position) e
    (subst⁻¹ (λ (x : Row). is_going x.state ≡ true → nearest ≤ x.position) (placed_same t i r inside) new)
ahead_row t i r nearest inside ahead new j (no apart) =
    subst⁻¹ (λ (x : Row). is_going x.state ≡ true → nearest ≤ x.position) (placed_other t i r j apart) (ahead.before j)

-- after a row was placed that is not going, or not before the position
pub placed_settling : (t : Table) (i : ℕ) (r : Row) (nearest : ℕ) → Placing t i r → t.head.out ≡ false → Ahead t nearest → (is_going r.state ≡ true → nearest ≤ r.position) → Settling (placed t i r) nearest
placed_settling t i r nearest p still ahead new =
    record {
      orderly = placed_keeps t i r still p.orderly p.inside p.new;
      still = placed_out t i r ∙ still;
      ahead =
          record {
            nearest_high = ahead.nearest_high;
            before = λ j. ahead_row t i r nearest (omega (arith, p.inside, p.orderly.one_each)) ahead new j (ℕ_discrete j i);
          };
    }

-- a position before another is ahead too
pub ahead_less : (t : Table) (nearest less : ℕ) → less ≤ nearest → Ahead t nearest → Ahead t less
ahead_less t nearest less h ahead = record { nearest_high = omega (arith, ahead.nearest_high); before = λ i g. omega (arith, ahead.before i g) }

-- a release frees rows and moves none
freed_ahead : (t : Table) (i nearest : ℕ) → Ahead t nearest → Ahead (freed t i) nearest
freed_ahead t i nearest ahead = record { nearest_high = ahead.nearest_high; before = λ j. by j (ℕ_discrete j i) }
  where
    by : (j : ℕ) → Dec (j ≡ i) → is_going (row (freed t i) j).state ≡ true → nearest ≤ (row (freed t i) j).position
    by j (yes e) =
        subst⁻¹ (λ (k : ℕ). is_going (row (freed t i) k).state ≡ true → nearest ≤ (row (freed t i) k).position) e
        (subst⁻¹ (λ (x : Row). is_going x.state ≡ true → nearest ≤ x.position) (freed_same t i) (λ g. absurd (clash g refl)))
    by j (no apart) = subst⁻¹ (λ (x : Row). is_going x.state ≡ true → nearest ≤ x.position) (freed_other t i j apart) (ahead.before j)

pub frees_ahead : {t u : Table} (nearest : ℕ) → Frees t u → Ahead t nearest → Ahead u nearest
frees_ahead nearest (done calm) ahead = ahead
frees_ahead {t} nearest (one i r rest) ahead = frees_ahead nearest rest (freed_ahead t i nearest ahead)

-- a queue that was freed leaves no going row behind
pub left_ahead : (t : Table) (queue nearest : ℕ) → Leaves t queue → AtMostV t (row t queue).position → Ahead t nearest → Ahead (left t queue) nearest
unfolding left leaving
left_ahead t queue nearest l owed ahead =
    frees_ahead nearest (released_frees (placed t queue (leaving t (row t queue))))
    (rw (yes_reached (row t queue).position t.head.total t.head.sum owed)
    (placed_settling t queue blank nearest (record { orderly = l.was_sound.orderly_table; inside = l.inside; new = (refl, refl) }) l.still ahead
    (λ g. absurd (clash g refl))).ahead)
