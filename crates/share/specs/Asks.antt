-- What the private functions that carry out an event ask for; the calls have it from the refusals that did not apply.
use Rattle.std.specs.Prelude.{◌≡◌, ◌⊎◌, true, false, ℕ, ◌≤◌, ◌<◌}
use Rattle.rows.specs.declared.Row.{Row}
use Rattle.rows.specs.Numbers.{queues, max_weight, max_length}
use Rattle.rows.specs.Row.{is_free, is_going, is_asking}
use Rattle.rows.specs.Orderly.{OrderlyRow}
use Rattle.rows.specs.Looks.{beyond}
use Rattle.head.specs.Refusals.{may_use, ceiling_passed}
use Rattle.share.specs.declared.Table.{Table}
use Rattle.share.specs.Table.{row, AtMostV}
use Rattle.share.specs.Sound.{Orderly, Sound, Calm}
use Rattle.share.specs.Release.{Frees, released}
use Rattle.share.specs.Events.{chosen}

pub record Placing (t : Table) (queue : ℕ) (r : Row) : Type 0 where
  pub orderly : Orderly t
  pub inside : queue < queues
  pub new : OrderlyRow r

pub record Releasing (t : Table) : Type 0 where
  pub orderly : Orderly t
  pub still : t.head.out ≡ false

-- no going row stands before this position
pub record Ahead (t : Table) (nearest : ℕ) : Type 0 where
  pub nearest_high : nearest ≤ beyond
  pub before : (i : ℕ) → is_going (row t i).state ≡ true → nearest ≤ (row t i).position

pub record Settling (t : Table) (nearest : ℕ) : Type 0 where
  pub orderly : Orderly t
  pub still : t.head.out ≡ false
  pub ahead : Ahead t nearest

-- what an accepted call may rest on
pub record Joins (t : Table) (queue weight length : ℕ) : Type 0 where
  pub was_sound : Sound t
  pub inside : queue < queues
  pub weight_low : 1 ≤ weight
  pub weight_high : weight ≤ max_weight
  pub length_high : length ≤ max_length
  pub still : t.head.out ≡ false
  pub free : is_free (row t queue).state ≡ true

pub record Leaves (t : Table) (queue : ℕ) : Type 0 where
  pub was_sound : Sound t
  pub inside : queue < queues
  pub still : t.head.out ≡ false
  pub asks : is_asking (row t queue).state ≡ true

pub record Reweights (t : Table) (queue weight length : ℕ) : Type 0 where
  pub leaves : Leaves t queue
  pub weight_low : 1 ≤ weight
  pub weight_high : weight ≤ max_weight
  pub length_high : length ≤ max_length
  pub owed : AtMostV t (row t queue).position

pub record Lengthens (t : Table) (queue length : ℕ) : Type 0 where
  pub leaves : Leaves t queue
  pub length_high : length ≤ max_length

pub record Grants (t : Table) : Type 0 where
  pub was_sound : Sound t
  pub still : t.head.out ≡ false
  pub present : 0 < t.head.total
  pub fits : ceiling_passed (row t (chosen t)) ≡ false

pub record Returns (t : Table) (queue used : ℕ) : Type 0 where
  pub was_sound : Sound t
  pub inside : queue < queues
  pub held : t.head.out ≡ true
  pub holds : queue ≡ t.head.holder
  pub within : used ≤ may_use t.head.ticks

-- What one pass of the release leaves: what is left to free ends where all of it would, and either W has fallen or nothing is ready.
pub record PassedOver (t u : Table) : Type 0 where
  pub releasing : Releasing u
  pub way : Frees u (released t)
  pub fallen : (u.head.total < t.head.total) ⊎ Calm u
