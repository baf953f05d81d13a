-- Document 01, "A sound table": what it asks of the table as a whole, with what rows' Orderly and head's Slice ask of a row and of the slice. Each notion
-- has two faces: the test that is computed and the record that a person reads. `proofs/Sound.antt` has a law each way.
use Rattle.std.specs.Prelude.{◌≡◌, Bool, true, not, [], ◌∷◌, ℕ, eqb, length}
use Rattle.laws.specs.Lists.{every, all}
use Rattle.rows.specs.declared.Row.{Row}
use Rattle.rows.specs.Numbers.{queues}
use Rattle.rows.specs.Row.{is_going}
use Rattle.rows.specs.Virtual.{ready_at}
use Rattle.rows.specs.Orderly.{OrderlyRow, orderly_row, Allowed, allowed}
use Rattle.head.specs.Rest.{OrderlyRest, orderly_rest}
use Rattle.head.specs.Slice.{OrderlySlice, orderly_slice}
use Rattle.share.specs.declared.Table.{Table}
use Rattle.share.specs.Table.{row, true_total, true_sum, AtMostV}

-- the row of the queue that holds the slice
abbrev pub held : Table → Row
held t = row t t.head.holder

-- A sound table but for going rows that V has reached: what stands before a release.
pub record Orderly (t : Table) : Type 0 where
  pub one_each : length t.rows ≡ queues
  pub terms_allowed : Allowed t.head.terms
  pub each : (i : ℕ) → OrderlyRow (row t i)
  pub total_true : t.head.total ≡ true_total t.rows
  pub sum_true : t.head.sum ≡ true_sum t.rows
  pub rest : OrderlyRest t.head
  pub slice : OrderlySlice t.head t.head.out (held t)

unfoldable pub orderly : Table → Bool
orderly t =
    every
    (eqb (length t.rows) queues
    ∷ allowed t.head.terms
    ∷ all orderly_row t.rows
    ∷ eqb t.head.total (true_total t.rows)
    ∷ eqb t.head.sum (true_sum t.rows)
    ∷ orderly_rest t.head
    ∷ orderly_slice t.head t.head.out (held t)
    ∷ [])

-- a going row whose lag is 0 or more: it is to be released
pub record Ready (t : Table) (i : ℕ) : Type 0 where
  pub going : is_going (row t i).state ≡ true
  pub level : AtMostV t (row t i).position

unfoldable pub ready : Table → Row → Bool
ready t r = ready_at t.head.total t.head.sum r

-- "no going row with position x W at most A"
abbrev pub Calm : Table → Type 0
Calm t = (i : ℕ) → Ready t i → ⊥

unfoldable pub calm : Table → Bool
calm t = all (λ r. not (ready t r)) t.rows

pub record Sound (t : Table) : Type 0 where
  pub orderly_table : Orderly t
  pub no_one_ready : Calm t

unfoldable pub sound : Table → Bool
sound t = every (orderly t ∷ calm t ∷ [])
