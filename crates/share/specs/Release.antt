-- Document 01, "Release": the rule, which has no order in it, and a function that computes where every order ends.
use Rattle.std.specs.Prelude.{◌≡◌, true, ℕ, zero, suc, ◌≤◌, length}
use Rattle.std.proofs.Math.Option.{none, some}
use Rattle.laws.specs.Lists.{first_from}
use Rattle.rows.specs.Row.{blank, is_going}
use Rattle.share.specs.declared.Table.{Table}
use Rattle.share.specs.Table.{row, placed, TrueSums}
use Rattle.share.specs.Sound.{Ready, ready, Calm}

-- "Freeing a row takes its share out of A and W, and this is the whole of equation 14: nothing is added to V besides." The last one freed leaves its
-- position as the resting position (T-02).
unfoldable pub freed : Table → ℕ → Table
freed t i = placed t i blank

-- "going rows whose lag is 0 or more are freed until there is none. Freeing one may make another ready."
pub data Frees : Table → Table → Type 0 where
  done : {t : Table} → Calm t → Frees t t
  one : {t u : Table} (i : ℕ) → Ready t i → Frees (freed t i) u → Frees t u

-- "Weight 1 to 16": no row that may be freed weighs nothing; beside the true sums this is what makes the last one freed stand at V, whichever it is (T-02)
pub record Weighed (t : Table) : Type 0 where
  pub sums : TrueSums t
  pub weighs : (i : ℕ) → is_going (row t i).state ≡ true → 1 ≤ (row t i).weight

-- the lowest ready row is freed, again and again, at most so many times
abbrev pub freeing : ℕ → Table → Table
freeing zero t = t
freeing (suc most) t = elim (first_from (ready t) 0 t.rows) [ none ↦ t | some i ↦ freeing most (freed t i) ]

-- no more rows can be freed than there are
unfoldable pub released : Table → Table
released t = freeing (length t.rows) t
