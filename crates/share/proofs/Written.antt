-- The lag report's list: one entry more is the next row's lag, and at the end every entry below 64 is its row's and the others are as they were.
use mathlib.Core.Path.{◌≡◌, refl, sym, ◌∙◌}
use mathlib.Core.List.{List, ◌++◌, map, append_assoc}
use Prim.Native.Nat.{ℕ, suc, ◌≤◌, ◌<◌}
use native.Mathlib.Omega.{arith}
use lib.IntN.{ℤ}
use lib.ListN.{length, take, drop, set, take-append-drop, drop_of_length-le}
use lib.Seq.{drop-cons, take-suc-set, drop-set-lt}
use Rattle.rows.specs.Numbers.{queues}
use Rattle.rows.specs.Row.{blank}
use Rattle.head.specs.Lag.{lag_of}
use Rattle.share.specs.declared.Table.{Table}
use Rattle.share.specs.LagList.{lags_into}
use Rattle.share.specs.Table.{row}
use Rattle.share.proofs.Totals.{head_small}

-- the list with its first i entries written, and the others to be
abbrev pub Writing : Table → List ℤ → ℕ → List ℤ → Type 0
Writing t given i list = take i list ++ (map (lag_of t.head) (drop i t.rows) ++ drop queues list) ≡ lags_into t given

pub writing_starts : (t : Table) (given : List ℤ) → Writing t given 0 given
unfolding lags_into
writing_starts t given = refl

pub writing_next : (t : Table) (given : List ℤ) (i : ℕ) (list : List ℤ) (z : ℤ) → i < queues → length t.rows ≡ queues → queues ≤ length list → z ≡ lag_of t.head (row t i) → Writing t given i list → Writing t given (suc i) (set list i z)
unfolding row
writing_next t given i list z inside one_each long is h =
    rw (take-suc-set list i z (omega arith), drop-set-lt queues list i z inside, append_assoc, is)
    (rw (drop-cons t.rows i blank (omega arith)) at h)

pub writing_ends : (t : Table) (given : List ℤ) (list : List ℤ) → length t.rows ≡ queues → Writing t given 64 list → list ≡ lags_into t given
writing_ends t given list one_each h =
    sym (take-append-drop 64 list)
    ∙ (rw (drop_of_length-le t.rows {i = 64} (omega arith)) at h)

-- what the report goes by, entry by entry
pub ruleset writing = (writing_starts, writing_next, writing_ends, head_small)
