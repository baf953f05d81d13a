-- The input in pieces: what working one piece says of all that is still to come.
use Rattle.std.specs.Prelude.{◌≡◌, true, false, cond, List, [], ◌∷◌, ◌++◌, ◌⊎◌, ℕ, ◌+◌, ◌-◌, ◌^◌, ◌≤◌, ◌<◌, ltb, length, take, drop}
use Rattle.rows.specs.Numbers.{least_terms}
use Rattle.share.specs.declared.Table.{Table}
use Rattle.share.specs.Events.{empty_table}
use Rattle.lines.specs.declared.Done.{Done}
use Rattle.lines.specs.declared.State.{State}
use Rattle.lines.specs.Cut.{newline, before}
use Rattle.lines.specs.Print.{prints_from}

-- no newline stands in these bytes
abbrev pub Unfinished : List ℕ → Type 0
Unfinished l = length (before newline l) ≡ length l

-- a piece, whatever comes after it, prints what was written, and then what is left of it prints with the rest; whole lines are left only
-- if the output has no room for an answer, or line numbers run out
pub record Worked (line : ℕ) (t : Table) (input exit : List ℕ) (d : Done) : Type 0 where
  pub within : d.read ≤ length input
  pub room : d.written ≤ length exit
  pub prints : (rest : List ℕ) → prints_from line t (input ++ rest) ≡ take d.written exit ++ prints_from d.line d.table (drop d.read input ++ rest)
  pub ended : d.ends ≡ true → Unfinished (drop d.read input)
  pub stopped : d.ends ≡ false → (length exit < d.written + 126) ⊎ (d.line + 1 ≡ 2 ^ 64)

-- the bytes from one place to another
abbrev pub bytes_in : List ℕ → ℕ → ℕ → List ℕ
bytes_in buf from to = take (to - from) (drop from buf)

-- "a line of at most 40 bytes": of an unfinished line 41 bytes say as much as all of it
pub record MovedToFront (entry : List ℕ) (from have : ℕ) (exit : List ℕ) (r : ℕ) : Type 0 where
  pub few : r ≤ 41
  pub within : r ≤ length exit
  pub front : take r exit ≡ take 41 (bytes_in entry from have)

-- what a state and its buffer have still to print, with the input that is to come
abbrev pub held_in : State → List ℕ → List ℕ
held_in s buf = bytes_in buf s.from s.have

abbrev pub prints_on : State → List ℕ → List ℕ → List ℕ
prints_on s buf rest = prints_from s.line s.table (held_in s buf ++ rest)

-- "It begins with the table that refusal 14 gives"
abbrev pub begun : State
begun = record { table = empty_table least_terms; line = 1; from = 0; have = 0; more = false; written = 0 }

-- nothing was done
abbrev pub idle_as : State → State
idle_as s = record { table = s.table; line = s.line; from = s.from; have = s.have; more = true; written = 0 }

-- so many bytes more are held, if a machine number can say so
abbrev pub grown_by : State → ℕ → State
grown_by s n =
    cond (ltb (2 ^ 64 - 1 - s.have) n) (idle_as s)
    (record { table = s.table; line = s.line; from = s.from; have = s.have + n; more = true; written = 0 })

-- what waits for more input is an unfinished line, at the front of the buffer, of 41 bytes
-- at most
pub record Waits (r : State) (buf : List ℕ) : Type 0 where
  pub unfinished : Unfinished (held_in r buf)
  pub first : r.from ≡ 0
  pub few : r.have ≤ 41

-- a turn writes the first of what is to be printed, and leaves the rest to be printed. It leaves an unfinished line alone, at the front and
-- of 41 bytes at most, unless the output has no room for an answer, or line numbers run out
pub record Turned (s : State) (entry exit out : List ℕ) (r : State) : Type 0 where
  pub room : r.written ≤ length out
  pub prints : (rest : List ℕ) → prints_on s entry rest ≡ take r.written out ++ prints_on r exit rest
  pub waits : r.more ≡ false → Waits r exit
  pub stopped : s.from ≤ s.have → s.have ≤ length entry → r.more ≡ true → (length out < r.written + 126) ⊎ (r.line + 1 ≡ 2 ^ 64)

-- "ended by a newline or the end of input": at the end of input a newline ends what is held, and leaves what is printed as it is
pub record Closed (s : State) (entry exit : List ℕ) (r : State) : Type 0 where
  pub ends : s.from < s.have → s.have < length entry → held_in r exit ≡ held_in s entry ++ (newline ∷ [])
  pub same : (r.line ≡ s.line) × (r.table ≡ s.table)
  pub prints : Unfinished (held_in s entry) → prints_on r exit [] ≡ prints_on s entry []
