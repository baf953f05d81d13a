-- The rows that an event names, and what may become of the others.
use Rattle.std.specs.Prelude.{Bool, true, false, ◌≡◌, ℕ, eqb}
use Rattle.calls.specs.Public.{Call, event, release, report, standing}
use Rattle.rows.specs.declared.Row.{Row}
use Rattle.rows.specs.Row.{blank, is_going}
use Rattle.head.specs.declared.Event.{Event}
use Rattle.head.specs.declared.Event.TheVariants.{Fresh, Join, Leave, Reweight, Length, Grant, Return}

-- a fresh table names every row, a grant none: it alters no row, that of the queue chosen neither
abbrev pub names : Event → ℕ → Bool
names (Fresh terms) i = true
names (Join queue weight length) i = eqb i queue
names (Leave queue) i = eqb i queue
names (Reweight queue weight length) i = eqb i queue
names (Length queue length) i = eqb i queue
names Grant i = false
names (Return queue used early) i = eqb i queue

-- a release, a lag report and the panel's question name none
abbrev pub named_by : Call → ℕ → Bool
named_by (event e) i = names e i
named_by release i = false
named_by (report lent) i = false
named_by (standing queue) i = false

-- a row is as it was, or was going and is released
pub data Stays (before after : Row) : Type 0 where
  same : after ≡ before → Stays before after
  let_go : is_going before.state ≡ true → after ≡ blank → Stays before after
