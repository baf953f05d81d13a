-- Document 01, "A row and a sound table": the row.
use Rattle.std.specs.Prelude.{Bool, true, false, cond, ℕ, ◌+◌, ◌*◌}
use Rattle.rows.specs.declared.Request.{Request}
use Rattle.rows.specs.declared.Row.{Row}
use Rattle.rows.specs.declared.State.{State}
use Rattle.rows.specs.declared.State.TheVariants.{Free, Going, Asking}
use Rattle.rows.specs.Numbers.{step_of}

-- "A row is free, going, or asking."
abbrev pub is_free : State → Bool
is_free Free = true
is_free Going = false
is_free (Asking q) = false

abbrev pub is_going : State → Bool
is_going Free = false
is_going Going = true
is_going (Asking q) = false

abbrev pub is_asking : State → Bool
is_asking Free = false
is_asking Going = false
is_asking (Asking q) = true

-- "free rows all zero"
abbrev pub blank : Row
blank = record { weight = 0; position = 0; state = Free }

-- "Position = opening + served x step."
unfoldable pub position_of : ℕ → Request → ℕ
position_of weight q = q.opening + q.served * step_of weight

-- "Deadline = opening + length x step (document 000, equations 7 and 8)."
unfoldable pub deadline_of : ℕ → Request → ℕ
deadline_of weight q = q.opening + q.length * step_of weight

-- "Position rises by used x step."
unfoldable pub charged_to : ℕ → ℕ → ℕ → ℕ
charged_to weight position used = position + used * step_of weight

-- A row's part in W and in A: its weight, and its weight x position; a free row has none.
unfoldable pub weight_in : Row → ℕ
weight_in r = cond (is_free r.state) 0 r.weight

unfoldable pub moment_in : Row → ℕ
moment_in r = cond (is_free r.state) 0 (r.weight * r.position)
