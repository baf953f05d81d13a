-- Document 01, "The table also keeps: total weight W of all rows not free; the sum A of weight x position over them; the slice limit; the slice that is
-- out, if any, with its holder and its ticks."
use Rattle.std.specs.Prelude.{Bool, false, cond, ℕ, ◌+◌, ◌-◌, ◌/◌, eqb}
use Rattle.rows.specs.declared.Standing.{Standing}
use Rattle.rows.specs.declared.Terms.{Terms}
use Rattle.rows.specs.Virtual.{Reached, standing_at, reached}
use Rattle.head.specs.declared.Event.{Event}
use Rattle.head.specs.declared.Event.TheVariants.{Fresh, Join, Leave, Reweight, Length, Grant, Return}
use Rattle.head.specs.declared.Head.{Head}

-- "Fresh. An empty table with the given slice limit."
unfoldable pub empty_head : Terms → Head
empty_head terms = record { total = 0; sum = 0; resting = 0; terms = terms; out = false; holder = 0; ticks = 0 }

unfoldable pub is_empty : Head → Bool
is_empty h = eqb h.total 0

-- "Virtual time V is the fraction A / W and exists when W is above 0."
abbrev pub AtMostV : Head → ℕ → Type 0
AtMostV h position = Reached position h.total h.sum

abbrev pub standing_by : Head → ℕ → Standing
standing_by h position = standing_at position h.total h.sum

abbrev pub reached_by : Head → ℕ → Bool
reached_by h position = reached position h.total h.sum

-- "Join. The queue enters at the least whole number not below V"; of an empty table T-02 has: "The table is to remember a resting position ... The next
-- queue enters there."
abbrev pub entry_empty : Head → ℕ
entry_empty h = h.resting

unfoldable pub entry : Head → ℕ
entry h = cond (is_empty h) (entry_empty h) ((h.sum + (h.total - 1)) / h.total)

-- the same with a slice out, or with none
unfoldable pub sliced : Head → Bool → ℕ → ℕ → Head
sliced h out holder ticks =
    record { total = h.total; sum = h.sum; resting = h.resting; terms = h.terms; out = out; holder = holder; ticks = ticks }

-- the same with other sums and another resting position
unfoldable pub summed : Head → ℕ → ℕ → ℕ → Head
summed h total sum resting =
    record { total = total; sum = sum; resting = resting; terms = h.terms; out = h.out; holder = h.holder; ticks = h.ticks }

-- the queue whose row decides on an event: the one that it names, or for a grant the one that is chosen
abbrev pub concerns : ℕ → Event → ℕ
concerns chosen (Fresh terms) = 0
concerns chosen (Join queue weight length) = queue
concerns chosen (Leave queue) = queue
concerns chosen (Reweight queue weight length) = queue
concerns chosen (Length queue length) = queue
concerns chosen Grant = chosen
concerns chosen (Return queue used early) = queue
