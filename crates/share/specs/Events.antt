-- Document 01, "The events": what an accepted event makes of the table. Who is refused stands in head's Refusals, what becomes of one row in rows' Requests.
use Rattle.std.specs.Prelude.{Bool, true, false, cond, ℕ, replicate}
use Rattle.std.proofs.Math.Option.{Option, none, some}
use Rattle.rows.specs.declared.Row.{Row}
use Rattle.rows.specs.declared.State.TheVariants.{Going}
use Rattle.rows.specs.declared.Terms.{Terms}
use Rattle.rows.specs.Numbers.{queues, length_meant}
use Rattle.rows.specs.Row.{blank}
use Rattle.rows.specs.Requests.{entering, row_next_set, charged}
use Rattle.head.specs.Head.{empty_head, entry}
use Rattle.head.specs.Slice.{slice_for}
use Rattle.share.specs.declared.Table.{Table}
use Rattle.share.specs.Table.{row, reached, placed, with_slice}
use Rattle.share.specs.Release.{released}
use Rattle.share.specs.Choice.{choice}

-- "Fresh. An empty table with the given slice limit."
unfoldable pub empty_table : Terms → Table
empty_table terms = record { rows = replicate queues blank; head = empty_head terms }

-- the length that a call's length stands for in this table
abbrev pub meant : Table → ℕ → ℕ
meant t length = length_meant t.head.terms length

-- "Join. The queue enters at the least whole number not below V" or where an empty table rests (T-02) "and opens its first request"
-- (and after each join, leave, reweight and return its release)
unfoldable pub joined : Table → ℕ → ℕ → ℕ → Table
joined t queue weight length = released (placed t queue (entering weight (entry t.head) (meant t length)))

-- "Leave. If its lag is 0 or more, the row is freed. Else it becomes going: its request is dropped, it keeps its weight in W"
unfoldable pub leaving : Table → Row → Row
leaving t r = cond (reached t r.position) blank (record { weight = r.weight; position = r.position; state = Going })

unfoldable pub left : Table → ℕ → Table
left t queue = released (placed t queue (leaving t (row t queue)))

-- "Reweight. ... an accepted leave with its release, then at once an accepted join of the same number"
unfoldable pub reweighted : Table → ℕ → ℕ → ℕ → Table
reweighted t queue weight length = joined (left t queue) queue weight length

-- "Length. Sets the length of the next request. The open one stays."
unfoldable pub length_set : Table → ℕ → ℕ → Table
length_set t queue length = placed t queue (row_next_set (row t queue) (meant t length))

-- "Grant. ... The answer is the number and the slice."
abbrev pub chosen_or0 : Option ℕ → ℕ
chosen_or0 none = 0
chosen_or0 (some queue) = queue

unfoldable pub chosen : Table → ℕ
chosen t = chosen_or0 (choice t)

unfoldable pub slice_given : Table → ℕ
slice_given t = slice_for t.head (row t (chosen t))

unfoldable pub granted : Table → Table
granted t = with_slice t true (chosen t) (slice_given t)

-- "Return. ... The slice is no longer out."
unfoldable pub returned : Table → ℕ → ℕ → Bool → Table
returned t queue used early = released (placed (with_slice t false 0 0) queue (charged (row t queue) used early))
