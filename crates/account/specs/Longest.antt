-- The longest request of a queue, read off the tables of a run and not off its lengths: what the account notes has to be this.
use Rattle.std.specs.Prelude.{Bool, false, cond, ◌&&◌, List, [], ◌∷◌, ℕ, max, eqb}
use Rattle.rows.specs.declared.State.{State}
use Rattle.rows.specs.declared.State.TheVariants.{Free, Going, Asking}
use Rattle.head.specs.declared.Event.{Event}
use Rattle.head.specs.declared.Event.TheVariants.{Fresh, Join, Leave, Reweight, Length, Grant, Return}
use Rattle.head.specs.Answers.{is_accepted}
use Rattle.share.specs.declared.Reply.{Reply}
use Rattle.share.specs.declared.Table.{Table}
use Rattle.share.specs.Calls.{step}
use Rattle.share.specs.Table.{row}

-- the length of the request that a row has open, 0 where it has none
abbrev pub open_length : State → ℕ
open_length Free = 0
open_length Going = 0
open_length (Asking q) = q.length

-- the queue joins by this event, or joins again
abbrev pub joins_by : Event → ℕ → Bool
joins_by (Fresh terms) i = false
joins_by (Join queue weight length) i = eqb i queue
joins_by (Leave queue) i = false
joins_by (Reweight queue weight length) i = eqb i queue
joins_by (Length queue length) i = false
joins_by Grant i = false
joins_by (Return queue used early) i = false

-- the longest so far, after one reply more
unfoldable pub longest_after : Reply → Event → ℕ → ℕ → ℕ
longest_after r e i longest =
    let length : ℕ = open_length (row r.table i).state in
    cond (is_accepted r.answer && joins_by e i) length (max longest length)

-- "the longest request opened since it last joined", in the tables of a run
abbrev pub longest_seen : Table → List Event → ℕ → ℕ → ℕ
longest_seen t [] i longest = longest
longest_seen t (e ∷ es) i longest = longest_seen (step t e).table es i (longest_after (step t e) e i longest)
