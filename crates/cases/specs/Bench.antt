-- Document 01, "Bench cases": B1 to B11 in one table, every number that it gives for them; and B12, of T-02, and B13,
-- of T-09, whose numbers are the independent program's.
use Rattle.std.specs.Prelude.{false, List, [], ◌∷◌, ◌++◌, ℕ, ◌-◌, pos}
use Rattle.rows.specs.Numbers.{ceiling, least_terms}
use Rattle.rows.specs.Requests.{entering}
use Rattle.head.specs.declared.Event.TheVariants.{Join, Leave, Reweight, Length, Grant, Return}
use Rattle.share.specs.declared.Table.{Table}
use Rattle.share.specs.Events.{empty_table}
use Rattle.share.specs.Table.{placed}
use Rattle.cases.specs.Facts.{minus, ◌over◌, answers, grants, sums, weighs, virtual_time, not_virtual_time, lag, reports, rests_at, enters_at, stands_free, stands_going, from_sound, only_takes_the_slice_in, fresh, fresh_of, Line, ◌then◌, Case}

-- "It begins with the table that refusal 14 gives"
abbrev pub first : List Line → Case
first lines = record { from = empty_table least_terms; lines = lines }

-- B1, "the run above", up to its line 7. B2: there "V is 540,540; queue 1's lag is half a tick". B3: there queue 0 has "lag minus half a tick"
abbrev pub seven_lines : List Line
seven_lines =
    (fresh 1 then answers 0 ∷ sums 0 0 ∷ [])
    ∷ (Join 1 2 2 then answers 0 ∷ sums 0 2 ∷ [])
    ∷ (Grant then answers 0 ∷ grants 1 1 ∷ sums 0 2 ∷ [])
    ∷ (Return 1 1 false then answers 0 ∷ sums 720720 2 ∷ [])
    ∷ (Join 0 2 1 then answers 0 ∷ sums 1441440 4 ∷ [])
    ∷ (Grant then answers 0 ∷ grants 0 1 ∷ sums 1441440 4 ∷ [])
    ∷ (Return 0 1 false then answers 0 ∷ sums 2162160 4 ∷ virtual_time (pos 540540 over 1) ∷ lag 0 (minus 1 over 2) ∷ lag 1 (pos 1 over 2) ∷ [])
    ∷ []

-- B4: "slice limit 1, queues 0 (weight 2) and 1 (weight 15), length 1: the first grant is 1; after the return A is 720,720 and W is 17"
abbrev pub two_queues : List Line
two_queues =
    (fresh 1 then [])
    ∷ (Join 0 2 1 then answers 0 ∷ [])
    ∷ (Join 1 15 1 then answers 0 ∷ [])
    ∷ (Grant then grants 1 1 ∷ [])
    ∷ (Return 1 1 false then answers 0 ∷ sums 720720 17 ∷ [])
    ∷ []

-- B5: "then queue 2 of weight 1 joins at 42,396; A is 763,116, W is 18, and the lag report is 1526232, -1526220, -12"
abbrev pub three_queues : List Line
three_queues =
    two_queues
    ++ (Join 2 1 1
    then answers 0 ∷ enters_at 2 42396 ∷ sums 763116 18 ∷ reports (pos 1526232 ∷ minus 1526220 ∷ minus 12 ∷ []) ∷ [])
    ∷ []

-- B9 and B11 start with a slice of one tick out
abbrev pub slice_out : List Line
slice_out = (fresh 1 then []) ∷ (Join 5 4 3 then answers 0 ∷ []) ∷ (Grant then grants 5 1 ∷ []) ∷ []

-- B12: a lone queue leaves and another comes, which is reweighted. "The next queue enters there."
abbrev pub emptied : List Line
emptied =
    (fresh 1 then rests_at 0 ∷ [])
    ∷ (Join 3 2 2 then answers 0 ∷ enters_at 3 0 ∷ sums 0 2 ∷ [])
    ∷ (Grant then grants 3 1 ∷ [])
    ∷ (Return 3 1 false then sums 720720 2 ∷ virtual_time (pos 360360 over 1) ∷ [])
    ∷ (Leave 3 then answers 0 ∷ sums 0 0 ∷ rests_at 360360 ∷ [])
    ∷ (Grant then answers 11 ∷ rests_at 360360 ∷ [])
    ∷ (Join 4 4 1 then answers 0 ∷ enters_at 4 360360 ∷ sums 1441440 4 ∷ virtual_time (pos 360360 over 1) ∷ [])
    ∷ (Grant then grants 4 1 ∷ [])
    ∷ (Return 4 1 false then sums 2162160 4 ∷ virtual_time (pos 540540 over 1) ∷ [])
    ∷ (Reweight 4 3 2 then answers 0 ∷ enters_at 4 540540 ∷ sums 1621620 3 ∷ virtual_time (pos 540540 over 1) ∷ [])
    ∷ (Grant then grants 4 1 ∷ [])
    ∷ (Return 4 1 false then sums 2342340 3 ∷ virtual_time (pos 780780 over 1) ∷ [])
    ∷ []

-- B13: a length of 0 is 8, and 20 in a 20-tick table, at a join, at a length event and at a reweight; "a default other than 8 or 20 is 25, after 23"
abbrev pub defaults : List Line
defaults =
    (fresh_of 100 1 8 then answers 0 ∷ [])
    ∷ (Join 3 2 0 then answers 0 ∷ [])
    ∷ (Length 3 5 then answers 0 ∷ [])
    ∷ (Grant then grants 3 8 ∷ [])
    ∷ (Return 3 8 false then answers 0 ∷ [])
    ∷ (Length 3 0 then answers 0 ∷ [])
    ∷ (Grant then grants 3 5 ∷ [])
    ∷ (Return 3 5 false then answers 0 ∷ [])
    ∷ (Grant then grants 3 8 ∷ [])
    ∷ (fresh_of 100 1 9 then answers 25 ∷ [])
    ∷ (fresh_of 100 3 9 then answers 23 ∷ [])
    ∷ (fresh_of 100 1 20 then answers 0 ∷ [])
    ∷ (Join 3 2 7 then answers 0 ∷ [])
    ∷ (Reweight 3 1 0 then answers 0 ∷ [])
    ∷ (Grant then grants 3 20 ∷ [])
    ∷ []

-- B10: "a lone queue of weight 16, length 1, nothing served"
unfoldable pub lone_at : ℕ → Table
lone_at position = placed (empty_table least_terms) 0 (entering 16 position 1)

abbrev pub bench : List Case
bench =
    -- B1
    first (seven_lines
    ++ (Leave 1 then answers 0 ∷ sums 1441440 2 ∷ [])
    ∷ (Grant then answers 0 ∷ grants 0 1 ∷ sums 1441440 2 ∷ [])
    ∷ [])
    -- B2: "after it leaves V is 720,720, not 900,900"
    ∷ first (seven_lines
    ++ (Leave 1 then stands_free 1 ∷ virtual_time (pos 720720 over 1) ∷ not_virtual_time (pos 900900 over 1) ∷ [])
    ∷ [])
    -- B3: "after line 7, queue 0 leaves instead: ... so it is going and W stays 4; grant gives 1; when that tick is
    -- returned, 0 is released and W is 2"
    ∷ first (seven_lines
    ++ (Leave 0 then answers 0 ∷ stands_going 0 ∷ weighs 4 ∷ [])
    ∷ (Grant then grants 1 1 ∷ [])
    ∷ (Return 1 1 false then answers 0 ∷ stands_free 0 ∷ weighs 2 ∷ [])
    ∷ [])
    -- B4, B5 and B6: "the grant after B5 is 0"
    ∷ first two_queues
    ∷ first three_queues
    ∷ first (three_queues ++ (Grant then grants 0 1 ∷ []) ∷ [])
    -- B7: "weight 16 joins, 17 gets 3; number 64 with weight 0 gets 2"
    ∷ first ((Join 0 17 1 then answers 3 ∷ []) ∷ (Join 64 0 1 then answers 2 ∷ []) ∷ (Join 0 16 1 then answers 0 ∷ weighs 16 ∷ []) ∷ [])
    -- B8: "length 10,000 joins, 10,001 gets 4"
    ∷ first ((Join 0 1 10001 then answers 4 ∷ []) ∷ (Join 0 1 10000 then answers 0 ∷ weighs 1 ∷ []) ∷ [])
    -- B9: "slice 1: used 1 accepted, used 2 gets 10"
    ∷ first (slice_out ++ (Return 5 2 false then answers 10 ∷ []) ∷ (Return 5 1 false then answers 0 ∷ []) ∷ [])
    -- B10: "at P - 45,045 is granted; at P - 45,044 it gets 12"
    ∷ record { from = lone_at (ceiling - 45045); lines = (Grant then from_sound ∷ answers 0 ∷ grants 0 1 ∷ []) ∷ [] }
    ∷ record { from = lone_at (ceiling - 45044); lines = (Grant then from_sound ∷ answers 12 ∷ []) ∷ [] }
    -- B11: "returning 0 ticks, not early, only takes the slice in"
    ∷ first (slice_out ++ (Return 5 0 false then answers 0 ∷ only_takes_the_slice_in ∷ []) ∷ [])
    -- B12, T-02: the table empties and fills again, twice
    ∷ first emptied
    -- B13, T-09: the two defaults
    ∷ first defaults
    ∷ []
