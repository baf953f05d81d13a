-- What bandtrace prints.
use Rattle.std.specs.Prelude.{List, [], ◌∷◌, ◌++◌, ℕ, suc, Option, None, Some, Result, Ok, Err}
use Rattle.rows.specs.Numbers.{least_terms}
use Rattle.head.specs.declared.Refusal.{Refusal}
use Rattle.head.specs.declared.Answer.{Answer}
use Rattle.head.specs.declared.Answer.TheVariants.{Accepted, Granted, Reported, Stands}
use Rattle.head.specs.declared.Event.{Event}
use Rattle.head.specs.declared.Grant.{Grant}
use Rattle.head.specs.declared.Shown.{Shown}
use Rattle.head.specs.Answers.{number, broken}
use Rattle.share.specs.declared.Reply.{Reply}
use Rattle.share.specs.declared.Table.{Table}
use Rattle.share.specs.Calls.{step}
use Rattle.share.specs.Events.{empty_table}
use Rattle.lines.specs.Cut.{space, newline, lines_of}
use Rattle.lines.specs.Decimal.{digits}
use Rattle.lines.specs.Grammar.{read_line}

-- "line answer who slice sum total", as bytes
abbrev pub header : List ℕ
header =
    108 ∷ 105 ∷ 110 ∷ 101 ∷ 32 ∷ 97 ∷ 110 ∷ 115 ∷ 119 ∷ 101 ∷ 114 ∷ 32 ∷ 119 ∷ 104 ∷ 111 ∷ 32
    ∷ 115 ∷ 108 ∷ 105 ∷ 99 ∷ 101 ∷ 32 ∷ 115 ∷ 117 ∷ 109 ∷ 32 ∷ 116 ∷ 111 ∷ 116 ∷ 97 ∷ 108 ∷ 10 ∷ []

abbrev pub dash : List ℕ
dash = 45 ∷ []

-- "granted queue, slice (both `-` but on an accepted grant)"
abbrev pub who_in : Result Answer Refusal → List ℕ
who_in (Ok Accepted) = dash
who_in (Ok (Granted queue slice)) = digits queue
who_in (Ok (Reported denominator)) = dash
who_in (Ok (Stands standing)) = dash
who_in (Err why) = dash

abbrev pub slice_in : Result Answer Refusal → List ℕ
slice_in (Ok Accepted) = dash
slice_in (Ok (Granted queue slice)) = digits slice
slice_in (Ok (Reported denominator)) = dash
slice_in (Ok (Stands standing)) = dash
slice_in (Err why) = dash

-- "line number, answer (0 for accepted), granted queue, slice ..., A and W"
unfoldable pub answer_line : ℕ → ℕ → List ℕ → List ℕ → ℕ → ℕ → List ℕ
answer_line line answer who slice sum total =
    digits line ++ (space ∷ (digits answer ++ (space ∷ (who ++ (space ∷ (slice ++ (space ∷ (digits sum ++ (space ∷ (digits total ++ (newline ∷ [])))))))))))

-- an answer as numbers: queue and slice are printed where there is a grant
abbrev pub queue_shown : Option Grant → List ℕ
queue_shown None = dash
queue_shown (Some grant) = digits grant.queue

abbrev pub slice_shown : Option Grant → List ℕ
slice_shown None = dash
slice_shown (Some grant) = digits grant.slice

-- the part of the line that the writer puts for it
unfoldable pub grant_shown : Option Grant → List ℕ
grant_shown grant = queue_shown grant ++ (space ∷ (slice_shown grant ++ (space ∷ [])))

unfoldable pub shown_line : ℕ → Shown → ℕ → ℕ → List ℕ
shown_line line a sum total = answer_line line a.answer (queue_shown a.grant) (slice_shown a.grant) sum total

abbrev pub reply_line : ℕ → Reply → List ℕ
reply_line line r =
    answer_line line (number r.answer) (who_in r.answer) (slice_in r.answer) r.table.head.sum r.table.head.total

-- "Any other line is answered 15, ... and changes nothing."
unfoldable pub printed : ℕ → Table → Option Event → List ℕ
printed line t (Some event) = reply_line line (step t event)
printed line t None = answer_line line broken dash dash t.head.sum t.head.total

unfoldable pub after : Table → Option Event → Table
after t (Some event) = (step t event).table
after t None = t

-- "one line for each input line"
unfoldable pub answers : ℕ → Table → List (List ℕ) → List ℕ
answers line t [] = []
answers line t (l ∷ ls) = printed line t (read_line l) ++ answers (suc line) (after t (read_line l)) ls

-- what input prints that comes at this line number and this table
unfoldable pub prints_from : ℕ → Table → List ℕ → List ℕ
prints_from line t input = answers line t (lines_of input)

-- "It begins with the table that refusal 14 gives"; "It prints a header and one line for each input line"
unfoldable pub prints : List ℕ → List ℕ
prints input = header ++ prints_from 1 (empty_table least_terms) input
