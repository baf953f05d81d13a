-- Document 01's worked run of bandtrace, from its bytes to its bytes: the definition prints the table that stands in the document.
use mathlib.Core.Path.{◌≡◌, refl}
use mathlib.Core.List.{List, [], ◌∷◌}
use Prim.Native.Nat.{ℕ}
use Rattle.share.proofs.Computes.{stepping}
use Rattle.lines.specs.Cut.{cut_at}
use Rattle.lines.specs.Decimal.{is_decimal, decimal, digits_in}
use Rattle.lines.specs.Grammar.{event_of, numbers, event_if, event_named, event_in, read_line}
use Rattle.lines.specs.Print.{answer_line, printed, after, answers, prints_from, prints}

-- `S 1`, `J 1 2 2`, `G`, `U 1 1 0`, `J 0 2 1`, `G`, `U 0 1 0`, `L 1`, `G`
abbrev given : List ℕ
given =
    83 ∷ 32 ∷ 49 ∷ 10 ∷ 74 ∷ 32 ∷ 49 ∷ 32 ∷ 50 ∷ 32 ∷ 50 ∷ 10 ∷ 71 ∷ 10 ∷ 85 ∷ 32 ∷ 49 ∷ 32 ∷ 49 ∷ 32 ∷ 48 ∷ 10 ∷ 74 ∷ 32
    ∷ 48 ∷ 32 ∷ 50 ∷ 32 ∷ 49 ∷ 10 ∷ 71 ∷ 10 ∷ 85 ∷ 32 ∷ 48 ∷ 32 ∷ 49 ∷ 32 ∷ 48 ∷ 10 ∷ 76 ∷ 32 ∷ 49 ∷ 10 ∷ 71 ∷ 10 ∷ []

abbrev shown : List ℕ
shown =
    108 ∷ 105 ∷ 110 ∷ 101 ∷ 32 ∷ 97 ∷ 110 ∷ 115 ∷ 119 ∷ 101 ∷ 114 ∷ 32 ∷ 119 ∷ 104 ∷ 111 ∷ 32 ∷ 115 ∷ 108 ∷ 105 ∷ 99 ∷ 101 ∷ 32 ∷ 115 ∷ 117
    ∷ 109 ∷ 32 ∷ 116 ∷ 111 ∷ 116 ∷ 97 ∷ 108 ∷ 10 ∷ 49 ∷ 32 ∷ 48 ∷ 32 ∷ 45 ∷ 32 ∷ 45 ∷ 32 ∷ 48 ∷ 32 ∷ 48 ∷ 10 ∷ 50 ∷ 32 ∷ 48 ∷ 32
    ∷ 45 ∷ 32 ∷ 45 ∷ 32 ∷ 48 ∷ 32 ∷ 50 ∷ 10 ∷ 51 ∷ 32 ∷ 48 ∷ 32 ∷ 49 ∷ 32 ∷ 49 ∷ 32 ∷ 48 ∷ 32 ∷ 50 ∷ 10 ∷ 52 ∷ 32 ∷ 48 ∷ 32
    ∷ 45 ∷ 32 ∷ 45 ∷ 32 ∷ 55 ∷ 50 ∷ 48 ∷ 55 ∷ 50 ∷ 48 ∷ 32 ∷ 50 ∷ 10 ∷ 53 ∷ 32 ∷ 48 ∷ 32 ∷ 45 ∷ 32 ∷ 45 ∷ 32 ∷ 49 ∷ 52 ∷ 52
    ∷ 49 ∷ 52 ∷ 52 ∷ 48 ∷ 32 ∷ 52 ∷ 10 ∷ 54 ∷ 32 ∷ 48 ∷ 32 ∷ 48 ∷ 32 ∷ 49 ∷ 32 ∷ 49 ∷ 52 ∷ 52 ∷ 49 ∷ 52 ∷ 52 ∷ 48 ∷ 32 ∷ 52
    ∷ 10 ∷ 55 ∷ 32 ∷ 48 ∷ 32 ∷ 45 ∷ 32 ∷ 45 ∷ 32 ∷ 50 ∷ 49 ∷ 54 ∷ 50 ∷ 49 ∷ 54 ∷ 48 ∷ 32 ∷ 52 ∷ 10 ∷ 56 ∷ 32 ∷ 48 ∷ 32 ∷ 45
    ∷ 32 ∷ 45 ∷ 32 ∷ 49 ∷ 52 ∷ 52 ∷ 49 ∷ 52 ∷ 52 ∷ 48 ∷ 32 ∷ 50 ∷ 10 ∷ 57 ∷ 32 ∷ 48 ∷ 32 ∷ 48 ∷ 32 ∷ 49 ∷ 32 ∷ 49 ∷ 52 ∷ 52
    ∷ 49 ∷ 52 ∷ 52 ∷ 48 ∷ 32 ∷ 50 ∷ 10 ∷ []

pub worked_run : prints given ≡ shown
unfolding stepping cut_at is_decimal decimal digits_in event_of numbers event_if event_named event_in read_line answer_line printed after answers prints_from prints
worked_run = refl
