-- What document 01 calls "any other line", by example: each of these is answered 15. `only_lines` says it of all bytes.
use mathlib.Core.Path.{◌≡◌, refl}
use mathlib.Core.List.{List, [], ◌∷◌}
use Prim.Native.Nat.{ℕ}
use Rattle.laws.specs.Lists.{every}
use Rattle.std.specs.Prelude.{None}
use Rattle.lines.specs.Cut.{cut_at}
use Rattle.lines.specs.Decimal.{is_decimal, decimal}
use Rattle.lines.specs.Grammar.{event_of, numbers, event_if, event_named, event_in, read_line}

abbrev Refused : List (List ℕ) → Type 0
Refused [] = Unit {0}
Refused (l ∷ ls) = (read_line l ≡ None) × Refused ls

abbrev broken : List (List ℕ)
broken =
    -- two spaces
    (76 ∷ 32 ∷ 32 ∷ 49 ∷ []) ∷
    -- a leading zero
    (76 ∷ 32 ∷ 48 ∷ 49 ∷ []) ∷
    -- six digits
    (76 ∷ 32 ∷ 49 ∷ 48 ∷ 48 ∷ 48 ∷ 48 ∷ 48 ∷ []) ∷
    -- a sign
    (76 ∷ 32 ∷ 43 ∷ 49 ∷ []) ∷
    -- a minus
    (76 ∷ 32 ∷ 45 ∷ 49 ∷ []) ∷
    -- a tab
    (76 ∷ 9 ∷ 49 ∷ []) ∷
    -- a carriage return
    (71 ∷ 13 ∷ []) ∷
    -- an early mark of 2
    (85 ∷ 32 ∷ 49 ∷ 32 ∷ 49 ∷ 32 ∷ 50 ∷ []) ∷
    -- a number too few
    (82 ∷ 32 ∷ 49 ∷ []) ∷
    -- a number too many
    (71 ∷ 32 ∷ 49 ∷ []) ∷
    -- a space at the end
    (71 ∷ 32 ∷ []) ∷
    -- a space at the start
    (32 ∷ 71 ∷ []) ∷
    -- a small letter
    (103 ∷ []) ∷
    -- a byte above 127
    (76 ∷ 32 ∷ 177 ∷ []) ∷
    -- an empty line
    ([]) ∷
    -- 41 bytes
    (74 ∷ 32 ∷ 49 ∷ 32 ∷ 49 ∷ 32 ∷ 49 ∷ 32 ∷ 32 ∷ 32 ∷ 32 ∷ 32 ∷ 32 ∷ 32 ∷ 32 ∷ 32 ∷ 32 ∷ 32 ∷ 32 ∷ 32 ∷ 32 ∷ 32 ∷ 32 ∷ 32 ∷ 32 ∷ 32 ∷ 32 ∷ 32 ∷ 32 ∷ 32 ∷ 32 ∷ 32 ∷ 32 ∷ 32 ∷ 32 ∷ 32 ∷ 32 ∷ 32 ∷ 32 ∷ 32 ∷ 32 ∷ []) ∷ []

pub all_broken : Refused broken
unfolding read_line event_in event_named event_if event_of numbers decimal is_decimal every cut_at
all_broken = (refl, (refl, (refl, (refl, (refl, (refl, (refl, (refl, (refl, (refl, (refl, (refl, (refl, (refl, (refl, (refl, tt))))))))))))))))
