-- How bytes are cut: a line into fields, the input into lines.
use Rattle.std.specs.Prelude.{Bool, true, false, List, [], ◌∷◌, ℕ, eqb}

abbrev pub space : ℕ
space = 32

abbrev pub newline : ℕ
newline = 10

-- a byte before parts that are cut already: a mark ends a part, any other byte belongs to the first of them
abbrev pub part : Bool → ℕ → List (List ℕ) → List (List ℕ)
part true b ps = [] ∷ ps
part false b [] = (b ∷ []) ∷ []
part false b (p ∷ ps) = (b ∷ p) ∷ ps

-- the parts between the marks; `end` is what nothing at all is cut into
unfoldable pub cut_at : ℕ → List (List ℕ) → List ℕ → List (List ℕ)
cut_at mark end [] = end
cut_at mark end (b ∷ bs) = part (eqb b mark) b (cut_at mark end bs)

-- "One space between fields": after a space there is a field, be it empty
abbrev pub fields_of : List ℕ → List (List ℕ)
fields_of = cut_at space ([] ∷ [])

-- "ended by a newline or the end of input. Nothing after a last newline is no line."
abbrev pub lines_of : List ℕ → List (List ℕ)
lines_of = cut_at newline []

-- the bytes up to the first mark, or all of them
abbrev pub next_before : Bool → ℕ → List ℕ → List ℕ
next_before true b bs = []
next_before false b bs = b ∷ bs

unfoldable pub before : ℕ → List ℕ → List ℕ
before mark [] = []
before mark (b ∷ bs) = next_before (eqb b mark) b (before mark bs)
