-- The lines of bandtrace: which event a line of bytes is, and the line that an event is written as.
use Rattle.std.specs.Prelude.{Bool, true, false, cond, List, [], ◌∷◌, ◌++◌, ◌≡◌, ℕ, ◌<◌, leb, eqb, length, Option, None, Some}
use Rattle.rows.specs.declared.Terms.{Terms}
use Rattle.rows.specs.Numbers.{default_length}
use Rattle.head.specs.declared.Event.{Event}
use Rattle.head.specs.declared.Event.TheVariants.{Fresh, Join, Leave, Reweight, Length, Grant, Return}
use Rattle.lines.specs.Cut.{space, fields_of}
use Rattle.lines.specs.Decimal.{decimal, digits}

-- the bytes of S, J, L, W, R, G and U
abbrev pub letter_s : ℕ
letter_s = 83

abbrev pub letter_j : ℕ
letter_j = 74

abbrev pub letter_l : ℕ
letter_l = 76

abbrev pub letter_w : ℕ
letter_w = 87

abbrev pub letter_r : ℕ
letter_r = 82

abbrev pub letter_g : ℕ
letter_g = 71

abbrev pub letter_u : ℕ
letter_u = 85

-- "early 0 or 1"
abbrev pub return_of : ℕ → ℕ → ℕ → Option Event
return_of queue used early = cond (leb early 1) (Some (Return queue used (eqb early 1))) None

abbrev pub fresh_of : ℕ → ℕ → ℕ → Option Event
fresh_of limit rule default = Some (Fresh (record { limit = limit; rule = rule; default = default }))

-- "`S limit`, `J number weight length`, `L number`, `W number weight length`, `R number length`, `G`, `U number used early`";
-- T-06, "`S` takes an optional second number and means rule 1 without it"; T-09, "the default as an optional third number, 8 without it"
unfoldable pub event_of : ℕ → List ℕ → Option Event
event_of letter [] = cond (eqb letter letter_g) (Some Grant) None
event_of letter (a ∷ []) = cond (eqb letter letter_s) (fresh_of a 1 default_length) (cond (eqb letter letter_l) (Some (Leave a)) None)
event_of letter (a ∷ b ∷ []) =
    cond (eqb letter letter_s) (fresh_of a b default_length) (cond (eqb letter letter_r) (Some (Length a b)) None)
event_of letter (a ∷ b ∷ c ∷ []) =
    cond (eqb letter letter_j) (Some (Join a b c))
    (cond (eqb letter letter_w) (Some (Reweight a b c))
    (cond (eqb letter letter_u) (return_of a b c) (cond (eqb letter letter_s) (fresh_of a b c) None)))
event_of letter (a ∷ b ∷ c ∷ d ∷ more) = None

-- the fields as numbers, if every one of them is a decimal
abbrev pub both : Option ℕ → Option (List ℕ) → Option (List ℕ)
both None ns = None
both (Some n) None = None
both (Some n) (Some ns) = Some (n ∷ ns)

unfoldable pub numbers : List (List ℕ) → Option (List ℕ)
numbers [] = Some []
numbers (f ∷ fs) = both (decimal f) (numbers fs)

unfoldable pub event_if : ℕ → Option (List ℕ) → Option Event
event_if letter None = None
event_if letter (Some ns) = event_of letter ns

-- the first field is one letter
unfoldable pub event_named : List ℕ → Option (List ℕ) → Option Event
event_named [] ns = None
event_named (letter ∷ []) ns = event_if letter ns
event_named (letter ∷ more ∷ name) ns = None

unfoldable pub event_in : List (List ℕ) → Option Event
event_in [] = None
event_in (name ∷ fs) = event_named name (numbers fs)

-- "a line of at most 40 bytes"; "Any other line is answered 15, an empty or overlong one too"
unfoldable pub read_line : List ℕ → Option Event
read_line l = cond (leb (length l) 40) (event_in (fields_of l)) None

-- The other way: an event with numbers of up to five digits, written as a line.
abbrev pub spaced : List ℕ → List ℕ
spaced [] = []
spaced (n ∷ ns) = space ∷ (digits n ++ spaced ns)

abbrev pub mark : Bool → ℕ
mark true = 1
mark false = 0

unfoldable pub line_of : Event → List ℕ
line_of (Fresh terms) = letter_s ∷ spaced (terms.limit ∷ terms.rule ∷ terms.default ∷ [])
line_of (Join queue weight length) = letter_j ∷ spaced (queue ∷ weight ∷ length ∷ [])
line_of (Leave queue) = letter_l ∷ spaced (queue ∷ [])
line_of (Reweight queue weight length) = letter_w ∷ spaced (queue ∷ weight ∷ length ∷ [])
line_of (Length queue length) = letter_r ∷ spaced (queue ∷ length ∷ [])
line_of Grant = letter_g ∷ []
line_of (Return queue used early) = letter_u ∷ spaced (queue ∷ used ∷ mark early ∷ [])

-- "decimals of 1 to 5 digits"
abbrev pub Small : ℕ → Type 0
Small n = n < 100000

unfoldable pub Written : Event → Type 0
Written (Fresh terms) = Small terms.limit × Small terms.rule × Small terms.default
Written (Join queue weight length) = Small queue × Small weight × Small length
Written (Leave queue) = Small queue
Written (Reweight queue weight length) = Small queue × Small weight × Small length
Written (Length queue length) = Small queue × Small length
Written Grant = Unit {0}
Written (Return queue used early) = Small queue × Small used

-- the lines that say a fresh table: in full; one of default 8 without it; and one of rule 1 and default 8 by its limit alone
pub data FreshAs (terms : Terms) (l : List ℕ) : Type 0 where
  in_full : l ≡ line_of (Fresh terms) → FreshAs terms l
  of_rule : terms.default ≡ default_length → l ≡ letter_s ∷ spaced (terms.limit ∷ terms.rule ∷ []) → FreshAs terms l
  of_limit : terms.default ≡ default_length → terms.rule ≡ 1 → l ≡ letter_s ∷ spaced (terms.limit ∷ []) → FreshAs terms l

-- and an event: every other is said in one way
abbrev pub WrittenAs : Event → List ℕ → Type 0
WrittenAs (Fresh terms) l = FreshAs terms l
WrittenAs (Join queue weight length) l = l ≡ line_of (Join queue weight length)
WrittenAs (Leave queue) l = l ≡ line_of (Leave queue)
WrittenAs (Reweight queue weight length) l = l ≡ line_of (Reweight queue weight length)
WrittenAs (Length queue length) l = l ≡ line_of (Length queue length)
WrittenAs Grant l = l ≡ line_of Grant
WrittenAs (Return queue used early) l = l ≡ line_of (Return queue used early)
