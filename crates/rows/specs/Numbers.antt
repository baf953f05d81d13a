-- Document 01, "The numbers of the shop".
use Rattle.std.specs.Prelude.{cond, List, [], ◌∷◌, ℕ, eqb, get_or}
use Rattle.rows.specs.declared.Terms.{Terms}

-- "Queue numbers 0 to 63, one row each."
abbrev pub queues : ℕ
queues = 64

-- "Weight 1 to 16."
abbrev pub max_weight : ℕ
max_weight = 16

-- the most that 64 rows weigh
abbrev pub max_total : ℕ
max_total = 1024

-- "Request length 1 to 10,000 ticks ..."
abbrev pub max_length : ℕ
max_length = 10000

-- T-09, "Length 0 shall mean 8 ... and a table may be made in a 20-tick mode for old day lists."
abbrev pub default_length : ℕ
default_length = 8

abbrev pub former_default : ℕ
former_default = 20

-- "a length of 0 in a call stands for the house default": the one that the table was made with
unfoldable pub length_meant : Terms → ℕ → ℕ
length_meant terms length = cond (eqb length 0) terms.default length

-- "Slice limit 1 to 100 ticks, fixed when a table is made."
abbrev pub max_limit : ℕ
max_limit = 100

-- T-06, "A fresh table is made for rule 1 or 2"
abbrev pub max_rule : ℕ
max_rule = 2

-- what the table of a refused fresh is made with; T-09, "8 ... in the empty table of a refusal"
abbrev pub least_terms : Terms
least_terms = record { limit = 1; rule = 1; default = default_length }

-- "Positions are whole numbers, 720,720 to one unit of virtual time."
abbrev pub unit : ℕ
unit = 720720

-- "The steps for weights 1 to 16 are a table"
abbrev pub steps : List ℕ
steps =
    720720 ∷ 360360 ∷ 240240 ∷ 180180 ∷ 144144 ∷ 120120 ∷ 102960 ∷ 90090 ∷ 80080 ∷ 72072 ∷ 65520 ∷ 60060 ∷ 55440 ∷ 51480 ∷ 48048
    ∷ 45045 ∷ []

-- One tick moves a queue of this weight by its step; a weight outside the table has none.
unfoldable pub step_of : ℕ → ℕ
step_of weight = get_or (0 ∷ steps) weight 0

-- "The ceiling P for positions is 281,474,976,710,656 (2 to the 48th)."
abbrev pub ceiling : ℕ
ceiling = 281474976710656
