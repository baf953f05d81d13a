-- Document 01, "A sound table": what it asks of one row and of the terms. Each notion has two faces: the test that is computed and the record that a
-- person reads. `proofs/Orderly.antt` has a law each way.
use Rattle.std.specs.Prelude.{◌≡◌, Bool, not, ◌||◌, ◌⊎◌, [], ◌∷◌, ℕ, ◌-◌, ◌≤◌, ◌<◌, min, leb, ltb, eqb}
use Rattle.laws.specs.Lists.{every}
use Rattle.rows.specs.declared.Request.{Request}
use Rattle.rows.specs.declared.Row.{Row}
use Rattle.rows.specs.declared.State.{State}
use Rattle.rows.specs.declared.State.TheVariants.{Free, Going, Asking}
use Rattle.rows.specs.declared.Terms.{Terms}
use Rattle.rows.specs.Numbers.{max_weight, max_length, max_limit, max_rule, default_length, former_default, ceiling}
use Rattle.rows.specs.Row.{position_of, deadline_of}

-- outside a range, its ends belonging to it
unfoldable pub outside : ℕ → ℕ → ℕ → Bool
outside low high n = ltb n low || ltb high n

-- "numbers in the ranges above; ... positions 0 to P"
pub record InRange (weight position : ℕ) : Type 0 where
  pub weight_low : 1 ≤ weight
  pub weight_high : weight ≤ max_weight
  pub position_high : position ≤ ceiling

unfoldable pub in_range : ℕ → ℕ → Bool
in_range weight position = every (leb 1 weight ∷ leb weight max_weight ∷ leb position ceiling ∷ [])

-- "served less than length; ... an asking row's [position] being opening + served x step"
pub record OrderlyRequest (weight position : ℕ) (q : Request) : Type 0 where
  pub length_low : 1 ≤ q.length
  pub length_high : q.length ≤ max_length
  pub next_low : 1 ≤ q.next
  pub next_high : q.next ≤ max_length
  pub served_less : q.served < q.length
  pub stands : position ≡ position_of weight q

unfoldable pub orderly_request : ℕ → ℕ → Request → Bool
orderly_request weight position q =
    every
    (leb 1 q.length
    ∷ leb q.length max_length
    ∷ leb 1 q.next
    ∷ leb q.next max_length
    ∷ ltb q.served q.length
    ∷ eqb position (position_of weight q)
    ∷ [])

-- "free rows all zero"
abbrev pub OrderlyAs : State → ℕ → ℕ → Type 0
OrderlyAs Free weight position = (weight ≡ 0) × (position ≡ 0)
OrderlyAs Going weight position = InRange weight position
OrderlyAs (Asking q) weight position = InRange weight position × OrderlyRequest weight position q

abbrev pub orderly_as : State → ℕ → ℕ → Bool
orderly_as Free weight position = every (eqb weight 0 ∷ eqb position 0 ∷ [])
orderly_as Going weight position = in_range weight position
orderly_as (Asking q) weight position = every (in_range weight position ∷ orderly_request weight position q ∷ [])

abbrev pub OrderlyRow : Row → Type 0
OrderlyRow r = OrderlyAs r.state r.weight r.position

unfoldable pub orderly_row : Row → Bool
orderly_row r = orderly_as r.state r.weight r.position

-- "its deadline is at most P": what the ceiling leaves a request
abbrev pub FitsCeiling : ℕ → Request → Type 0
FitsCeiling weight q = deadline_of weight q ≤ ceiling

unfoldable pub fits_ceiling : ℕ → Request → Bool
fits_ceiling weight q = leb (deadline_of weight q) ceiling

-- "the slice is the lesser of the slice limit and its length less served": the longest that a request may be given, and the shortest
unfoldable pub slice_most : Terms → Request → ℕ
slice_most terms q = min terms.limit (q.length - q.served)

unfoldable pub slice_least : Terms → Request → ℕ
slice_least terms q = slice_most terms q

-- "Slice limit 1 to 100 ticks, fixed when a table is made": which terms are allowed
pub record Allowed (terms : Terms) : Type 0 where
  pub limit_low : 1 ≤ terms.limit
  pub limit_high : terms.limit ≤ max_limit
  -- T-06, "rule 1 or 2"
  pub rule_low : 1 ≤ terms.rule
  pub rule_high : terms.rule ≤ max_rule
  -- T-09, "a default other than 8 or 20 is 25"
  pub default_known : (terms.default ≡ default_length) ⊎ (terms.default ≡ former_default)

unfoldable pub limit_outside : Terms → Bool
limit_outside terms = outside 1 max_limit terms.limit

unfoldable pub rule_outside : Terms → Bool
rule_outside terms = outside 1 max_rule terms.rule

unfoldable pub default_outside : Terms → Bool
default_outside terms = not (eqb terms.default default_length || eqb terms.default former_default)

unfoldable pub allowed : Terms → Bool
allowed terms = every (not (limit_outside terms) ∷ not (rule_outside terms) ∷ not (default_outside terms) ∷ [])
