-- Document 01, "A sound table": the slice that is out. Two faces, as in rows' Orderly: the test and the record; `proofs/Slice.antt` has a law each way.
use Rattle.std.specs.Prelude.{◌≡◌, Bool, true, false, [], ◌∷◌, ℕ, ◌≤◌, ◌<◌, leb, ltb, eqb}
use Rattle.laws.specs.Lists.{every}
use Rattle.rows.specs.declared.Request.{Request}
use Rattle.rows.specs.declared.Row.{Row}
use Rattle.rows.specs.declared.State.{State}
use Rattle.rows.specs.declared.State.TheVariants.{Free, Going, Asking}
use Rattle.rows.specs.declared.Terms.{Terms}
use Rattle.rows.specs.Numbers.{queues}
use Rattle.rows.specs.Orderly.{FitsCeiling, fits_ceiling, slice_most, slice_least}
use Rattle.head.specs.declared.Head.{Head}
use Rattle.head.specs.Head.{AtMostV, reached_by}

-- "If a slice is out, its holder is asking, its opening is at most V, its deadline is at most P, and the slice is the lesser of the slice limit and its
-- length less served."
pub record OrderlyHolder (h : Head) (weight : ℕ) (q : Request) : Type 0 where
  pub opened : AtMostV h q.opening
  pub deadline_high : FitsCeiling weight q
  pub slice_low : slice_least h.terms q ≤ h.ticks
  pub slice_high : h.ticks ≤ slice_most h.terms q

unfoldable pub orderly_holder : Head → ℕ → Request → Bool
orderly_holder h weight q =
    every
    (reached_by h q.opening
    ∷ fits_ceiling weight q
    ∷ leb (slice_least h.terms q) h.ticks
    ∷ leb h.ticks (slice_most h.terms q)
    ∷ [])

abbrev pub HeldBy : Head → State → ℕ → Type 0
HeldBy h Free weight = ⊥
HeldBy h Going weight = ⊥
HeldBy h (Asking q) weight = OrderlyHolder h weight q

abbrev pub held_by : Head → State → ℕ → Bool
held_by h Free weight = false
held_by h Going weight = false
held_by h (Asking q) weight = orderly_holder h weight q

-- by the row of its holder. "With no slice out, holder and ticks are zero."
abbrev pub OrderlySlice : Head → Bool → Row → Type 0
OrderlySlice h true r = (h.holder < queues) × HeldBy h r.state r.weight
OrderlySlice h false r = (h.holder ≡ 0) × (h.ticks ≡ 0)

abbrev pub orderly_slice : Head → Bool → Row → Bool
orderly_slice h true r = every (ltb h.holder queues ∷ held_by h r.state r.weight ∷ [])
orderly_slice h false r = every (eqb h.holder 0 ∷ eqb h.ticks 0 ∷ [])

-- "Grant. ... The answer is the number and the slice.": what the chosen row is given
abbrev pub slice_as : Terms → State → ℕ
slice_as terms Free = 0
slice_as terms Going = 0
slice_as terms (Asking q) = slice_most terms q

unfoldable pub slice_for : Head → Row → ℕ
slice_for h r = slice_as h.terms r.state
