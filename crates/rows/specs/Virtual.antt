-- Virtual time by cross products: where a position stands to V = A / W.
use Rattle.std.specs.Prelude.{Bool, true, false, cond, ℕ, ◌+◌, ◌-◌, ◌*◌, ◌/◌, ◌≤◌, ltb, eqb}
use Rattle.rows.specs.declared.Row.{Row}
use Rattle.rows.specs.declared.Standing.{Standing}
use Rattle.rows.specs.declared.Standing.TheVariants.{Behind, Level, Ahead}
use Rattle.rows.specs.declared.State.{State}
use Rattle.rows.specs.declared.State.TheVariants.{Free, Going, Asking}

-- "Virtual time V is the fraction A / W". A position is at most V where position x W is at most A: the cross product, never a rounded quotient.
abbrev pub Reached : ℕ → ℕ → ℕ → Type 0
Reached position total sum = position * total ≤ sum

-- T-05, "which of three: behind V, level with it, or ahead, and then the least whole number of position units V has yet to rise": that is what is missing from
-- A, in parts of W, rounded up
unfoldable pub standing_at : ℕ → ℕ → ℕ → Standing
standing_at position total sum =
    cond (ltb (position * total) sum) Behind
    (cond (eqb (position * total) sum) Level (Ahead ((position * total - sum + (total - 1)) / total)))

-- "The test whether a position has been reached": it is not ahead; of a row's position, a lag of 0 or more
abbrev pub not_ahead : Standing → Bool
not_ahead Behind = true
not_ahead Level = true
not_ahead (Ahead units) = false

unfoldable pub reached : ℕ → ℕ → ℕ → Bool
reached position total sum = not_ahead (standing_at position total sum)

-- "going rows whose lag is 0 or more": to be released
abbrev pub ready_as : ℕ → ℕ → State → ℕ → Bool
ready_as total sum Free position = false
ready_as total sum Going position = reached position total sum
ready_as total sum (Asking q) position = false

unfoldable pub ready_at : ℕ → ℕ → Row → Bool
ready_at total sum r = ready_as total sum r.state r.position

-- "Among asking rows with opening at most V"
abbrev pub eligible_as : ℕ → ℕ → State → Bool
eligible_as total sum Free = false
eligible_as total sum Going = false
eligible_as total sum (Asking q) = reached q.opening total sum

unfoldable pub eligible_at : ℕ → ℕ → Row → Bool
eligible_at total sum r = eligible_as total sum r.state
