-- What an accepted event counts as in the account.
use Rattle.std.specs.Prelude.{Bool, true, false, List, [], ◌∷◌, ℕ}
use Rattle.rows.specs.declared.Terms.{Terms}
use Rattle.head.specs.declared.Event.{Event}
use Rattle.head.specs.declared.Event.TheVariants.{Fresh, Join, Leave, Reweight, Length, Grant, Return}

pub data Change : Type 0 where
  begins : (terms : Terms) → Change
  joins : (queue weight length : ℕ) → Change
  leaves : (queue : ℕ) → Change
  lengthens : (queue length : ℕ) → Change
  returns : (queue used : ℕ) (early : Bool) → Change

-- "A reweight counts here as its leave and then its join, each an event with its own release." An accepted `S` begins
-- a new run; a grant moves no account.
abbrev pub changes_of : Event → List Change
changes_of (Fresh terms) = begins terms ∷ []
changes_of (Join queue weight length) = joins queue weight length ∷ []
changes_of (Leave queue) = leaves queue ∷ []
changes_of (Reweight queue weight length) = leaves queue ∷ joins queue weight length ∷ []
changes_of (Length queue length) = lengthens queue length ∷ []
changes_of Grant = []
changes_of (Return queue used early) = returns queue used early ∷ []

-- "After every accepted join, leave, reweight or return, going rows whose lag is 0 or more are freed"
abbrev pub ends_in_release : Change → Bool
ends_in_release (begins terms) = false
ends_in_release (joins queue weight length) = true
ends_in_release (leaves queue) = true
ends_in_release (lengthens queue length) = false
ends_in_release (returns queue used early) = true
