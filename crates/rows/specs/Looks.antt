-- What a walk over the rows comes to with one row more. Nothing here is promised to a user: it is how the code comes to know what Sound and Choice say.
use Rattle.std.specs.Prelude.{Bool, true, not, cond, [], ◌∷◌, ℕ, ◌+◌, ◌*◌, min, Option, Some, None}
use Rattle.laws.specs.Lists.{every}
use Rattle.rows.specs.declared.Request.{Request}
use Rattle.rows.specs.declared.Row.{Row}
use Rattle.rows.specs.declared.State.{State}
use Rattle.rows.specs.declared.State.TheVariants.{Free, Going, Asking}
use Rattle.rows.specs.declared.Terms.{Terms}
use Rattle.rows.specs.declared.looking.Bid.{Bid}
use Rattle.rows.specs.declared.looking.First.{First}
use Rattle.rows.specs.declared.looking.Seen.{Seen}
use Rattle.rows.specs.Numbers.{ceiling}
use Rattle.rows.specs.Virtual.{reached}
use Rattle.rows.specs.Orderly.{orderly_as}
use Rattle.rows.specs.Order.{bid_of, goes_before}

-- a position that no row of a sound table comes to
abbrev pub beyond : ℕ
beyond = ceiling + 1

-- nothing seen yet
abbrev pub unseen : Seen
unseen = record { weights = 0; moments = 0; nearest = beyond; first = None }

-- a row's part in W and A
abbrev pub counting : Seen → ℕ → ℕ → Seen
counting s weight position =
    record { weights = s.weights + weight; moments = s.moments + weight * position; nearest = s.nearest; first = s.first }

-- where a going row stands
abbrev pub passing : Seen → ℕ → Seen
passing s position = record { weights = s.weights; moments = s.moments; nearest = min s.nearest position; first = s.first }

-- a row that may be served takes the place of the first so far only if there is none, or if it goes before it
abbrev pub leads_over : Terms → Option First → Bid → Bool
leads_over terms None b = true
leads_over terms (Some best) b = goes_before terms b best.bid

unfoldable pub leads : Terms → Seen → Bid → Bool
leads terms s b = leads_over terms s.first b

abbrev pub led_by : Seen → First → Seen
led_by s new = record { weights = s.weights; moments = s.moments; nearest = s.nearest; first = Some new }

unfoldable pub bidding : Terms → Seen → First → Seen
bidding terms s new = cond (leads terms s new.bid) (led_by s new) s

-- one row more, W and A being as they are stored; none if it has a fault
unfoldable pub seen_free : Seen → ℕ → ℕ → Option Seen
seen_free s weight position = cond (orderly_as Free weight position) (Some s) None

unfoldable pub seen_going : ℕ → ℕ → Seen → ℕ → ℕ → Option Seen
seen_going total sum s weight position =
    cond (every (orderly_as Going weight position ∷ not (reached position total sum) ∷ [])) (Some (passing (counting s weight position) position)) None

unfoldable pub seen_bidding : Terms → ℕ → ℕ → Seen → ℕ → Request → ℕ → ℕ → ℕ → Seen
seen_bidding terms total sum s at q from weight position =
    cond (reached from total sum) (bidding terms s (record { queue = at; bid = bid_of weight position q })) s

unfoldable pub seen_asking : Terms → ℕ → ℕ → Seen → ℕ → Request → ℕ → ℕ → Option Seen
seen_asking terms total sum s at q weight position =
    cond (orderly_as (Asking q) weight position)
    (Some (seen_bidding terms total sum (counting s weight position) at q q.opening weight position))
    None

abbrev pub seen_as : Terms → ℕ → ℕ → Seen → ℕ → State → ℕ → ℕ → Option Seen
seen_as terms total sum s at Free weight position = seen_free s weight position
seen_as terms total sum s at Going weight position = seen_going total sum s weight position
seen_as terms total sum s at (Asking q) weight position = seen_asking terms total sum s at q weight position

unfoldable pub seen_after : Terms → ℕ → ℕ → Seen → ℕ → Row → Option Seen
seen_after terms total sum s at r = seen_as terms total sum s at r.state r.weight r.position
