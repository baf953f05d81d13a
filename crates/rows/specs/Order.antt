-- Document 01, "Grant": the order in which requests go. Three laws of it stand in `proofs/Order.antt`, and no proof uses anything else of it.
use Rattle.std.specs.Prelude.{Bool, cond, ℕ, ltb, eqb}
use Rattle.rows.specs.declared.Request.{Request}
use Rattle.rows.specs.declared.Row.{Row}
use Rattle.rows.specs.declared.State.{State}
use Rattle.rows.specs.declared.State.TheVariants.{Free, Going, Asking}
use Rattle.rows.specs.declared.Terms.{Terms}
use Rattle.rows.specs.declared.looking.Bid.{Bid}
use Rattle.rows.specs.Row.{deadline_of}

-- what an asking row bids for the engine with; the others bid nothing, and nobody asks them
unfoldable pub bid_of : ℕ → ℕ → Request → Bid
bid_of weight position q = record { deadline = deadline_of weight q; position = position }

abbrev pub bid_as : State → ℕ → ℕ → Bid
bid_as Free weight position = record { deadline = 0; position = 0 }
bid_as Going weight position = record { deadline = 0; position = 0 }
bid_as (Asking q) weight position = bid_of weight position q

unfoldable pub bid : Row → Bid
bid r = bid_as r.state r.weight r.position

-- "the one with the least deadline": a bid goes before another
abbrev pub sooner : Bid → Bid → Bool
sooner b other = ltb b.deadline other.deadline

-- T-06, "Equal deadlines go to the lesser position"
abbrev pub sooner_or_behind : Bid → Bid → Bool
sooner_or_behind b other = cond (eqb b.deadline other.deadline) (ltb b.position other.position) (sooner b other)

-- "A fresh table is made for rule 1 or 2 and keeps it"
unfoldable pub goes_before : Terms → Bid → Bid → Bool
goes_before terms b other = cond (eqb terms.rule 2) (sooner_or_behind b other) (sooner b other)
