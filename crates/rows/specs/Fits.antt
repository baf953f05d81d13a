-- What functions of a row ask for so that their sums and products fit.
use Rattle.std.specs.Prelude.{ℕ, ◌+◌, ◌*◌, ◌^◌, ◌≤◌, ◌<◌}
use Rattle.rows.specs.declared.Request.{Request}
use Rattle.rows.specs.declared.Row.{Row}
use Rattle.rows.specs.declared.State.{State}
use Rattle.rows.specs.declared.State.TheVariants.{Free, Going, Asking}
use Rattle.rows.specs.declared.looking.Seen.{Seen}
use Rattle.rows.specs.Numbers.{max_weight, max_length, ceiling}

-- one part of a sum for another
pub record Exchanging (sum out into : ℕ) : Type 0 where
  pub has_it : out ≤ sum
  pub fits : sum + into < 2 ^ 64

-- one row more fits into the sums
pub record Roomy (s : Seen) : Type 0 where
  pub weights_fit : s.weights + max_weight < 2 ^ 64
  pub moments_fit : s.moments + max_weight * ceiling < 2 ^ 64

-- a request whose bid fits
pub record Bidding (q : Request) (from : ℕ) : Type 0 where
  pub from_high : from ≤ ceiling
  pub opening_high : q.opening ≤ ceiling
  pub length_high : q.length ≤ max_length

abbrev pub served_as : State → ℕ
served_as Free = 0
served_as Going = 0
served_as (Asking q) = q.served

-- a row's request, charged with no more ticks than fit
pub record Charging (r : Row) (used : ℕ) : Type 0 where
  pub position_high : r.position ≤ ceiling
  pub used_high : used ≤ max_length
  pub fits : served_as r.state + used < 2 ^ 64
