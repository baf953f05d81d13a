-- Document 01, "The events": what an accepted event makes of a table, said of the table before (t) and the table after (u) and not by the function that
-- carries the event out.
use Rattle.std.specs.Prelude.{◌≡◌, Bool, true, false, ◌⊎◌, ◌↔◌, ◌≢◌, ℕ, suc, ◌+◌, ◌-◌, ◌*◌, ◌≤◌, ◌<◌, ℤ, pos, length}
use Rattle.rows.specs.declared.Request.{Request}
use Rattle.rows.specs.declared.Row.{Row}
use Rattle.rows.specs.declared.Standing.{Standing}
use Rattle.rows.specs.declared.Standing.TheVariants.{Behind, Level, Ahead}
use Rattle.rows.specs.declared.State.TheVariants.{Going, Asking}
use Rattle.rows.specs.declared.Terms.{Terms}
use Rattle.rows.specs.Numbers.{queues, step_of}
use Rattle.rows.specs.Row.{blank, is_free, is_going, is_asking}
use Rattle.rows.specs.Virtual.{Reached}
use Rattle.head.specs.declared.Event.TheVariants.{Join, Leave}
use Rattle.head.specs.Answers.{number}
use Rattle.head.specs.Lag.{lag_of}
use Rattle.share.specs.declared.Table.{Table}
use Rattle.share.specs.Calls.{step}
use Rattle.share.specs.Events.{meant}
use Rattle.share.specs.Release.{freed}
use Rattle.share.specs.Sound.{Calm}
use Rattle.share.specs.Table.{row, AtMostV}

-- "An asking row holds its weight, its position and its open request: opening position, length, ticks served, and the length for its next request."
pub record AsksWith (r : Row) (weight position opening length served next : ℕ) : Type 0 where
  pub weight_is : r.weight ≡ weight
  pub position_is : r.position ≡ position
  pub request_is : r.state ≡ Asking (record { opening = opening; length = length; served = served; next = next })

-- "total weight W of all rows not free; the sum A of weight x position over them": both as they were
pub record SameSums (t u : Table) : Type 0 where
  pub total_same : u.head.total ≡ t.head.total
  pub sum_same : u.head.sum ≡ t.head.sum

-- "the slice that is out, if any, with its holder and its ticks": as it was
pub record SameSlice (t u : Table) : Type 0 where
  pub out_same : u.head.out ≡ t.head.out
  pub holder_same : u.head.holder ≡ t.head.holder
  pub ticks_same : u.head.ticks ≡ t.head.ticks

-- "Release. After every accepted join, leave, reweight or return, going rows whose lag is 0 or more are freed until there is none." Said of every row
-- but that of the queue named.
pub record ReleaseFollows (t u : Table) (queue : ℕ) : Type 0 where
  -- a row that is not going stays
  pub others_same : (i : ℕ) → i ≢ queue → is_going (row t i).state ≡ false → row u i ≡ row t i
  -- "going rows whose lag is 0 or more are freed": exactly those that V has reached when all is done
  pub freed_exactly : (i : ℕ) → i ≢ queue → is_going (row t i).state ≡ true → (row u i ≡ blank) ↔ AtMostV u (row t i).position
  -- the other going rows stay
  pub waits : (i : ℕ) → i ≢ queue → is_going (row t i).state ≡ true → (AtMostV u (row t i).position → ⊥) → row u i ≡ row t i
  -- "until there is none"
  pub none_left : Calm u

-- T-02, "a resting position: the position of the last row freed": of all rows that were there it is the furthest, for V had reached each of them
pub record ComesToRest (t u : Table) : Type 0 where
  pub last : ℕ
  pub was_there : is_free (row t last).state ≡ false
  pub rests_there : u.head.resting ≡ (row t last).position
  pub furthest : (i : ℕ) → is_free (row t i).state ≡ false → (row t i).position ≤ u.head.resting

-- "which is then V exactly": of a row whose departure leaves the table empty
pub record LastFreed (t : Table) (i : ℕ) : Type 0 where
  -- its lag is 0
  pub lag_none : lag_of t.head (row t i) ≡ pos 0
  -- V is A / W, so its position x W is A
  pub stands_at_V : (row t i).position * t.head.total ≡ t.head.sum
  -- and there the table rests
  pub rests_there : (freed t i).head.resting ≡ (row t i).position

-- "Fresh. An empty table with the given slice limit."
pub record FreshMeans (u : Table) (terms : Terms) : Type 0 where
  -- "Queue numbers 0 to 63, one row each." "free rows all zero"
  pub one_each : length u.rows ≡ queues
  pub all_free : (i : ℕ) → row u i ≡ blank
  -- W and A of no rows
  pub total_none : u.head.total ≡ 0
  pub sum_none : u.head.sum ≡ 0
  -- the resting position "is 0 in a fresh table" (T-02)
  pub rest_none : u.head.resting ≡ 0
  -- "with the given slice limit"
  pub terms_given : u.head.terms ≡ terms
  -- "With no slice out, holder and ticks are zero."
  pub not_out : u.head.out ≡ false
  pub holder_none : u.head.holder ≡ 0
  pub ticks_none : u.head.ticks ≡ 0

-- "Length."
pub record LengthMeans (t u : Table) (queue length : ℕ) : Type 0 where
  -- the row was asking (refusal 8)
  pub request : Request
  pub asked : (row t queue).state ≡ Asking request
  -- "Sets the length of the next request. The open one stays."
  pub asks : AsksWith (row u queue) (row t queue).weight (row t queue).position request.opening request.length request.served (meant t length)
  -- W and A stay, since no position moves
  pub sums : SameSums t u
  -- no slice comes or goes
  pub slice : SameSlice t u
  -- "Slice limit 1 to 100 ticks, fixed when a table is made."
  pub terms_same : u.head.terms ≡ t.head.terms
  -- an event alters only the row that it names
  pub others_same : (i : ℕ) → i ≢ queue → row u i ≡ row t i

-- "Grant. ... The answer is the number and the slice."
pub record GrantMeans (t u : Table) (queue slice : ℕ) : Type 0 where
  -- no row is altered
  pub rows_same : u.rows ≡ t.rows
  -- nor are W and A
  pub sums : SameSums t u
  -- "fixed when a table is made"
  pub terms_same : u.head.terms ≡ t.head.terms
  -- "the slice that is out, ... with its holder and its ticks"
  pub out : u.head.out ≡ true
  pub holder_is : u.head.holder ≡ queue
  pub ticks_is : u.head.ticks ≡ slice

-- "Return. Names the holder, the ticks used (0 to the slice) and whether the request ended early."
pub record ReturnMeans (t u : Table) (queue used : ℕ) (early : Bool) : Type 0 where
  -- the holder was asking
  pub request : Request
  pub asked : (row t queue).state ≡ Asking request
  -- "Position rises by used x step."
  pub position : ℕ
  pub rises : position ≡ (row t queue).position + used * step_of (row t queue).weight
  -- "If the request is used up or ended early, the next opens at the new position (equations 11 and 12)."
  pub next_opens : (early ≡ true) ⊎ (request.length ≤ request.served + used) → AsksWith (row u queue) (row t queue).weight position position request.next 0 request.next
  -- else it stays open, with the ticks used served
  pub stays_open : early ≡ false → request.served + used < request.length → AsksWith (row u queue) (row t queue).weight position request.opening request.length (request.served + used) request.next
  -- "The slice is no longer out." "With no slice out, holder and ticks are zero."
  pub in_again : u.head.out ≡ false
  pub holder_none : u.head.holder ≡ 0
  pub ticks_none : u.head.ticks ≡ 0
  -- "fixed when a table is made"
  pub terms_same : u.head.terms ≡ t.head.terms
  -- the release after it
  pub release : ReleaseFollows t u queue

-- "Join."
pub record JoinMeans (t u : Table) (queue weight length : ℕ) : Type 0 where
  -- the row was free (refusal 7)
  pub was_free : is_free (row t queue).state ≡ true
  -- "The queue enters at the least whole number not below V": V is A / W, so the number x W is not below A, and of such numbers it is the least
  pub position : ℕ
  pub not_below : 0 < t.head.total → t.head.sum ≤ position * t.head.total
  pub least : 0 < t.head.total → (c : ℕ) → t.head.sum ≤ c * t.head.total → position ≤ c
  -- or where the empty table rests: "The next queue enters there." (T-02)
  pub into_empty : t.head.total ≡ 0 → position ≡ t.head.resting
  -- "and opens its first request; the length given also holds for its later ones until a length event"
  pub asks : AsksWith (row u queue) weight position position (meant t length) 0 (meant t length)
  -- no slice comes or goes
  pub slice : SameSlice t u
  -- "fixed when a table is made"
  pub terms_same : u.head.terms ≡ t.head.terms
  -- the release after it
  pub release : ReleaseFollows t u queue

-- "Leave."
pub record LeaveMeans (t u : Table) (queue : ℕ) : Type 0 where
  -- the row was asking (refusal 8)
  pub asked : is_asking (row t queue).state ≡ true
  -- "If its lag is 0 or more, the row is freed." V has reached a row exactly when its lag is 0 or more (`lag_sign`); only then is it free.
  pub freed_exactly : (row u queue ≡ blank) ↔ AtMostV t (row t queue).position
  -- "Else it becomes going: its request is dropped, it keeps its weight in W"
  pub becomes_going : (AtMostV t (row t queue).position → ⊥) → row u queue ≡ record { weight = (row t queue).weight; position = (row t queue).position; state = Going }
  pub sums_kept : (AtMostV t (row t queue).position → ⊥) → SameSums t u
  -- and nothing else becomes ready, since V stays
  pub others_same : (AtMostV t (row t queue).position → ⊥) → (i : ℕ) → i ≢ queue → row u i ≡ row t i
  -- where no one is left the table rests (T-02)
  pub rests : u.head.total ≡ 0 → ComesToRest t u
  -- no slice comes or goes
  pub slice : SameSlice t u
  -- "fixed when a table is made"
  pub terms_same : u.head.terms ≡ t.head.terms
  -- the release after it
  pub release : ReleaseFollows t u queue

-- "Reweight. Allowed at lag 0 or more: an accepted leave with its release, then at once an accepted join of the same number with the new weight and
-- length, with its release"
pub record ReweightMeans (t u : Table) (queue weight length : ℕ) : Type 0 where
  -- "Allowed at lag 0 or more"
  pub owed : AtMostV t (row t queue).position
  -- "an accepted leave with its release"
  pub leaves : number (step t (Leave queue)).answer ≡ 0
  -- "then at once an accepted join of the same number with the new weight and length, with its release"
  pub joins : number (step (step t (Leave queue)).table (Join queue weight length)).answer ≡ 0
  -- and nothing besides
  pub table_is : u ≡ (step (step t (Leave queue)).table (Join queue weight length)).table

-- T-05, "behind V, level with it, or ahead, and then the least whole number of position units V has yet to rise": by the lag that the report has for the row,
-- and by V = A / W, which reaches the row if it rises by so much, and if it rises by one less does not
pub record AheadBy (t : Table) (queue units : ℕ) : Type 0 where
  pub lag_below : (n : ℕ) → lag_of t.head (row t queue) ≢ pos n
  pub at_least_1 : 1 ≤ units
  pub reaches_it : Reached (row t queue).position t.head.total (t.head.sum + units * t.head.total)
  pub no_less_does : Reached (row t queue).position t.head.total (t.head.sum + (units - 1) * t.head.total) → ⊥

abbrev pub StandsAs : Table → ℕ → Standing → Type 0
StandsAs t queue Behind = (n : ℕ) × (lag_of t.head (row t queue) ≡ pos (suc n))
StandsAs t queue Level = lag_of t.head (row t queue) ≡ pos 0
StandsAs t queue (Ahead units) = AheadBy t queue units

-- "Lag ...: positive when the engine owes it time": a lag of 0 or more, by its numerator
abbrev pub NotBelow0 : ℤ → Type 0
NotBelow0 lag = (n : ℕ) × (lag ≡ pos n)
