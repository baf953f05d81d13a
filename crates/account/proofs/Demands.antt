-- The three demands, each sentence above its statement. A statement is about the functions that the contracts of the public calls cite (`step`, `release_reply`
-- and `lag_reply` of share's specs/Calls): `answered` is what a call answers by them, `table_of` the table that a list of calls leaves from a fresh one, and
-- `account_of_calls` its account. So code, contract, definition and theorem are one chain. The words that the statements use stand in specs/, which is all that
-- a reader has to believe; the proofs stand where each citation says.
use mathlib.Core.Bool.{true, false, Bool}
use mathlib.Core.List.{List, map, ◌∷◌, ◌++◌, []}
use mathlib.Core.Logic.{◌≢◌, ◌↔◌}
use mathlib.Core.Option.{none}
use mathlib.Core.Path.{◌≡◌}
use Prim.Native.Nat.{ℕ, ◌*◌, ◌≤◌, ◌<◌, ◌+◌, ◌^◌}
use lib.IntN.{ℤ, pos}
use lib.ListN.{length, take}
use lib.Signed.{mag}
use Rattle.std.specs.Prelude.{Ok}
use Rattle.laws.specs.Lists.{all}
use Rattle.rows.specs.declared.Row.{Row}
use Rattle.rows.specs.declared.Standing.{Standing}
use Rattle.rows.specs.declared.Terms.{Terms}
use Rattle.rows.specs.Numbers.{unit, queues, least_terms, step_of, max_weight}
use Rattle.rows.specs.Orderly.{Allowed}
use Rattle.rows.specs.Row.{is_free, is_going, blank}
use Rattle.rows.specs.Virtual.{not_ahead}
use Rattle.head.specs.declared.Answer.TheVariants.{Granted, Stands}
use Rattle.head.specs.declared.Event.{Event}
use Rattle.head.specs.declared.Event.TheVariants.{Fresh, Join, Leave, Reweight, Length, Grant, Return}
use Rattle.head.specs.declared.Head.{Head}
use Rattle.head.specs.declared.Refusal.{Refusal}
use Rattle.head.specs.declared.Refusal.TheVariants.{LimitOutside, RuleOutside, DefaultOutside}
use Rattle.head.specs.Answers.{refusal_number, number, slice_granted, queue_granted, denominator_given}
use Rattle.head.specs.Lag.{lag_of}
use Rattle.head.specs.Refusals.{first_refusal}
use Rattle.share.specs.declared.Table.{Table}
use Rattle.share.specs.Calls.{refused, accepted, checks_of, grant_reply, lag_reply, lag_list, standing_reply, release_reply, fresh_reply, step}
use Rattle.share.specs.Choice.{eligible, deadline, Chosen}
use Rattle.share.specs.Events.{empty_table, meant}
use Rattle.share.specs.Release.{Frees, released, freed, Weighed}
use Rattle.share.specs.Runs.{run, replies}
use Rattle.share.specs.Sound.{Sound, Orderly}
use Rattle.share.specs.Table.{row, AtMostV, TrueSums}
use Rattle.calls.specs.Against.{NoneLower, Against, LimitWrong, RuleWrong, DefaultWrong, OnTable}
use Rattle.calls.specs.ByName.{by_name, all_by_name}
use Rattle.calls.specs.Meaning.{FreshMeans, JoinMeans, LeaveMeans, ReweightMeans, LengthMeans, GrantMeans, ReturnMeans, LastFreed, StandsAs, NotBelow0}
use Rattle.calls.specs.Public.{HandedBack, table_of, Call, answered, done_on, event}
use Rattle.calls.specs.Rightly.{Rightly}
use Rattle.fractions.specs.Fraction.{nothing, ◌~◌, at_most, total, ◌⊕◌}
use Rattle.fractions.specs.Signed.{summed}
use Rattle.account.specs.Account.{present, Queue, Account, entry, owed_to, weight_left, no_one}
use Rattle.account.specs.Agrees.{Agrees}
use Rattle.account.specs.Books.{Books, booked}
use Rattle.account.specs.Bound.{too_low}
use Rattle.account.specs.Changes.{Change}
use Rattle.account.specs.Clock.{call_goes_on, change_goes_on}
use Rattle.account.specs.Counted.{account_of, table_after, changes, account_of_calls}
use Rattle.account.specs.Departures.{CountedOnce, freed_twice, seven_lines, eight_lines}
use Rattle.account.specs.Longest.{longest_seen}
use Rattle.account.specs.Named.{names, Stays, named_by}
use Rattle.account.specs.Passing.{given_by, given}
use Rattle.account.specs.Report.{virtual_time, reported, lag_in}
use Rattle.account.specs.Same.{Same}
use Rattle.head.specs.Head as Head
use Rattle.head.proofs.Entry as Entry
use Rattle.share.proofs.Release as Release
use Rattle.calls.proofs.Answering as Answering
use Rattle.calls.proofs.ByName as ByName
use Rattle.calls.proofs.Calling as Calling
use Rattle.calls.proofs.Given as Given
use Rattle.calls.proofs.OneDeparture as OneDeparture
use Rattle.calls.proofs.Departed as Departed
use Rattle.calls.proofs.Meaning as Meaning
use Rattle.calls.proofs.Standing as Standing
use Rattle.calls.proofs.Choosing as Choosing
use Rattle.calls.proofs.Equations as Equations
use Rattle.calls.proofs.Exactly as Exactly
use Rattle.calls.proofs.Figures as Figures
use Rattle.rows.proofs.Steps as Steps
use Rattle.calls.proofs.Granting as Granting
use Rattle.calls.proofs.Panel as Panel
use Rattle.calls.proofs.Resting as Resting
use Rattle.account.proofs.Called as Called
use Rattle.account.proofs.Clock as Clock
use Rattle.account.proofs.Passing as Passing
use Rattle.account.proofs.Theorems as Theorems
use Rattle.account.proofs.Departures as Departures
use Rattle.account.proofs.Twice as Twice
use Rattle.account.proofs.Frames as Frames

-- 1. "Every call accepts any table and any numbers, and ends." (No public call has a `requires`, and the checker proves that each returns: that is no
-- statement about definitions.) "What is not allowed is refused by its number," the fields that a call does not speak of are 0,
pub refused_by_its_number : (t : Table) (c : Call) (why : Refusal) → number (answered t c).answer ≡ refusal_number why → HandedBack t (answered t c) why
refused_by_its_number = Given.refused_by

pub only_a_grant_names_a_queue : (t : Table) (c : Call) → c ≢ event Grant → (queue_granted (answered t c).answer ≡ 0) × (slice_granted (answered t c).answer ≡ 0)
only_a_grant_names_a_queue = Figures.names_no_queue

pub no_event_names_a_denominator : (t : Table) (e : Event) → denominator_given (step t e).answer ≡ 0
no_event_names_a_denominator = Figures.no_denominator

-- each number exactly when document 01's words hold (`Against`, call by call) and none of a lower number does: "in the fixed order;"
pub given_exactly_when : (t : Table) (c : Call) (why : Refusal) → (number (answered t c).answer ≡ refusal_number why) ↔ (Against t c why × NoneLower t c why)
given_exactly_when = Given.given_exactly

-- 1 exactly when the table isn't sound
pub one_exactly_when_not_sound : (t : Table) (c : Call) → OnTable c → (number (answered t c).answer ≡ 1) ↔ (Sound t → ⊥)
one_exactly_when_not_sound = Given.one_exactly

-- and what no words speak against is done
pub allowed_is_done : (t : Table) (c : Call) → ((why : Refusal) → Against t c why → ⊥) → answered t c ≡ done_on t c
allowed_is_done = Given.done_where_nothing

-- "the table comes back as given"
pub refused_hands_the_table_back : (t : Table) (c : Call) → number (answered t c).answer ≢ 0 → (answered t c).table ≡ t
refused_hands_the_table_back = Calling.refused_table

pub report_hands_the_table_back : (t : Table) (lent : List ℤ) → (lag_reply t lent).table ≡ t
report_hands_the_table_back = Answering.report_table

pub standing_hands_the_table_back : (t : Table) (queue : ℕ) → (standing_reply t queue).table ≡ t
standing_hands_the_table_back = Answering.standing_table

pub release_hands_the_table_back : (t : Table) → Sound t → release_reply t ≡ accepted t
release_hands_the_table_back = Calling.release_sound

-- (refused, `fresh` has none to hand back and gives the empty table of slice limit 1, rule 1 and default 8)
pub refused_fresh_is_empty : (terms : Terms) → LimitWrong terms → fresh_reply terms ≡ refused (empty_table least_terms) LimitOutside
refused_fresh_is_empty = Given.fresh_wrong

pub fresh_of_no_rule_is_empty : (terms : Terms) → (LimitWrong terms → ⊥) → RuleWrong terms → fresh_reply terms ≡ refused (empty_table least_terms) RuleOutside
fresh_of_no_rule_is_empty = Given.fresh_ruled_wrong

pub fresh_of_no_default_is_empty : (terms : Terms) → (LimitWrong terms → ⊥) → (RuleWrong terms → ⊥) → DefaultWrong terms → fresh_reply terms ≡ refused (empty_table least_terms) DefaultOutside
fresh_of_no_default_is_empty = Given.fresh_default_wrong

-- "and a lent list stays untouched."
pub refused_leaves_the_list : (t : Table) (lent : List ℤ) → number (lag_reply t lent).answer ≢ 0 → lag_list t lent ≡ lent
refused_leaves_the_list = Answering.refused_list

-- 2. "Every accepted event gives the queue, slice"
pub grants_rightly : (t : Table) → first_refusal (checks_of t Grant) ≡ none → (queue slice : ℕ) → (grant_reply t).answer ≡ Ok (Granted queue slice) → Rightly t queue slice
grants_rightly = Granting.grant_rightly

pub only_one_is_chosen : (t : Table) (i j : ℕ) → Chosen t i → Chosen t j → i ≡ j
only_one_is_chosen = Choosing.chosen_only

-- "and table that the EEVDF rules give,"
pub tables_stay_sound : (t : Table) (c : Call) → Sound t → Sound (answered t c).table
tables_stay_sound = Calling.answered_keeps

pub runs_are_sound : (terms : Terms) → Allowed terms → (cs : List Call) → Sound (table_of terms cs)
runs_are_sound = Called.calls_sound

-- and event by event, said of the table before and the table after (calls' specs/Meaning has the words). "Fresh. An empty table with the given slice
-- limit."
pub fresh_means : (t : Table) (terms : Terms) → number (step t (Fresh terms)).answer ≡ 0 → FreshMeans (step t (Fresh terms)).table terms
fresh_means = Meaning.fresh_means

-- "Join. The queue enters at the least whole number not below V," or where an empty table rests (T-02), "and opens its first request; the length given also
-- holds for its later ones until a length event."
pub join_means : (t : Table) (queue weight length : ℕ) → number (step t (Join queue weight length)).answer ≡ 0 → JoinMeans t (step t (Join queue weight length)).table queue weight length
join_means = Meaning.join_means

-- "a length of 0 in a call stands for the house default": that of the table, 8 or 20 (T-09)
pub zero_means_the_default : (t : Table) → meant t 0 ≡ t.head.terms.default
zero_means_the_default = Standing.zero_means

pub other_lengths_mean_themselves : (t : Table) (length : ℕ) → length ≢ 0 → meant t length ≡ length
other_lengths_mean_themselves = Standing.other_means

-- (and for nothing else: a run gives the answers and tables of the run in which every 0 is the default by name, so an old list of events reads as before in a
-- table of default 20)
pub zero_is_the_default_by_name : (t : Table) (e : Event) → step t (by_name t.head.terms e) ≡ step t e
zero_is_the_default_by_name = ByName.step_by_name

pub runs_by_name_are_the_same : (t : Table) (es : List Event) → replies t (all_by_name t es) ≡ replies t es
runs_by_name_are_the_same = ByName.replies_by_name

pub runs_by_name_end_the_same : (t : Table) (es : List Event) → run t (all_by_name t es) ≡ run t es
runs_by_name_end_the_same = ByName.run_by_name

-- "Leave. If its lag is 0 or more, the row is freed. Else it becomes going: its request is dropped, it keeps its weight in W and gets no slices"
pub leave_means : (t : Table) (queue : ℕ) → number (step t (Leave queue)).answer ≡ 0 → LeaveMeans t (step t (Leave queue)).table queue
leave_means = Departed.leave_means

-- "Lag of a row ...: positive when the engine owes it time.": it is 0 or more exactly when V has reached the row
pub lag_sign : (t : Table) → Orderly t → (i : ℕ) → is_free (row t i).state ≡ false → AtMostV t (row t i).position ↔ NotBelow0 (lag_of t.head (row t i))
lag_sign = Standing.lag_sign

-- T-05: where a row stands, as the panel is told. Behind V is a lag above 0, level one of 0, ahead one below 0, and the number is the least by which V has to
-- rise (`StandsAs`); the test whether V has reached a position is that it is not ahead
pub standing_means : (t : Table) (queue : ℕ) (s : Standing) → (standing_reply t queue).answer ≡ Ok (Stands s) → StandsAs t queue s
standing_means = Panel.standing_means

pub reached_is_not_ahead : (h : Head) (position : ℕ) → (not_ahead (Head.standing_by h position) ≡ true) ↔ Head.AtMostV h position
reached_is_not_ahead = Panel.reached_not_ahead

-- so a queue that leaves is freed, and a going row released, exactly when its lag is 0 or more (and refusal 9 is said by the lag, in `Against`)
pub left_by_its_lag : (t : Table) (queue : ℕ) → number (step t (Leave queue)).answer ≡ 0 → (row (step t (Leave queue)).table queue ≡ blank) ↔ NotBelow0 (lag_of t.head (row t queue))
left_by_its_lag = Standing.left_by_lag

pub released_by_its_lag : (t : Table) → Orderly t → (j : ℕ) → is_going (row t j).state ≡ true → (is_free (row (released t) j).state ≡ true) ↔ NotBelow0 (lag_of (released t).head (row t j))
released_by_its_lag = Standing.released_by_lag

-- "Reweight. Allowed at lag 0 or more: an accepted leave with its release, then at once an accepted join of the same number with the new weight and length,
-- with its release"
pub reweight_means : (t : Table) (queue weight length : ℕ) → number (step t (Reweight queue weight length)).answer ≡ 0 → ReweightMeans t (step t (Reweight queue weight length)).table queue weight length
reweight_means = Departed.reweight_means

-- "Length. Sets the length of the next request. The open one stays."
pub length_means : (t : Table) (queue length : ℕ) → number (step t (Length queue length)).answer ≡ 0 → LengthMeans t (step t (Length queue length)).table queue length
length_means = Meaning.length_means

-- "Grant. Among asking rows with opening at most V, the one with the least deadline; of equal deadlines, the lowest number. The answer is the number and the
-- slice."
pub grant_means : (t : Table) (queue slice : ℕ) → (step t Grant).answer ≡ Ok (Granted queue slice) → Rightly t queue slice × GrantMeans t (step t Grant).table queue slice
grant_means = Meaning.grant_means

-- "Return. ... Position rises by used x step. If the request is used up or ended early, the next opens at the new position (equations 11 and 12). The slice is
-- no longer out."
pub return_means : (t : Table) (queue used : ℕ) (early : Bool) → number (step t (Return queue used early)).answer ≡ 0 → ReturnMeans t (step t (Return queue used early)).table queue used early
return_means = Meaning.return_means

-- "Slice limit 1 to 100 ticks, fixed when a table is made."
pub terms_stay : (t : Table) (e : Event) → ((terms : Terms) → e ≢ Fresh terms) → (step t e).table.head.terms ≡ t.head.terms
terms_stay = Standing.terms_stay

-- "total weight W of all rows not free": W is 0 exactly when the table is empty
pub empty_means : (t : Table) → Orderly t → (t.head.total ≡ 0) ↔ ((i : ℕ) → is_free (row t i).state ≡ true)
empty_means = Standing.empty_means

-- "with our rules for rounding,"
pub enters_not_below_V : (h : Head) → 0 < h.total → h.sum ≤ Head.entry h * h.total
enters_not_below_V = Entry.entry_not_below

pub enters_at_the_least : (h : Head) → 0 < h.total → (c : ℕ) → h.sum ≤ c * h.total → Head.entry h ≤ c
enters_at_the_least = Entry.entry_least

-- "ties": under rule 1 to the lower number,
pub ties_to_the_lower : (t : Table) (i j : ℕ) → Chosen t i → eligible t (row t j) ≡ true → deadline (row t j) ≡ deadline (row t i) → t.head.terms.rule ≡ 1 → i ≤ j
ties_to_the_lower = Choosing.lowest_number

-- under rule 2 (T-06) to the lesser position, then the lower number
pub ties_to_the_lesser_position : (t : Table) (i j : ℕ) → Chosen t i → eligible t (row t j) ≡ true → deadline (row t j) ≡ deadline (row t i) → t.head.terms.rule ≡ 2 → (row t i).position ≤ (row t j).position
ties_to_the_lesser_position = Choosing.lesser_position

pub ties_of_position_to_the_lower : (t : Table) (i j : ℕ) → Chosen t i → eligible t (row t j) ≡ true → deadline (row t j) ≡ deadline (row t i) → t.head.terms.rule ≡ 2 → (row t j).position ≡ (row t i).position → i ≤ j
ties_of_position_to_the_lower = Choosing.then_lowest

-- "and departures." (In any order, of a table with true sums whose going rows weigh something: the last one freed then stands at V, whichever it is, T-02.)
pub released_in_any_order : {t u v : Table} → Weighed t → Frees t u → Frees t v → u ≡ v
released_in_any_order = Release.same_end

pub released_is_that_table : {t u : Table} → Weighed t → Frees t u → u ≡ released t
released_is_that_table = Release.frees_released

pub released_when_reached : (t : Table) (j : ℕ) → is_going (row t j).state ≡ true → (is_free (row (released t) j).state ≡ true) ↔ AtMostV (released t) (row t j).position
released_when_reached = Exactly.released_exactly

-- (freeing a row moves V by its lag over the weight that is left, equation 14, once: V' = V + lag / (W - w), crosswise)
pub freeing_is_equation_14 : (t : Table) (i : ℕ) → TrueSums t → i < length t.rows → is_free (row t i).state ≡ false → let r : Row = row t i in (freed t i).head.sum * t.head.total + r.weight * (t.head.total * r.position) ≡ t.head.sum * (freed t i).head.total + r.weight * t.head.sum
freeing_is_equation_14 = OneDeparture.departure_once

-- (and the lag of each who stays, of weight w at p, by its share, equation 15, once: lag' = lag + w x lag of the departed / (W - its weight), crosswise)
pub staying_is_equation_15 : (t : Table) (i : ℕ) (w p : ℕ) → TrueSums t → i < length t.rows → is_free (row t i).state ≡ false → let r : Row = row t i in let u : Table = freed t i in w * u.head.sum * t.head.total + w * (t.head.total * p) * u.head.total + w * (r.weight * (t.head.total * r.position)) ≡ w * (u.head.total * p) * t.head.total + w * t.head.sum * u.head.total + w * (r.weight * t.head.sum)
staying_is_equation_15 = Equations.remaining_lag

-- (T-02: the last row freed has lag 0 and its position is V exactly; there the table rests)
pub last_freed_stands_at_V : (t : Table) (i : ℕ) → TrueSums t → is_free (row t i).state ≡ false → (freed t i).head.total ≡ 0 → LastFreed t i
last_freed_stands_at_V = Resting.last_freed

-- (720,720 is the least common multiple of 1 to 16, so one tick moves a queue by an exact step)
pub unit_is_a_common_multiple : (w : ℕ) → 1 ≤ w → w ≤ max_weight → w * step_of w ≡ unit
unit_is_a_common_multiple = Steps.weight_times_step

pub unit_is_the_least : (m : ℕ) → 0 < m → ((w : ℕ) → 1 ≤ w → w ≤ max_weight → (k : ℕ) × (w * k ≡ m)) → unit ≤ m
unit_is_the_least = Figures.least_multiple

-- "A grant on a sound table is refused for want of a queue exactly when the table is empty."
pub eleven_exactly_when_empty : (t : Table) → Sound t → (number (grant_reply t).answer ≡ 11) ↔ (t.head.total ≡ 0)
eleven_exactly_when_empty = Granting.grant_eleven

-- 3. "Over any run of calls from a fresh table, each queue's reported lag equals its account worked out afresh from the run;"
pub reported_lag_is_account : (terms : Terms) → Allowed terms → (cs : List Call) (lent : List ℤ) → queues ≤ length lent → (i : ℕ) → i < queues → reported (table_of terms cs) lent i ~ owed_to (entry (account_of_calls terms cs) i)
reported_lag_is_account terms is_allowed cs lent long = Called.report_is_account terms is_allowed cs lent long

-- (the two agree on who is free, going and asking, and on the weights;)
pub account_and_table_agree : (terms : Terms) → Allowed terms → (cs : List Call) (i : ℕ) → Agrees (row (table_of terms cs) i) (entry (account_of_calls terms cs) i)
account_and_table_agree = Called.agree

-- (the account's V is A / W while rows are present, and the resting position while not;)
pub account_has_the_tables_V : (terms : Terms) → Allowed terms → (cs : List Call) → (account_of_calls terms cs).virtual ~ virtual_time (table_of terms cs)
account_has_the_tables_V = Called.same_V

-- (over a whole run V never falls, empty stretches included: not from any point of it to any later one, and not by any change to any account)
pub V_never_falls : (terms : Terms) → Allowed terms → (cs ds : List Call) → all call_goes_on ds ≡ true → at_most (virtual_time (table_of terms cs)) (virtual_time (table_of terms (cs ++ ds))) ≡ true
V_never_falls = Called.V_steady

pub accounts_V_never_falls : (a : Account) (c : Change) → change_goes_on c ≡ true → at_most a.virtual (booked a c).virtual ≡ true
accounts_V_never_falls = Clock.booked_rises

-- (and the account is the same in whatever order it frees rows)
pub account_in_any_order : (terms : Terms) (calls : List Event) (a : Account) → Books (no_one terms) (changes terms calls) a → Same a (account_of terms calls)
account_in_any_order = Theorems.any_order

-- (each numerator fits a signed 64-bit number)
pub reported_lags_fit : (t : Table) → Orderly t → (i : ℕ) → mag (lag_of t.head (row t i)) ≤ 2 ^ 62
reported_lags_fit = Figures.lag_within

-- "each departure counts once;"
pub departure_counts_once : (a : Account) (i : ℕ) → i < length a.entries → 0 < weight_left a i → CountedOnce a i
departure_counts_once = Departures.counted_once

-- (what the table has for one who stays is what it had before, and its share of each row that a release frees, once, in whatever order;)
pub release_passes_on_once : {t u : Table} (way : Frees t u) (j : ℕ) → TrueSums t → is_free (row u j).state ≡ false → 0 < u.head.total → lag_in u j ~ lag_in t j ⊕ given_by way j
release_passes_on_once = Passing.passes_all_once

-- (and of the row that leaves, if that is freed)
pub leave_passes_on_once : (t : Table) (queue j : ℕ) → number (step t (Leave queue)).answer ≡ 0 → AtMostV t (row t queue).position → let u : Table = (step t (Leave queue)).table in is_free (row u j).state ≡ false → 0 < u.head.total → lag_in u j ~ lag_in t j ⊕ (given t queue j ⊕ given_by (Release.released_frees (freed t queue)) j)
leave_passes_on_once = Passing.leave_shares

pub last_one_owes_nothing : (terms : Terms) (calls : List Event) (i : ℕ) (q : Queue) → entry (account_of terms calls) i ≡ present q → weight_left (account_of terms calls) i ≡ 0 → q.owed ~ nothing
last_one_owes_nothing = Theorems.last_owes_nothing

pub counted_twice_it_differs : (freed_twice (account_of least_terms seven_lines) 1).virtual ~ virtual_time (table_after least_terms eight_lines) → ⊥
counted_twice_it_differs = Twice.twice_differs

-- "the lags add up to nothing;"
pub reported_lags_add_up_to_nothing : (terms : Terms) → Allowed terms → (cs : List Call) (lent : List ℤ) → queues ≤ length lent → summed (take queues (lag_list (table_of terms cs) lent)) ≡ pos 0
reported_lags_add_up_to_nothing terms is_allowed cs lent long = Called.report_level terms is_allowed cs lent long

pub accounts_add_up_to_nothing : (terms : Terms) (calls : List Event) → total (map owed_to (account_of terms calls).entries) ~ nothing
accounts_add_up_to_nothing = Theorems.accounts_level

-- "no account falls as low as minus the longest request opened since it last joined;"
pub account_above_minus_longest : (terms : Terms) (calls : List Event) (i : ℕ) (q : Queue) → entry (account_of terms calls) i ≡ present q → too_low q ≡ false
account_above_minus_longest = Theorems.account_above

-- (between a reweight's leave and its join too: both are accepted events, `reweight_means`)
pub account_above_inside_a_reweight : (terms : Terms) (calls : List Event) (queue i : ℕ) (q : Queue) → entry (account_of terms (calls ++ Leave queue ∷ [])) i ≡ present q → too_low q ≡ false
account_above_inside_a_reweight terms calls queue = Theorems.account_above terms (calls ++ Leave queue ∷ [])

pub longest_is_the_longest_seen : (terms : Terms) (calls : List Event) (i : ℕ) (q : Queue) → entry (account_of terms calls) i ≡ present q → q.longest ≡ longest_seen (empty_table terms) calls i 0
longest_is_the_longest_seen = Theorems.longest_seen_lem

-- "an event alters only the rows that it names or releases."
pub event_alters_only : (t : Table) (c : Call) (i : ℕ) → named_by c i ≡ false → Stays (row t i) (row (answered t c).table i)
event_alters_only = Called.alters_only

pub event_names_one_row : (e : Event) → ((terms : Terms) → e ≢ Fresh terms) → (i j : ℕ) → names e i ≡ true → names e j ≡ true → i ≡ j
event_names_one_row = Frames.names_one
