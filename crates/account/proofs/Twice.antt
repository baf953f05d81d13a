-- Bench case B2, computed: "after it leaves V is 720,720, not 900,900", in the table and in the account; the account passed on twice gives 900,900.
use mathlib.Core.Bool.{false}
use mathlib.Core.List.{List, [], ◌∷◌, ◌++◌}
use mathlib.Core.Path.{◌≡◌, refl, ap}
use Prim.Native.Nat.{ℕ}
use native.Mathlib.Omega.{arith}
use lib.IntN.{nat_abs}
use Rattle.rows.specs.Numbers.{length_meant, least_terms}
use Rattle.head.specs.Head.{is_empty}
use Rattle.share.proofs.Computes.{stepping}
use Rattle.fractions.specs.Fraction.{◌÷◌, whole, nothing, ◌⊕◌, minus, portion, ◌~◌, at_most, ceiling_of}
use Rattle.fractions.specs.Signed.{plus, times, opposite}
use Rattle.fractions.proofs.Laws.{turned, through}
use Rattle.account.specs.Account.{weight_in, gaining, all_gain, passed_on, rest, weight_left, settled, newcomer, entered_beside, entered_alone, entered, no_one, Account}
use Rattle.account.specs.Books.{due, cleared, booked, account_from}
use Rattle.account.specs.Changes.{Change, begins, joins, leaves, returns}
use Rattle.account.specs.Counted.{counted_of, changes, account_of, table_after}
use Rattle.account.specs.Departures.{freed_twice, seven_lines, eight_lines}
use Rattle.account.specs.Report.{virtual_time}
use Rattle.account.specs.Account as Acc

-- all that an account's changes are made of, under one name
booking : Account → List Change → Account
unfolding plus times opposite ◌÷◌ whole nothing ◌⊕◌ minus portion at_most ceiling_of Acc.entry weight_in Acc.is_empty gaining all_gain Acc.returned passed_on rest weight_left Acc.freed settled Acc.left newcomer entered_beside entered_alone entered no_one due cleared booked length_meant
booking a cs = account_from a cs

table_sum : (table_after least_terms eight_lines).head.sum ≡ 1441440
unfolding stepping table_after
table_sum = refl

table_total : (table_after least_terms eight_lines).head.total ≡ 2
unfolding stepping table_after
table_total = refl

-- what the run counts as
first_changes : List Change
first_changes = begins least_terms ∷ joins 1 2 2 ∷ returns 1 1 false ∷ joins 0 2 1 ∷ returns 0 1 false ∷ []

seven_changes : changes least_terms seven_lines ≡ first_changes
unfolding stepping counted_of changes first_changes
seven_changes = refl

eight_changes : changes least_terms eight_lines ≡ first_changes ++ leaves 1 ∷ []
unfolding stepping counted_of changes first_changes
eight_changes = refl

V_once : (account_from (no_one least_terms) (first_changes ++ leaves 1 ∷ [])).virtual ~ whole 720720
unfolding booking first_changes
V_once = record { cross = refl }

V_twice : (freed_twice (account_from (no_one least_terms) first_changes) 1).virtual ~ whole 900900
unfolding booking first_changes freed_twice
V_twice = record { cross = refl }

-- "V is 720,720", in the table and in the account
pub departed_V : virtual_time (table_after least_terms eight_lines) ~ whole 720720
unfolding virtual_time is_empty ◌÷◌ whole times
departed_V = rw (table_sum, table_total) (record { cross = refl })

pub account_V : (account_of least_terms eight_lines).virtual ~ whole 720720
unfolding account_of
account_V = rw eight_changes V_once

-- "not 900,900", which is what passing the account on twice gives
pub twice_V : (freed_twice (account_of least_terms seven_lines) 1).virtual ~ whole 900900
unfolding account_of
twice_V = rw seven_changes V_twice

apart : whole 900900 ~ whole 720720 → ⊥
unfolding whole ◌÷◌ times
apart e = let z : ◌≡◌ {A = ℕ} 900900 720720 = ap nat_abs e.cross in omega arith

pub twice_differs : (freed_twice (account_of least_terms seven_lines) 1).virtual ~ virtual_time (table_after least_terms eight_lines) → ⊥
twice_differs e = apart (through (turned twice_V) (through e departed_V))
