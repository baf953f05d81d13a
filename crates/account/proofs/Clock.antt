-- V never falls: each change adds to the account's V a portion of what is not below 0. Of a run's table `Theorems` has it, by the account's V.
use mathlib.Core.Bool.{Bool, true, false, cond}
use mathlib.Core.List.{List, [], ◌∷◌}
use mathlib.Core.Path.{◌≡◌, refl, subst⁻¹}
use Prim.Native.Nat.{ℕ}
use lib.Dec.{eqb}
use Rattle.laws.specs.Lists.{all}
use Rattle.laws.proofs.Tests.{clash, and_left, and_right}
use Rattle.rows.specs.Numbers.{unit}
use Rattle.fractions.specs.Fraction.{Fraction, whole, nothing, minus, ◌⊕◌, portion, at_most, ceiling_of}
use Rattle.fractions.proofs.Laws.{at_most_itself, at_most_through, sum_not_less, portion_not_below, short_not_below, whole_not_below, ceiling_reaches}
use Rattle.account.specs.Account.{Account, entry, is_going, owed_to, weight_in, is_empty, passed_on, weight_left, settled, freed, left, going_away, newcomer, entered_beside, entered_alone, entered, returned, lengthened, made}
use Rattle.account.specs.Books.{due, Clears, BookedAs, booked, account_from}
use Rattle.account.specs.Changes.{Change, begins, joins, leaves, lengthens, returns, ends_in_release}
use Rattle.account.specs.Clock.{change_goes_on}
use Rattle.account.proofs.Clearing.{booked_as}

-- the account's V before is at most its V after
abbrev pub Rises : Account → Account → Type 0
Rises a b = at_most a.virtual b.virtual ≡ true

-- what a departure passes on is not below 0, where the account was not
passed_not_below : (f : Fraction) (n : ℕ) → at_most nothing f ≡ true → at_most nothing (passed_on f n) ≡ true
unfolding passed_on
passed_not_below f n h = by (eqb n 0)
  where
    by : (b : Bool) → at_most nothing (cond b nothing f) ≡ true
    by true = at_most_itself nothing
    by false = h

freed_rises : (a : Account) (i : ℕ) → settled (entry a i) ≡ true → Rises a (freed a i)
unfolding freed settled
freed_rises a i h =
    let passed = passed_on (owed_to (entry a i)) (weight_left a i) in
    sum_not_less a.virtual (portion passed unit (weight_left a i))
    (portion_not_below passed unit (weight_left a i) (passed_not_below (owed_to (entry a i)) (weight_left a i) h))

left_rises : (a : Account) (i : ℕ) → Rises a (left a i)
unfolding left
left_rises a i = by (settled (entry a i)) refl
  where
    by : (b : Bool) → settled (entry a i) ≡ b → Rises a (cond b (freed a i) (record { entries = lib.ListN.set a.entries i (going_away (entry a i)); virtual = a.virtual; terms = a.terms }))
    by true h = freed_rises a i h
    by false h = at_most_itself a.virtual

entered_rises : (a : Account) (i w l : ℕ) → Rises a (entered a i w l)
unfolding entered entered_beside entered_alone
entered_rises a i w l = by (is_empty a)
  where
    above : Fraction
    above = whole (ceiling_of a.virtual) ⊕ minus a.virtual

    by : (b : Bool) → Rises a (cond b (entered_alone a i w l) (entered_beside a i w l))
    by true = at_most_itself a.virtual
    by false =
        let W = weight_in (lib.ListN.set a.entries i (newcomer w l (minus (portion above w unit)))) in
        sum_not_less a.virtual (portion above w W) (portion_not_below above w W (short_not_below a.virtual (whole (ceiling_of a.virtual)) (ceiling_reaches a.virtual)))

returned_rises : (a : Account) (i used : ℕ) (early : Bool) → Rises a (returned a i used early)
unfolding returned
returned_rises a i used early =
    sum_not_less a.virtual (portion (whole used) unit (weight_in a.entries))
    (portion_not_below (whole used) unit (weight_in a.entries) (whole_not_below used))

made_rises : (a : Account) (c : Change) → change_goes_on c ≡ true → Rises a (made a c)
unfolding lengthened
made_rises a (begins terms) h = absurd (clash h refl)
made_rises a (joins queue weight length) h = entered_rises a queue weight _
made_rises a (leaves queue) h = left_rises a queue
made_rises a (lengthens queue length) h = at_most_itself a.virtual
made_rises a (returns queue used early) h = returned_rises a queue used early

clears_rises : {a b : Account} → Clears a b → Rises a b
unfolding due
clears_rises {a} (Clears.done calm) = at_most_itself a.virtual
clears_rises {a} {b} (Clears.one i d further) =
    at_most_through a.virtual (freed a i).virtual b.virtual (freed_rises a i (and_right (is_going (entry a i)) _ d)) (clears_rises further)

-- one change with its release
pub booked_rises : (a : Account) (c : Change) → change_goes_on c ≡ true → Rises a (booked a c)
booked_rises a c h = by (ends_in_release c) (booked a c) (booked_as a c)
  where
    by : (ends : Bool) (b : Account) → BookedAs ends (made a c) b → Rises a b
    by true b way = at_most_through a.virtual (made a c).virtual b.virtual (made_rises a c h) (clears_rises way)
    by false b is = subst⁻¹ (Rises a) is (made_rises a c h)

-- and a list of them
pub account_rises : (a : Account) (cs : List Change) → all change_goes_on cs ≡ true → Rises a (account_from a cs)
account_rises a [] h = at_most_itself a.virtual
account_rises a (c ∷ cs) h =
    at_most_through a.virtual (booked a c).virtual (account_from (booked a c) cs).virtual (booked_rises a c (and_left _ _ h))
    (account_rises (booked a c) cs (and_right (change_goes_on c) _ h))
