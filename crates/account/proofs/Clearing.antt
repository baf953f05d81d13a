-- The account's release, lowest first, is a release: each turn takes one going entry away, so as many turns as there are entries are enough.
use mathlib.Core.Bool.{Bool, true, false, cond}
use mathlib.Core.List.{List, [], ◌∷◌, map}
use mathlib.Core.Logic.{⊎_elim}
use mathlib.Core.Option.{Option, none, some}
use mathlib.Core.Path.{◌≡◌, refl, ap}
use Prim.Native.Nat.{ℕ, zero, suc, ◌+◌, ◌≤◌, ◌<◌}
use native.Mathlib.Nat.{zero-add}
use native.Mathlib.Omega.{arith}
use lib.ListN.{length, get_or, set, get_or-eq_default}
use Rattle.laws.specs.Lists.{sum_of, first_from}
use Rattle.laws.proofs.First.{first_none, first_some}
use Rattle.laws.proofs.Sums.{sum_set, sum_bound}
use Rattle.laws.proofs.Tests.{clash, le_or_lt, and_left}
use Rattle.fractions.specs.Fraction.{Fraction}
use Rattle.account.specs.Account.{Entry, absent, present, Account, entry, is_going, credited, gaining, all_gain, rest, freed, made}
use Rattle.account.specs.Books.{due, Clears, clearing, cleared, booked, account_from, BookedAs, Books, none_left, next_change}
use Rattle.account.specs.Changes.{Change, ends_in_release}

goes : Entry → ℕ
goes e = cond (is_going e) 1 0

goers : Account → ℕ
goers a = sum_of goes a.entries

goes_most : (b : Bool) → cond b 1 0 ≤ 1
goes_most true = omega arith
goes_most false = omega arith

goers_most : (a : Account) → goers a ≤ length a.entries
unfolding goers goes
goers_most a = omega (arith, sum_bound goes a.entries absent 1 (λ i l. goes_most (is_going (get_or a.entries i absent))))

due_inside : (a : Account) (i : ℕ) → due (entry a i) ≡ true → i < length a.entries
unfolding due entry
due_inside a i e =
    ⊎_elim (λ past. absurd (clash (and_left _ _ e) (ap is_going (get_or-eq_default a.entries absent past)))) (λ l. l) (le_or_lt (length a.entries) i)

credited_goes : (e : Entry) (f : Fraction) → goes (credited e f) ≡ goes e
unfolding goes
credited_goes absent f = refl
credited_goes (present q) f = refl

gain_goers : (f : Fraction) (n : ℕ) (es : List Entry) → sum_of goes (map (gaining f n) es) ≡ sum_of goes es
unfolding gaining
gain_goers f n [] = refl
gain_goers f n (e ∷ es) = rw (credited_goes e, gain_goers f n es) refl

counts : (x y : ℕ) (e : Entry) → is_going e ≡ true → x + goes e ≡ y + goes absent → x + 1 ≡ y
unfolding goes
counts x y e goes_away h = omega (arith, ap {B = ℕ} (λ (b : Bool). cond b 1 0) goes_away)

goers_fall : (a : Account) (i : ℕ) → due (entry a i) ≡ true → goers (freed a i) + 1 ≡ goers a
unfolding goers freed rest all_gain entry due
goers_fall a i e =
    rw gain_goers
    (counts (sum_of goes (set a.entries i absent)) (sum_of goes a.entries) (get_or a.entries i absent) (and_left _ _ e)
    (sum_set goes a.entries i absent absent (due_inside a i e)))

none_due : (a : Account) → first_from due 0 a.entries ≡ none → (i : ℕ) → due (entry a i) ≡ false
unfolding entry due
none_due a e i = ⊎_elim past within (le_or_lt (length a.entries) i)
  where
    absent_due : due absent ≡ false
    absent_due = refl

    past : length a.entries ≤ i → due (get_or a.entries i absent) ≡ false
    past h = rw (get_or-eq_default a.entries absent h) absent_due

    within : i < length a.entries → due (get_or a.entries i absent) ≡ false
    within h = first_none due absent 0 a.entries e i h

some_due : (a : Account) (i : ℕ) → first_from due 0 a.entries ≡ some i → due (entry a i) ≡ true
unfolding entry
some_due a i e = let found = first_some due absent 0 i a.entries e in rw (found.1, zero-add) found.2.passed

clearing_clears : (most : ℕ) (a : Account) → goers a ≤ most → Clears a (clearing most a)
clearing_clears zero a h = Clears.done (λ i. not_due i (due (entry a i)) refl)
  where
    not_due : (i : ℕ) (b : Bool) → due (entry a i) ≡ b → b ≡ false
    not_due i true e = absurd (omega (arith, goers_fall a i e))
    not_due i false e = refl
clearing_clears (suc most) a h =
    turn (λ i d. clearing_clears most (freed a i) (omega (arith, goers_fall a i d))) (first_from due 0 a.entries) refl
  where
    turn : ((i : ℕ) → due (entry a i) ≡ true → Clears (freed a i) (clearing most (freed a i))) → (o : Option ℕ) → first_from due 0 a.entries ≡ o → Clears a (clearing (suc most) a)
    turn again none e = rw (e, clearing) (Clears.done (none_due a e))
    turn again (some i) e = rw (e, clearing) (Clears.one i (some_due a i e) (again i (some_due a i e)))

pub cleared_clears : (a : Account) → Clears a (cleared a)
unfolding cleared
cleared_clears a = clearing_clears (length a.entries) a (goers_most a)

-- so the account is one of the ways in which its changes may be booked
pub booked_as : (a : Account) (c : Change) → BookedAs (ends_in_release c) (made a c) (booked a c)
unfolding booked
booked_as a c = by (ends_in_release c)
  where
    by : (b : Bool) → BookedAs b (made a c) (cond b (cleared (made a c)) (made a c))
    by true = cleared_clears (made a c)
    by false = refl

pub account_books : (a : Account) (cs : List Change) → Books a cs (account_from a cs)
account_books a [] = none_left
account_books a (c ∷ cs) = next_change (booked_as a c) (account_books (booked a c) cs)
