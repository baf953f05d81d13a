-- Over any run of calls from a fresh table, refused calls counting as nothing: what the account and the table have to do with one another. (6, that
-- an event alters only the rows that it names or releases, is in `Frames`; 7, that a departure counts once, in `Departures` and `Twice`.) Table and
-- account are tied after every list of calls (`Simulation`), and each theorem reads off what the tie says.
use mathlib.Core.Bool.{Bool, true, false, not, cond}
use mathlib.Core.List.{List, [], ◌∷◌, map, ◌++◌}
use mathlib.Core.Path.{◌≡◌, refl, ap, sym, subst⁻¹, ◌∙◌}
use Prim.Native.Nat.{ℕ, ◌≤◌, ◌<◌}
use lib.IntN.{ℤ, pos}
use lib.ListN.{length, take}
use Rattle.laws.specs.Lists.{all}
use Rattle.laws.proofs.Tests.{clash, and_left, and_right, and_both}
use Rattle.rows.specs.declared.State.{State}
use Rattle.rows.specs.declared.State.TheVariants.{Free, Going, Asking}
use Rattle.rows.specs.declared.Terms.{Terms}
use Rattle.rows.specs.Numbers.{queues}
use Rattle.rows.specs.Orderly.{Allowed}
use Rattle.rows.specs.Row.{is_free, is_going, is_asking}
use Rattle.head.specs.declared.Event.{Event}
use Rattle.head.specs.declared.Event.TheVariants.{Fresh, Join, Leave, Reweight, Length, Grant, Return}
use Rattle.head.specs.Answers.{is_accepted}
use Rattle.head.specs.Lag.{lag_of}
use Rattle.share.specs.declared.Table.{Table}
use Rattle.share.specs.Calls.{step, lag_list}
use Rattle.share.specs.Events.{empty_table}
use Rattle.share.specs.Runs.{run}
use Rattle.share.specs.Sound.{Sound}
use Rattle.share.specs.Table.{row}
use Rattle.calls.proofs.Soundness.{run_sound}
use Rattle.fractions.specs.Fraction.{nothing, ◌~◌, at_most, total}
use Rattle.fractions.specs.Signed.{summed}
use Rattle.fractions.proofs.Laws.{turned, at_most_like}
use Rattle.account.specs.Account.{Entry, absent, present, Queue, Account, entry, is_absent, owed_to, weight_left, no_one}
use Rattle.account.specs.Agrees.{Agrees}
use Rattle.account.specs.Books.{Books, booked, account_from}
use Rattle.account.specs.Bound.{too_low}
use Rattle.account.specs.Changes.{Change, changes_of}
use Rattle.account.specs.Clock.{goes_on, change_goes_on}
use Rattle.account.specs.Counted.{counted_of, counted, changes, account_of, table_after}
use Rattle.account.specs.Longest.{longest_seen}
use Rattle.account.specs.Report.{virtual_time, lag_in, reported}
use Rattle.account.specs.Same.{Same}
use Rattle.account.proofs.Clearing.{account_books}
use Rattle.account.proofs.Clock.{Rises, account_rises}
use Rattle.account.proofs.Simulation.{tied_run}
use Rattle.account.proofs.Tied.{Tied}
use Rattle.account.specs.Account as Acc
use Rattle.account.proofs.Reports as Reports
use Rattle.account.proofs.Orders as Orders
use Rattle.account.proofs.Longest as Longest

-- who asks is who is neither free nor going
asks_as : (s : State) (e : Entry) → is_free s ≡ is_absent e → is_going s ≡ Acc.is_going e → is_asking s ≡ Acc.is_asking e
asks_as Free absent f g = refl
asks_as Free (present q) f g = absurd (clash refl f)
asks_as Going absent f g = absurd (clash refl (sym f))
asks_as Going (present q) f g = ap not g
asks_as (Asking r) absent f g = absurd (clash refl (sym f))
asks_as (Asking r) (present q) f g = ap not g

module _ (terms : Terms) (calls : List Event) where
  tied : Tied (table_after terms calls) (account_of terms calls)
  unfolding account_of
  tied = tied_run terms calls _ (account_books (no_one terms) (changes terms calls))

  -- 1. The account and the table agree at every point on who is free, going and asking, and on the weights.
  pub agree : (i : ℕ) → Agrees (row (table_after terms calls) i) (entry (account_of terms calls) i)
  unfolding entry
  agree i =
      let like = tied.matched.alike i in
      record { free = like.free; going = like.going; asking = asks_as (row (table_after terms calls) i).state (entry (account_of terms calls) i) like.free like.going; weight = like.weight }

  -- 2. A row's lag, numerator over W x 720,720, is the account.
  pub lag_is_account : (i : ℕ) → lag_in (table_after terms calls) i ~ owed_to (entry (account_of terms calls) i)
  lag_is_account i = Reports.lag_account (table_after terms calls) (account_of terms calls) tied i

  -- 3. The account's V is the table's: A / W while rows are present, and the resting position while not.
  pub same_V : (account_of terms calls).virtual ~ virtual_time (table_after terms calls)
  same_V = Reports.clock_is (table_after terms calls) (account_of terms calls) tied

  -- 4. The accounts add up to nothing, and so do the lags of the rows.
  pub accounts_level : total (map owed_to (account_of terms calls).entries) ~ nothing
  accounts_level = Reports.accounts_level (table_after terms calls) (account_of terms calls) tied

  pub lags_level : summed (map (lag_of (table_after terms calls).head) (table_after terms calls).rows) ≡ pos 0
  lags_level = Reports.lags_level (table_after terms calls) (account_of terms calls) tied

  -- 5. No present queue's account is at or below minus the longest request that it has opened since it last joined.
  pub account_above : (i : ℕ) (q : Queue) → entry (account_of terms calls) i ≡ present q → too_low q ≡ false
  account_above = Reports.account_above (table_after terms calls) (account_of terms calls) tied

  -- That request is the longest which the tables of the run show in the queue's row since it joined.
  pub longest_seen_lem : (i : ℕ) (q : Queue) → entry (account_of terms calls) i ≡ present q → q.longest ≡ longest_seen (empty_table terms) calls i 0
  longest_seen_lem = Longest.longest_is_seen terms calls

  -- 7. Each departure is counted once (`Departures`); and whoever is the last one there has nothing that could get lost.
  pub last_owes_nothing : (i : ℕ) (q : Queue) → entry (account_of terms calls) i ≡ present q → weight_left (account_of terms calls) i ≡ 0 → q.owed ~ nothing
  last_owes_nothing = Reports.last_owes_nothing (table_after terms calls) (account_of terms calls) tied

  -- 8. The account does not depend on the order in which it frees rows.
  pub any_order : (a : Account) → Books (no_one terms) (changes terms calls) a → Same a (account_of terms calls)
  unfolding account_of
  any_order a way = Orders.any_order terms calls a _ way (account_books (no_one terms) (changes terms calls))

-- an event that goes on with the run counts as changes that do
changes_go_on : (e : Event) → goes_on e ≡ true → all change_goes_on (changes_of e) ≡ true
changes_go_on (Fresh terms) h = absurd (clash h refl)
changes_go_on (Join queue weight length) h = refl
changes_go_on (Leave queue) h = refl
changes_go_on (Reweight queue weight length) h = refl
changes_go_on (Length queue length) h = refl
changes_go_on Grant h = refl
changes_go_on (Return queue used early) h = refl

all_append {ℓ} : {A : Type ℓ} (p : A → Bool) (xs ys : List A) → all p xs ≡ true → all p ys ≡ true → all p (xs ++ ys) ≡ true
all_append p [] ys h k = k
all_append p (x ∷ xs) ys h k = and_both {a = p x} (and_left _ _ h) (all_append p xs ys (and_right (p x) _ h) k)

counted_go_on : (t : Table) (es : List Event) → all goes_on es ≡ true → all change_goes_on (counted t es) ≡ true
unfolding counted_of
counted_go_on t [] h = refl
counted_go_on t (e ∷ es) h =
    all_append change_goes_on (counted_of (step t e) e) (counted (step t e).table es) (by (is_accepted (step t e).answer))
    (counted_go_on (step t e).table es (and_right (goes_on e) _ h))
  where
    by : (b : Bool) → all change_goes_on (cond b (changes_of e) []) ≡ true
    by true = changes_go_on e (and_left _ _ h)
    by false = refl

-- a run in two parts
append_grouped {ℓ} : {A : Type ℓ} (xs ys zs : List A) → (xs ++ ys) ++ zs ≡ xs ++ (ys ++ zs)
append_grouped [] ys zs = refl
append_grouped (x ∷ xs) ys zs = ap (λ (l : List _). x ∷ l) (append_grouped xs ys zs)

counted_append : (t : Table) (es fs : List Event) → counted t (es ++ fs) ≡ counted t es ++ counted (run t es) fs
counted_append t [] fs = refl
counted_append t (e ∷ es) fs =
    ap (λ (l : List Change). counted_of (step t e) e ++ l) (counted_append (step t e).table es fs)
    ∙ sym (append_grouped (counted_of (step t e) e) (counted (step t e).table es) (counted (run (step t e).table es) fs))

account_from_append : (a : Account) (cs ds : List Change) → account_from a (cs ++ ds) ≡ account_from (account_from a cs) ds
account_from_append a [] ds = refl
account_from_append a (c ∷ cs) ds = account_from_append (booked a c) cs ds

-- the account's V over a further part of a run
further_rises : (t : Table) (a : Account) (es fs : List Event) → all goes_on fs ≡ true → Rises (account_from a (counted t es)) (account_from a (counted t (es ++ fs)))
further_rises t a es fs h =
    subst⁻¹ (λ (b : Account). Rises (account_from a (counted t es)) b)
    (ap (account_from a) (counted_append t es fs) ∙ account_from_append a (counted t es) (counted (run t es) fs))
    (account_rises (account_from a (counted t es)) (counted (run t es) fs) (counted_go_on (run t es) fs h))

-- 3, from one point of a run to any later one: V does not fall, whether or not the table was empty between.
pub V_steady : (terms : Terms) (calls further : List Event) → all goes_on further ≡ true → at_most (virtual_time (table_after terms calls)) (virtual_time (table_after terms (calls ++ further))) ≡ true
unfolding account_of changes
V_steady terms calls further h =
    at_most_like (turned (same_V terms calls)) (turned (same_V terms (calls ++ further))) (further_rises (empty_table terms) (no_one terms) calls further h)

-- 2 and 4, of the lag report as the call hands it out, on a list that it does not refuse
module _ (terms : Terms) (is_allowed : Allowed terms) (calls : List Event) (lent : List ℤ) (long : queues ≤ length lent) where
  is_sound : Sound (table_after terms calls)
  unfolding table_after
  is_sound = run_sound terms is_allowed calls

  pub report_is_account : (i : ℕ) → i < queues → reported (table_after terms calls) lent i ~ owed_to (entry (account_of terms calls) i)
  report_is_account i inside =
      rw (Reports.reported_is (table_after terms calls) lent is_sound (tied terms calls).matched.rows_each long i inside) (lag_is_account terms calls i)

  pub report_level : summed (take queues (lag_list (table_after terms calls) lent)) ≡ pos 0
  report_level =
      rw (Reports.report_front (table_after terms calls) lent is_sound (tied terms calls).matched.rows_each long) (lags_level terms calls)
