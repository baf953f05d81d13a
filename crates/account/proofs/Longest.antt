-- The account's longest request is the longest that the queue's row has had open in any table since the queue joined: a change that does not name
-- the queue leaves what is noted of it, and one that does opens the request that the row then shows.
use mathlib.Core.Bool.{Bool, true, false, cond, ◌||◌}
use mathlib.Core.List.{List, [], ◌∷◌}
use mathlib.Core.Logic.{◌≢◌}
use mathlib.Core.Option.{none}
use mathlib.Core.Path.{◌≡◌, refl, ap, sym, subst⁻¹, ◌∙◌}
use Prim.Native.Nat.{ℕ, ◌+◌, ◌≤◌, ◌<◌, max}
use native.Mathlib.Decide.{ℕ_discrete}
use native.Mathlib.Omega.{arith}
use lib.Dec.{leb, eqb}
use lib.ListN.{length, get_or, set}
use lib.Seq.{get_or-set_same, get_or-set_other}
use borrow.Author.Tests.{eqb-true, eqb-false}
use Rattle.laws.proofs.Tests.{clash}
use Rattle.rows.specs.declared.State.{State}
use Rattle.rows.specs.declared.State.TheVariants.{Free, Going, Asking}
use Rattle.rows.specs.declared.Terms.{Terms}
use Rattle.rows.specs.Numbers.{queues}
use Rattle.rows.specs.Row.{is_free, is_going}
use Rattle.head.specs.declared.Event.{Event}
use Rattle.head.specs.declared.Event.TheVariants.{Fresh, Join, Leave, Reweight, Length, Grant, Return}
use Rattle.head.specs.declared.Refusal.{Refusal}
use Rattle.head.specs.Refusals.{first_refusal}
use Rattle.share.specs.declared.Reply.{Reply}
use Rattle.share.specs.declared.Table.{Table}
use Rattle.share.specs.Asks.{Joins, Reweights, Returns}
use Rattle.share.specs.Calls.{refused, step, done_by, checks_of}
use Rattle.share.specs.Events.{empty_table, joined, left, reweighted, granted}
use Rattle.share.specs.Table.{row}
use Rattle.share.proofs.Accepted.{join_accepted, leave_accepted, reweight_accepted, length_accepted, return_accepted}
use Rattle.share.proofs.Charges.{holding}
use Rattle.calls.proofs.Replies.{call_cases}
use Rattle.fractions.specs.Fraction.{Fraction, whole, nothing, minus}
use Rattle.account.specs.Account.{Entry, absent, present, Queue, Account, entry, is_absent, weight_in, credited, all_gain, reopened, served_more, settled, going_away, newcomer, entered_beside, entered_alone, no_one}
use Rattle.account.specs.Books.{Clears, Books, none_left, account_from}
use Rattle.account.specs.Changes.{joins, leaves}
use Rattle.account.specs.Counted.{counted_of, counted, changes, account_of}
use Rattle.account.specs.Longest.{open_length, longest_after, longest_seen}
use Rattle.account.specs.Same.{unpriced}
use Rattle.account.proofs.Clearing.{account_books}
use Rattle.account.proofs.Leaving.{at_replicate, fresh_tied}
use Rattle.account.proofs.Match.{Requested}
use Rattle.account.proofs.Orders.{gained_notes, gained_length, charged_notes, rest_gone, rest_other, freed_notes, clears_keep, unpriced_absent}
use Rattle.account.proofs.Simulation.{leave_tied, books_one, books_two, books_split, refused_counts, step_tied, meant_in}
use Rattle.account.proofs.Tied.{Tied}
use Rattle.account.specs.Account as Acc

-- of an entry: the longest request noted, and the one that is open
abbrev longest_of : Entry → ℕ
longest_of absent = 0
longest_of (present q) = q.longest

abbrev open_of : Entry → ℕ
open_of absent = 0
open_of (present q) = cond q.going 0 q.length

longest_unpriced : (e : Entry) → longest_of (unpriced e) ≡ longest_of e
longest_unpriced absent = refl
longest_unpriced (present q) = refl

open_unpriced : (e : Entry) → open_of (unpriced e) ≡ open_of e
open_unpriced absent = refl
open_unpriced (present q) = refl

longest_noted : (e f : Entry) → unpriced e ≡ unpriced f → longest_of e ≡ longest_of f
longest_noted e f h = sym (longest_unpriced e) ∙ ap longest_of h ∙ longest_unpriced f

open_noted : (e f : Entry) → unpriced e ≡ unpriced f → open_of e ≡ open_of f
open_noted e f h = sym (open_unpriced e) ∙ ap open_of h ∙ open_unpriced f

-- the row shows the request that is noted, and it is no longer than the longest
open_as : (s : State) (e : Entry) → is_free s ≡ is_absent e → is_going s ≡ Acc.is_going e → Requested e s → (open_length s ≡ open_of e) × (open_of e ≤ longest_of e)
open_as Free absent f g r = (refl, omega arith)
open_as Free (present q) f g r = absurd (clash refl f)
open_as Going absent f g r = absurd (clash refl (sym f))
open_as Going (present q) f g r = let e = ap {B = ℕ} (λ (b : Bool). cond b 0 q.length) g in (e, omega (arith, e))
open_as (Asking x) absent f g r = absurd (clash refl (sym f))
open_as (Asking x) (present q) f g r =
    let e = ap {B = ℕ} (λ (b : Bool). cond b 0 q.length) g in
    (r.same_length ∙ e, omega (arith, e, r.no_longer))

open_is : {t : Table} {a : Account} → Tied t a → (j : ℕ) → open_length (row t j).state ≡ open_of (entry a j)
unfolding entry
open_is {t} {a} tied j =
    let like = tied.matched.alike j in
    (open_as (row t j).state (get_or a.entries j absent) like.free like.going like.request).0

open_within : {t : Table} {a : Account} → Tied t a → (j : ℕ) → open_of (entry a j) ≤ longest_of (entry a j)
unfolding entry
open_within {t} {a} tied j =
    let like = tied.matched.alike j in
    (open_as (row t j).state (get_or a.entries j absent) like.free like.going like.request).1

-- what becomes of the longest: it is kept, or the open request is longer; or it begins anew
record Later (e f : Entry) : Type 0 where
  was : is_absent f ≡ false → is_absent e ≡ false
  later : is_absent f ≡ false → longest_of f ≡ max (longest_of e) (open_of f)

record Anew (f : Entry) : Type 0 where
  anew : is_absent f ≡ false → longest_of f ≡ open_of f

absent_noted : (e f : Entry) → unpriced e ≡ unpriced f → is_absent e ≡ is_absent f
absent_noted e f h = sym (unpriced_absent e) ∙ ap is_absent h ∙ unpriced_absent f

-- both depend on what is noted only, if at all on someone who is there
later_noted : (e f g : Entry) → (is_absent g ≡ false → unpriced g ≡ unpriced f) → Later e f → Later e g
later_noted e f g h l =
    record {
      was = λ here. l.was (sym (absent_noted g f (h here)) ∙ here);
      later =
          λ here.
          longest_noted g f (h here) ∙ l.later (sym (absent_noted g f (h here)) ∙ here)
          ∙ ap (λ (k : ℕ). max (longest_of e) k) (sym (open_noted g f (h here)));
    }

anew_noted : (f g : Entry) → (is_absent g ≡ false → unpriced g ≡ unpriced f) → Anew f → Anew g
anew_noted f g h l =
    record { anew = λ here. longest_noted g f (h here) ∙ l.anew (sym (absent_noted g f (h here)) ∙ here) ∙ sym (open_noted g f (h here)) }

kept_later : (e : Entry) → open_of e ≤ longest_of e → Later e e
kept_later e h = record { was = λ here. here; later = λ here. omega arith }

going_later : (e : Entry) → Later e (going_away e)
going_later absent = record { was = λ here. here; later = λ here. refl }
going_later (present q) = record { was = λ here. refl; later = λ here. omega arith }

next_later : (e : Entry) (n : ℕ) → open_of e ≤ longest_of e → Later e (Acc.next_set e n)
next_later absent n h = record { was = λ here. here; later = λ here. refl }
next_later (present q) n h = record { was = λ here. refl; later = λ here. omega arith }

requested_later : (b : Bool) (q : Queue) (used : ℕ) (f : Fraction) → q.going ≡ false → open_of (present q) ≤ q.longest → Later (present q) (credited (present (cond b (reopened q) (served_more q used))) f)
requested_later true q used f asks h =
    record { was = λ here. refl; later = λ here. ap (λ (k : ℕ). max q.longest k) (ap {B = ℕ} (λ (b : Bool). cond b 0 q.next) (sym asks)) }
requested_later false q used f asks h = record { was = λ here. refl; later = λ here. omega arith }

charged_later : (e : Entry) (used : ℕ) (early : Bool) → Acc.is_going e ≡ false → open_of e ≤ longest_of e → Later e (Acc.charged e used early)
charged_later absent used early asks h = record { was = λ here. here; later = λ here. refl }
charged_later (present q) used early asks h =
    requested_later (early || leb q.length (q.served + used)) q used (minus (whole used)) asks h

newcomer_anew : (w l : ℕ) (f : Fraction) → Anew (newcomer w l f)
unfolding newcomer
newcomer_anew w l f = record { anew = λ here. refl }

-- what a change notes, before its release
set_other : (es : List Entry) (i j : ℕ) (e : Entry) → j ≢ i → unpriced (get_or (set es i e) j absent) ≡ unpriced (get_or es j absent)
set_other es i j e apart = ap unpriced (get_or-set_other es i j e absent apart)

module _ (a : Account) (i j : ℕ) (apart : j ≢ i) where
  entered_other : (w l : ℕ) → unpriced (entry (Acc.entered a i w l) j) ≡ unpriced (entry a j)
  unfolding Acc.entered entered_alone entered_beside entry
  entered_other w l = by (Acc.is_empty a)
    where
      by : (b : Bool) → unpriced (get_or (cond {A = Account} b (entered_alone a i w l) (entered_beside a i w l)).entries j absent) ≡ unpriced (get_or a.entries j absent)
      by true = set_other a.entries i j _ apart
      by false = gained_notes _ _ (set a.entries i _) j ∙ set_other a.entries i j _ apart

  left_other : unpriced (entry (Acc.left a i) j) ≡ unpriced (entry a j)
  unfolding Acc.left entry
  left_other = by (settled (entry a i))
    where
      by : (b : Bool) → unpriced (entry (cond {A = Account} b (Acc.freed a i) (record { entries = set a.entries i (going_away (entry a i)); virtual = a.virtual; terms = a.terms })) j) ≡ unpriced (entry a j)
      by true = freed_notes a i j ∙ ap unpriced (rest_other a i j apart)
      by false = set_other a.entries i j _ apart

  lengthened_other : (n : ℕ) → unpriced (entry (Acc.lengthened a i n) j) ≡ unpriced (entry a j)
  unfolding Acc.lengthened entry
  lengthened_other n = set_other a.entries i j _ apart

  returned_other : (used : ℕ) (early : Bool) → unpriced (entry (Acc.returned a i used early) j) ≡ unpriced (entry a j)
  unfolding Acc.returned entry
  returned_other used early =
      let gained = all_gain (whole used) (weight_in a.entries) a.entries in
      set_other gained i j (Acc.charged (get_or gained i absent) used early) apart ∙ gained_notes (whole used) (weight_in a.entries) a.entries j

went : (a : Account) (i : ℕ) → i < length a.entries → entry (record { entries = set a.entries i (going_away (entry a i)); virtual = a.virtual; terms = a.terms }) i ≡ going_away (entry a i)
unfolding entry
went a i inside = get_or-set_same a.entries i _ absent inside

within_gained : (f : Fraction) (n : ℕ) (es : List Entry) (i : ℕ) → i < length es → i < length (all_gain f n es)
within_gained f n es i h = omega (arith, gained_length f n es)

module _ (a : Account) (i : ℕ) (inside : i < length a.entries) where
  entered_at : (w l : ℕ) → unpriced (entry (Acc.entered a i w l) i) ≡ unpriced (newcomer w l nothing)
  unfolding Acc.entered entered_alone entered_beside newcomer entry
  entered_at w l = by (Acc.is_empty a)
    where
      by : (b : Bool) → unpriced (get_or (cond {A = Account} b (entered_alone a i w l) (entered_beside a i w l)).entries i absent) ≡ unpriced (newcomer w l nothing)
      by true = ap unpriced (get_or-set_same a.entries i _ absent inside)
      by false = gained_notes _ _ (set a.entries i _) i ∙ ap unpriced (get_or-set_same a.entries i _ absent inside)

  left_at : is_absent (entry (Acc.left a i) i) ≡ false → unpriced (entry (Acc.left a i) i) ≡ unpriced (going_away (entry a i))
  unfolding Acc.left
  left_at = by (settled (entry a i))
    where
      by : (b : Bool) → is_absent (entry (cond {A = Account} b (Acc.freed a i) (record { entries = set a.entries i (going_away (entry a i)); virtual = a.virtual; terms = a.terms })) i) ≡ false → unpriced (entry (cond {A = Account} b (Acc.freed a i) (record { entries = set a.entries i (going_away (entry a i)); virtual = a.virtual; terms = a.terms })) i) ≡ unpriced (going_away (entry a i))
      by true here =
          let gone : unpriced (entry (Acc.freed a i) i) ≡ absent = freed_notes a i i ∙ ap unpriced (rest_gone a i) in
          absurd (clash (sym (unpriced_absent (entry (Acc.freed a i) i)) ∙ ap is_absent gone) here)
      by false here = ap unpriced (went a i inside)

  lengthened_at : (n : ℕ) → unpriced (entry (Acc.lengthened a i n) i) ≡ unpriced (Acc.next_set (entry a i) n)
  unfolding Acc.lengthened entry
  lengthened_at n = ap unpriced (get_or-set_same a.entries i _ absent inside)

  returned_at : (used : ℕ) (early : Bool) → unpriced (entry (Acc.returned a i used early) i) ≡ unpriced (Acc.charged (entry a i) used early)
  unfolding Acc.returned entry
  returned_at used early =
      let gained = all_gain (whole used) (weight_in a.entries) a.entries in
      ap unpriced (get_or-set_same gained i (Acc.charged (get_or gained i absent) used early) absent (within_gained _ _ a.entries i inside))
      ∙ charged_notes (get_or gained i absent) used early
      ∙ ap (λ (x : Entry). unpriced (Acc.charged x used early)) (gained_notes (whole used) (weight_in a.entries) a.entries i)
      ∙ sym (charged_notes (get_or a.entries i absent) used early)

-- what is noted of the longest, if someone is there
record LongestIs (e : Entry) (m : ℕ) : Type 0 where
  noted_is : is_absent e ≡ false → longest_of e ≡ m

later_is : {e f : Entry} {m k : ℕ} → Later e f → LongestIs e m → k ≡ open_of f → LongestIs f (max m k)
later_is {e} {f} {m} {k} l h same =
    record { noted_is = λ here. l.later here ∙ ap (λ (x : ℕ). max x (open_of f)) (h.noted_is (l.was here)) ∙ ap (λ (x : ℕ). max m x) (sym same) }

anew_is : {f : Entry} {k : ℕ} → Anew f → k ≡ open_of f → LongestIs f k
anew_is l same = record { noted_is = λ here. l.anew here ∙ sym same }

-- one change with its release, of a queue that it does not name and of the one that it does
module _ (t : Table) (a : Account) (ta : Tied t a) where
  unnamed : (b : Account) (j : ℕ) → (is_absent (entry b j) ≡ false → unpriced (entry b j) ≡ unpriced (entry a j)) → Later (entry a j) (entry b j)
  unnamed b j h = later_noted (entry a j) (entry a j) (entry b j) h (kept_later (entry a j) (open_within ta j))

  module _ (i : ℕ) (inside : i < length a.entries) (b : Account) (j : ℕ) where
    joined_noted : (w l : ℕ) → Clears (Acc.entered a i w l) b → j ≢ i → is_absent (entry b j) ≡ false → unpriced (entry b j) ≡ unpriced (entry a j)
    joined_noted w l way apart here = clears_keep j way here ∙ entered_other a i j apart w l

    left_noted : Clears (Acc.left a i) b → j ≢ i → is_absent (entry b j) ≡ false → unpriced (entry b j) ≡ unpriced (entry a j)
    left_noted way apart here = clears_keep j way here ∙ left_other a i j apart

    joined_anew : (w l : ℕ) → Clears (Acc.entered a i w l) b → Anew (entry b i)
    joined_anew w l way =
        anew_noted (newcomer w l nothing) (entry b i) (λ here. clears_keep i way here ∙ entered_at a i inside w l) (newcomer_anew w l nothing)

    left_later : Clears (Acc.left a i) b → Dec (j ≡ i) → Later (entry a j) (entry b j)
    left_later way (no apart) = unnamed b j (left_noted way apart)
    left_later way (yes at) =
        subst⁻¹ (λ (k : ℕ). Later (entry a k) (entry b k)) at
        (later_noted (entry a i) (going_away (entry a i)) (entry b i)
        (λ here.
        let kept = clears_keep i way here in
        kept ∙ left_at a i inside (sym (absent_noted (entry b i) (entry (Acc.left a i) i) kept) ∙ here))
        (going_later (entry a i)))

    lengthened_later : (n : ℕ) → b ≡ Acc.lengthened a i n → Dec (j ≡ i) → Later (entry a j) (entry b j)
    lengthened_later n same (no apart) =
        unnamed b j (λ here. ap (λ (x : Account). unpriced (entry x j)) same ∙ lengthened_other a i j apart n)
    lengthened_later n same (yes at) =
        subst⁻¹ (λ (k : ℕ). Later (entry a k) (entry b k)) at
        (later_noted (entry a i) (Acc.next_set (entry a i) n) (entry b i)
        (λ here. ap (λ (x : Account). unpriced (entry x i)) same ∙ lengthened_at a i inside n) (next_later (entry a i) n (open_within ta i)))

    returned_later : (used : ℕ) (early : Bool) → Clears (Acc.returned a i used early) b → Acc.is_going (entry a i) ≡ false → Dec (j ≡ i) → Later (entry a j) (entry b j)
    returned_later used early way asks (no apart) = unnamed b j (λ here. clears_keep j way here ∙ returned_other a i j apart used early)
    returned_later used early way asks (yes at) =
        subst⁻¹ (λ (k : ℕ). Later (entry a k) (entry b k)) at
        (later_noted (entry a i) (Acc.charged (entry a i) used early) (entry b i)
        (λ here. clears_keep i way here ∙ returned_at a i inside used early) (charged_later (entry a i) used early asks (open_within ta i)))

-- through every step
by_test : {f : Entry} (m k : ℕ) (b : Bool) → (b ≡ true → Anew f) → (b ≡ false → LongestIs f (max m k)) → k ≡ open_of f → LongestIs f (cond b k (max m k))
by_test m k true anew other same = anew_is (anew refl) same
by_test m k false anew other same = other refl

begun_longest : (terms : Terms) (b : Account) (j k : ℕ) → b ≡ no_one terms → LongestIs (entry b j) k
unfolding no_one entry
begun_longest terms b j k same =
    record {
      noted_is =
          λ here. absurd (clash (ap (λ (x : Account). is_absent (get_or x.entries j absent)) same ∙ ap is_absent (at_replicate queues j absent)) here);
    }

module _ (t : Table) (a : Account) (ta : Tied t a) (j m : ℕ) (h : LongestIs (entry a j) m) where
  abbrev Noted : Event → Reply → Type 0
  Noted e r = (b : Account) → Books a (counted_of r e) b → Tied r.table b → LongestIs (entry b j) (longest_after r e j m)

  within : (i : ℕ) → i < queues → i < length a.entries
  within i inside = omega (arith, ta.matched.entries_each)

  -- nothing is booked, and the rows are as they were
  unchanged : (b : Account) (u : Table) → Books a [] b → Tied u b → LongestIs (entry b j) (max m (open_length (row u j).state))
  unchanged b u none_left tb = later_is (kept_later (entry a j) (open_within ta j)) h (open_is tb j)

  refused_longest : (e : Event) (why : Refusal) → Noted e (refused t why)
  unfolding longest_after
  refused_longest e why b way tb = unchanged b t (rw (refused_counts t e why) at way) tb

  join_longest : (i w l : ℕ) → Joins t i w l → (b : Account) → Clears (Acc.entered a i w (meant_in a l)) b → Tied (joined t i w l) b → LongestIs (entry b j) (cond (eqb j i) (open_length (row (joined t i w l) j).state) (max m (open_length (row (joined t i w l) j).state)))
  join_longest i w l ok b way tb =
      by_test m (open_length (row (joined t i w l) j).state) (eqb j i)
      (λ e. subst⁻¹ (λ (k : ℕ). Anew (entry b k)) (eqb-true j i e) (joined_anew t a ta i (within i ok.inside) b j w (meant_in a l) way))
      (λ e.
      later_is (unnamed t a ta b j (joined_noted t a ta i (within i ok.inside) b j w (meant_in a l) way (eqb-false j i e))) h (open_is tb j))
      (open_is tb j)

  reweight_longest : (i w l : ℕ) → Reweights t i w l → (b : Account) → Books a (leaves i ∷ joins i w l ∷ []) b → Tied (reweighted t i w l) b → LongestIs (entry b j) (cond (eqb j i) (open_length (row (reweighted t i w l) j).state) (max m (open_length (row (reweighted t i w l) j).state)))
  reweight_longest i w l r b way tb =
      let halves = books_two way in
      let c = halves.0 in
      let tc = leave_tied t a c i ta r.leaves halves.1 in
      let here : i < length c.entries = omega (arith, r.leaves.inside, tc.matched.entries_each) in
      let there = within i r.leaves.inside in
      let second = joined_noted (left t i) c tc i here b j w (meant_in c l) halves.2 in
      let first = left_noted t a ta i there c j halves.1 in
      by_test m (open_length (row (reweighted t i w l) j).state) (eqb j i)
      (λ e. subst⁻¹ (λ (k : ℕ). Anew (entry b k)) (eqb-true j i e) (joined_anew (left t i) c tc i here b j w (meant_in c l) halves.2))
      (λ e.
      later_is
      (unnamed t a ta b j
      (λ still.
      let kept = second (eqb-false j i e) still in
      kept ∙ first (eqb-false j i e) (sym (absent_noted (entry b j) (entry c j) kept) ∙ still)))
      h (open_is tb j))
      (open_is tb j)

  holder_asks : (i used : ℕ) → Returns t i used → Acc.is_going (entry a i) ≡ false
  unfolding entry
  holder_asks i used r = sym (ta.matched.alike i).going ∙ ap is_going (holding t i used r).state_asking

  done_longest : (e : Event) → first_refusal (checks_of t e) ≡ none → Noted e (done_by t e)
  unfolding counted_of longest_after
  done_longest (Fresh terms) fine b way tb = begun_longest terms b j _ (books_one way)
  done_longest (Join i w l) fine b way tb = join_longest i w l (join_accepted t i w l fine) b (books_one way) tb
  done_longest (Leave i) fine b way tb =
      later_is (left_later t a ta i (within i (leave_accepted t i fine).inside) b j (books_one way) (ℕ_discrete j i)) h (open_is tb j)
  done_longest (Reweight i w l) fine b way tb = reweight_longest i w l (reweight_accepted t i w l fine) b way tb
  done_longest (Length i l) fine b way tb =
      later_is (lengthened_later t a ta i (within i (length_accepted t i l fine).leaves.inside) b j (meant_in a l) (books_one way) (ℕ_discrete j i)) h (open_is tb j)
  done_longest Grant fine b way tb = unchanged b (granted t) way tb
  done_longest (Return i used early) fine b way tb =
      let r = return_accepted t i used early fine in
      later_is (returned_later t a ta i (within i r.inside) b j used early (books_one way) (holder_asks i used r) (ℕ_discrete j i)) h (open_is tb j)

  step_longest : (e : Event) → Noted e (step t e)
  unfolding step
  step_longest e = call_cases (Noted e) (checks_of t e) t (done_by t e) (λ why is. refused_longest e why) (done_longest e)

-- and every run
run_longest : (es : List Event) (t : Table) (a b : Account) (j m : ℕ) → Tied t a → LongestIs (entry a j) m → Books a (counted t es) b → LongestIs (entry b j) (longest_seen t es j m)
run_longest [] t a b j m ta h none_left = h
run_longest (e ∷ es) t a b j m ta h way =
    let parts = books_split (counted_of (step t e) e) (counted (step t e).table es) way in
    let c = parts.0 in
    let tc = step_tied t a e ta c parts.1 in
    run_longest es (step t e).table c b j (longest_after (step t e) e j m) tc (step_longest t a ta j m h e c parts.1 tc) parts.2

pub longest_is_seen : (terms : Terms) (calls : List Event) (i : ℕ) (q : Queue) → entry (account_of terms calls) i ≡ present q → q.longest ≡ longest_seen (empty_table terms) calls i 0
unfolding account_of changes
longest_is_seen terms calls i q e =
    let start : LongestIs (entry (no_one terms) i) 0 = begun_longest terms (no_one terms) i 0 refl in
    let noted_so =
    run_longest calls (empty_table terms) (no_one terms) (account_from (no_one terms) (changes terms calls)) i 0 (fresh_tied terms) start (account_books (no_one terms) (changes terms calls)) in
    sym (ap longest_of e) ∙ noted_so.noted_is (ap is_absent e)
