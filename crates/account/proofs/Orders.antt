-- The order in which the account frees rows makes no difference. Two accounts of one run are tied to one table, so they agree on who is present
-- and, as fractions, on every account and on V; what they noted besides is the same, since freeing a row notes nothing.
use mathlib.Core.Bool.{Bool, true, false, cond, ◌||◌}
use mathlib.Core.List.{List, [], ◌∷◌}
use mathlib.Core.Logic.{◌≢◌, ⊎_elim}
use mathlib.Core.Option.{none}
use mathlib.Core.Path.{◌≡◌, refl, ap, sym, ◌∙◌}
use Prim.Native.Nat.{ℕ, ◌+◌, ◌≤◌, ◌<◌}
use native.Mathlib.Decide.{ℕ_discrete}
use native.Mathlib.Omega.{arith}
use lib.Dec.{leb, eqb}
use lib.ListN.{length, get_or, set, length-map, get_or-eq_default}
use lib.Seq.{get_or-set_same, get_or-set_other, set_out}
use Rattle.laws.proofs.Tests.{clash, le_or_lt}
use Rattle.rows.specs.declared.Terms.{Terms}
use Rattle.rows.specs.Row.{is_free}
use Rattle.head.specs.declared.Event.{Event}
use Rattle.head.specs.declared.Event.TheVariants.{Fresh, Join, Leave, Reweight, Length, Grant, Return}
use Rattle.head.specs.declared.Refusal.{Refusal}
use Rattle.head.specs.Refusals.{first_refusal}
use Rattle.share.specs.declared.Reply.{Reply}
use Rattle.share.specs.declared.Table.{Table}
use Rattle.share.specs.Asks.{Reweights}
use Rattle.share.specs.Calls.{refused, step, done_by, checks_of}
use Rattle.share.specs.Events.{empty_table, joined, left, reweighted, length_set, returned}
use Rattle.share.specs.Table.{row}
use Rattle.share.proofs.Accepted.{reweight_accepted}
use Rattle.calls.proofs.Replies.{call_cases}
use Rattle.fractions.specs.Fraction.{Fraction, whole, nothing, minus, ◌~◌}
use Rattle.fractions.proofs.Laws.{turned, through, at_most_same}
use Rattle.account.specs.Account.{Entry, absent, present, Queue, Account, entry, is_absent, owed_to, weight_in, credited, gaining, all_gain, reopened, served_more, rest, settled, going_away, newcomer, entered_beside, entered_alone, no_one, made}
use Rattle.account.specs.Books.{Clears, BookedAs, Books, none_left}
use Rattle.account.specs.Changes.{Change, begins, joins, leaves, lengthens, returns, ends_in_release}
use Rattle.account.specs.Counted.{counted_of, counted, changes, table_after}
use Rattle.account.specs.Same.{noted, unpriced, Same}
use Rattle.account.proofs.Leaving.{fresh_tied}
use Rattle.account.proofs.Match.{same_weight, gain_at}
use Rattle.account.proofs.Reports.{lag_account, clock_is}
use Rattle.account.proofs.Simulation.{leave_tied, books_one, books_two, books_split, refused_counts, step_tied, tied_run, meant_in, same_meant}
use Rattle.account.proofs.Tied.{Tied}
use Rattle.account.specs.Account as Acc

-- an entry without its account is short of nothing else
pub noted_all : (q : Queue) → ◌≡◌ {A = Queue} (record { weight = (noted q).weight; owed = q.owed; going = (noted q).going; length = (noted q).length; served = (noted q).served; next = (noted q).next; longest = (noted q).longest }) q
noted_all q = refl

-- two lists of entries that note the same
record Twins (es fs : List Entry) : Type 0 where
  each : (j : ℕ) → unpriced (get_or es j absent) ≡ unpriced (get_or fs j absent)

credited_notes : (e : Entry) (f : Fraction) → unpriced (credited e f) ≡ unpriced e
credited_notes absent f = refl
credited_notes (present q) f = refl

pub gained_notes : (f : Fraction) (n : ℕ) (es : List Entry) (j : ℕ) → unpriced (get_or (all_gain f n es) j absent) ≡ unpriced (get_or es j absent)
unfolding gaining
gained_notes f n es j = ap unpriced (gain_at f n es j) ∙ credited_notes (get_or es j absent) _

gained_twins : (f g : Fraction) (n m : ℕ) (es fs : List Entry) → Twins es fs → Twins (all_gain f n es) (all_gain g m fs)
gained_twins f g n m es fs h = record { each = λ j. gained_notes f n es j ∙ h.each j ∙ sym (gained_notes g m fs j) }

pub gained_length : (f : Fraction) (n : ℕ) (es : List Entry) → length (all_gain f n es) ≡ length es
unfolding all_gain
gained_length f n es = length-map es (gaining f n)

set_twins : (i : ℕ) (e f : Entry) (es fs : List Entry) → length es ≡ length fs → unpriced e ≡ unpriced f → Twins es fs → Twins (set es i e) (set fs i f)
set_twins i e f es fs same_length new h = ⊎_elim past within (le_or_lt (length es) i)
  where
    past : length es ≤ i → Twins (set es i e) (set fs i f)
    past l = rw (set_out es i e l, set_out fs i f (omega arith)) h

    within : i < length es → Twins (set es i e) (set fs i f)
    within l = record { each = λ j. by j (ℕ_discrete j i) }
      where
        by : (j : ℕ) → Dec (j ≡ i) → unpriced (get_or (set es i e) j absent) ≡ unpriced (get_or (set fs i f) j absent)
        by j (yes at) = rw (at, get_or-set_same es i e absent l, get_or-set_same fs i f absent (omega arith)) new
        by j (no apart) = rw (get_or-set_other es i j e absent apart, get_or-set_other fs i j f absent apart) (h.each j)

-- what an entry becomes depends on what it notes
requested_notes : (b : Bool) (q : Queue) (used : ℕ) (f : Fraction) → unpriced (credited (present (cond b (reopened q) (served_more q used))) f) ≡ unpriced (credited (present (cond b (reopened (noted q)) (served_more (noted q) used))) f)
requested_notes true q used f = refl
requested_notes false q used f = refl

pub charged_notes : (e : Entry) (used : ℕ) (early : Bool) → unpriced (Acc.charged e used early) ≡ unpriced (Acc.charged (unpriced e) used early)
charged_notes absent used early = refl
charged_notes (present q) used early = requested_notes (early || leb q.length (q.served + used)) q used (minus (whole used))

going_notes : (e : Entry) → unpriced (going_away e) ≡ unpriced (going_away (unpriced e))
going_notes absent = refl
going_notes (present q) = refl

next_notes : (e : Entry) (n : ℕ) → unpriced (Acc.next_set e n) ≡ unpriced (Acc.next_set (unpriced e) n)
next_notes absent n = refl
next_notes (present q) n = refl

module _ (t : Table) (a b : Account) (ta : Tied t a) (tb : Tied t b) where
  same_length : length a.entries ≡ length b.entries
  same_length = ta.matched.entries_each ∙ sym tb.matched.entries_each

  pub same_owed : (i : ℕ) → owed_to (entry a i) ~ owed_to (entry b i)
  same_owed i = through (turned (lag_account t a ta i)) (lag_account t b tb i)

  pub same_clock : a.virtual ~ b.virtual
  same_clock = through (clock_is t a ta) (turned (clock_is t b tb))

  same_settled : (i : ℕ) → settled (entry a i) ≡ settled (entry b i)
  unfolding settled
  same_settled i = at_most_same nothing (same_owed i)

  same_W : weight_in a.entries ≡ weight_in b.entries
  same_W = same_weight ta.matched ∙ sym (same_weight tb.matched)

  same_lengths : (l : ℕ) → meant_in a l ≡ meant_in b l
  same_lengths l = same_meant t a l ta ∙ sym (same_meant t b l tb)

  -- a change before its release
  module _ (h : Twins a.entries b.entries) where
    returned_twins : (i used : ℕ) (early : Bool) → Twins (Acc.returned a i used early).entries (Acc.returned b i used early).entries
    unfolding Acc.returned
    returned_twins i used early =
        let gained_a = all_gain (whole used) (weight_in a.entries) a.entries in
        let gained_b = all_gain (whole used) (weight_in b.entries) b.entries in
        let gained = gained_twins (whole used) (whole used) (weight_in a.entries) (weight_in b.entries) a.entries b.entries h in
        set_twins i (Acc.charged (get_or gained_a i absent) used early) (Acc.charged (get_or gained_b i absent) used early) gained_a gained_b
        (gained_length _ _ a.entries ∙ same_length ∙ sym (gained_length _ _ b.entries))
        (charged_notes (get_or gained_a i absent) used early ∙ ap (λ (x : Entry). unpriced (Acc.charged x used early)) (gained.each i)
        ∙ sym (charged_notes (get_or gained_b i absent) used early))
        gained

    freed_twins : (i : ℕ) → Twins (Acc.freed a i).entries (Acc.freed b i).entries
    unfolding Acc.freed rest
    freed_twins i = gained_twins _ _ _ _ _ _ (set_twins i absent absent a.entries b.entries same_length refl h)

    left_twins : (i : ℕ) → Twins (Acc.left a i).entries (Acc.left b i).entries
    unfolding Acc.left entry
    left_twins i = rw (same_settled i) (by (settled (get_or b.entries i absent)))
      where
        by : (c : Bool) → Twins (cond {A = Account} c (Acc.freed a i) (record { entries = set a.entries i (going_away (get_or a.entries i absent)); virtual = a.virtual; terms = a.terms })).entries (cond {A = Account} c (Acc.freed b i) (record { entries = set b.entries i (going_away (get_or b.entries i absent)); virtual = b.virtual; terms = b.terms })).entries
        by true = freed_twins i
        by false =
            set_twins i _ _ a.entries b.entries same_length
            (going_notes (get_or a.entries i absent) ∙ ap (λ (x : Entry). unpriced (going_away x)) (h.each i)
            ∙ sym (going_notes (get_or b.entries i absent)))
            h

    entered_twins : (i w l : ℕ) → Twins (Acc.entered a i w l).entries (Acc.entered b i w l).entries
    unfolding Acc.entered Acc.is_empty entered_alone entered_beside newcomer
    entered_twins i w l = rw same_W (by (eqb (weight_in b.entries) 0))
      where
        by : (c : Bool) → Twins (cond {A = Account} c (entered_alone a i w l) (entered_beside a i w l)).entries (cond {A = Account} c (entered_alone b i w l) (entered_beside b i w l)).entries
        by true = set_twins i _ _ a.entries b.entries same_length refl h
        by false = gained_twins _ _ _ _ _ _ (set_twins i _ _ a.entries b.entries same_length refl h)

    lengthened_twins : (i n : ℕ) → Twins (Acc.lengthened a i n).entries (Acc.lengthened b i n).entries
    unfolding Acc.lengthened entry
    lengthened_twins i n =
        set_twins i _ _ a.entries b.entries same_length
        (next_notes (get_or a.entries i absent) n ∙ ap (λ (x : Entry). unpriced (Acc.next_set x n)) (h.each i) ∙ sym (next_notes (get_or b.entries i absent) n)) h

    made_twins : (c : Change) → Twins (made a c).entries (made b c).entries
    made_twins (begins terms) = record { each = λ j. refl }
    made_twins (joins i w l) = rw (same_lengths l) (entered_twins i w (meant_in b l))
    made_twins (leaves i) = left_twins i
    made_twins (lengthens i l) = rw (same_lengths l) (lengthened_twins i (meant_in b l))
    made_twins (returns i used early) = returned_twins i used early

-- a release keeps what is noted of whoever is still there
pub unpriced_absent : (e : Entry) → is_absent (unpriced e) ≡ is_absent e
unpriced_absent absent = refl
unpriced_absent (present q) = refl

pub rest_gone : (a : Account) (i : ℕ) → get_or (rest a i) i absent ≡ absent
unfolding rest
rest_gone a i = ⊎_elim past within (le_or_lt (length a.entries) i)
  where
    past : length a.entries ≤ i → get_or (set a.entries i absent) i absent ≡ absent
    past l = rw (set_out a.entries i absent l) (get_or-eq_default a.entries absent l)

    within : i < length a.entries → get_or (set a.entries i absent) i absent ≡ absent
    within l = get_or-set_same a.entries i absent absent l

pub rest_other : (a : Account) (i j : ℕ) → j ≢ i → get_or (rest a i) j absent ≡ entry a j
unfolding rest entry
rest_other a i j apart = get_or-set_other a.entries i j absent absent apart

pub freed_notes : (a : Account) (i j : ℕ) → unpriced (entry (Acc.freed a i) j) ≡ unpriced (get_or (rest a i) j absent)
unfolding Acc.freed entry
freed_notes a i j = gained_notes _ _ (rest a i) j

freed_keeps : (a : Account) (i j : ℕ) → is_absent (entry (Acc.freed a i) j) ≡ false → unpriced (entry (Acc.freed a i) j) ≡ unpriced (entry a j)
freed_keeps a i j here = by (ℕ_discrete j i)
  where
    by : Dec (j ≡ i) → unpriced (entry (Acc.freed a i) j) ≡ unpriced (entry a j)
    by (yes at) =
        let gone : unpriced (entry (Acc.freed a i) j) ≡ absent = freed_notes a i j ∙ ap unpriced (ap (λ (k : ℕ). get_or (rest a i) k absent) at ∙ rest_gone a i) in
        absurd (clash (sym (unpriced_absent (entry (Acc.freed a i) j)) ∙ ap is_absent gone) here)
    by (no apart) = freed_notes a i j ∙ ap unpriced (rest_other a i j apart)

pub clears_keep : {a b : Account} (j : ℕ) → Clears a b → is_absent (entry b j) ≡ false → unpriced (entry b j) ≡ unpriced (entry a j)
clears_keep j (Clears.done calm) here = refl
clears_keep {a} {b} j (Clears.one i d more) here =
    let kept = clears_keep j more here in
    kept ∙ freed_keeps a i j (sym (unpriced_absent (entry (Acc.freed a i) j)) ∙ ap is_absent (sym kept) ∙ unpriced_absent (entry b j) ∙ here)

both_absent : (e f : Entry) → is_absent e ≡ true → is_absent f ≡ true → unpriced e ≡ unpriced f
both_absent absent absent p q = refl
both_absent absent (present f) p q = absurd (clash q refl)
both_absent (present e) absent p q = absurd (clash p refl)
both_absent (present e) (present f) p q = absurd (clash p refl)

-- so a change with its release, whatever its order, if both ends are tied to one table
cleared_twins : (u : Table) (m n b c : Account) → Clears m b → Clears n c → Tied u b → Tied u c → Twins m.entries n.entries → Twins b.entries c.entries
unfolding entry
cleared_twins u m n b c way through tb tc h = record { each = λ j. by j (is_free (row u j).state) refl }
  where
    by : (j : ℕ) (free : Bool) → is_free (row u j).state ≡ free → unpriced (get_or b.entries j absent) ≡ unpriced (get_or c.entries j absent)
    by j true e =
        both_absent (get_or b.entries j absent) (get_or c.entries j absent) (sym (tb.matched.alike j).free ∙ e) (sym (tc.matched.alike j).free ∙ e)
    by j false e =
        clears_keep j way (sym (tb.matched.alike j).free ∙ e) ∙ h.each j ∙ sym (clears_keep j through (sym (tc.matched.alike j).free ∙ e))

booked_twins : (u : Table) (m n b c : Account) (r : Bool) → BookedAs r m b → BookedAs r n c → Tied u b → Tied u c → Twins m.entries n.entries → Twins b.entries c.entries
booked_twins u m n b c true way through tb tc h = cleared_twins u m n b c way through tb tc h
booked_twins u m n b c false e f tb tc h = rw (e, f) h

-- through every step
nothing_twins : {a b c d : Account} → Twins a.entries b.entries → Books a [] c → Books b [] d → Twins c.entries d.entries
nothing_twins h none_left none_left = h

module _ (t : Table) (a b : Account) (ta : Tied t a) (tb : Tied t b) (h : Twins a.entries b.entries) where
  -- where an event's changes may end, tied and noted alike
  abbrev Twinned : Event → Reply → Type 0
  Twinned e r = (c d : Account) → Books a (counted_of r e) c → Books b (counted_of r e) d → Tied r.table c → Tied r.table d → Twins c.entries d.entries

  one_change : (u : Table) (x : Change) (c d : Account) → Books a (x ∷ []) c → Books b (x ∷ []) d → Tied u c → Tied u d → Twins c.entries d.entries
  one_change u x c d way through tc td =
      booked_twins u (made a x) (made b x) c d (ends_in_release x) (books_one way) (books_one through) tc td (made_twins t a b ta tb h x)

  refused_twins : (e : Event) (why : Refusal) → Twinned e (refused t why)
  refused_twins e why c d way through tc td =
      nothing_twins h (rw (refused_counts t e why) at way) (rw (refused_counts t e why) at through)

  reweigh_twins : (i w l : ℕ) → Reweights t i w l → (c d : Account) → Books a (leaves i ∷ joins i w l ∷ []) c → Books b (leaves i ∷ joins i w l ∷ []) d → Tied (reweighted t i w l) c → Tied (reweighted t i w l) d → Twins c.entries d.entries
  reweigh_twins i w l r c d way through tc td =
      let p = books_two way in
      let q = books_two through in
      let tp = leave_tied t a p.0 i ta r.leaves p.1 in
      let tq = leave_tied t b q.0 i tb r.leaves q.1 in
      let mid = booked_twins (left t i) (made a (leaves i)) (made b (leaves i)) p.0 q.0 true p.1 q.1 tp tq (made_twins t a b ta tb h (leaves i)) in
      booked_twins (reweighted t i w l) (made p.0 (joins i w l)) (made q.0 (joins i w l)) c d true p.2 q.2 tc td
      (made_twins (left t i) p.0 q.0 tp tq mid (joins i w l))

  done_twins : (e : Event) → first_refusal (checks_of t e) ≡ none → Twinned e (done_by t e)
  unfolding counted_of
  done_twins (Fresh terms) fine = one_change (empty_table terms) (begins terms)
  done_twins (Join i w l) fine = one_change (joined t i w l) (joins i w l)
  done_twins (Leave i) fine = one_change (left t i) (leaves i)
  done_twins (Reweight i w l) fine = reweigh_twins i w l (reweight_accepted t i w l fine)
  done_twins (Length i l) fine = one_change (length_set t i l) (lengthens i l)
  done_twins Grant fine = λ c d way through' tc td. nothing_twins h way through'
  done_twins (Return i used early) fine = one_change (returned t i used early) (returns i used early)

  step_twins : (e : Event) → Twinned e (step t e)
  unfolding step
  step_twins e = call_cases (Twinned e) (checks_of t e) t (done_by t e) (λ why is. refused_twins e why) (done_twins e)

-- and every run
run_twins : (es : List Event) (t : Table) (a b c d : Account) → Tied t a → Tied t b → Twins a.entries b.entries → Books a (counted t es) c → Books b (counted t es) d → Twins c.entries d.entries
run_twins [] t a b c d ta tb h way through = nothing_twins h way through
run_twins (e ∷ es) t a b c d ta tb h way through =
    let cs = counted_of (step t e) e in
    let ds = counted (step t e).table es in
    let p = books_split cs ds way in
    let q = books_split cs ds through in
    let tp = step_tied t a e ta p.0 p.1 in
    let tq = step_tied t b e tb q.0 q.1 in
    run_twins es (step t e).table p.0 q.0 c d tp tq (step_twins t a b ta tb h e p.0 q.0 p.1 q.1 tp tq) p.2 q.2

pub any_order : (terms : Terms) (calls : List Event) (a b : Account) → Books (no_one terms) (changes terms calls) a → Books (no_one terms) (changes terms calls) b → Same a b
unfolding changes entry
any_order terms calls a b way through =
    let ta = tied_run terms calls a way in
    let tb = tied_run terms calls b through in
    record {
      terms_same = ta.same_terms ∙ sym tb.same_terms;
      entries_same = (run_twins calls (empty_table terms) (no_one terms) (no_one terms) a b (fresh_tied terms) (fresh_tied terms) (record { each = λ j. refl }) way through).each;
      owed_same = same_owed (table_after terms calls) a b ta tb;
      virtual_same = same_clock (table_after terms calls) a b ta tb;
    }
