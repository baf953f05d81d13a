-- Table and account stay tied through every step, refused or accepted, and so through every run, in whatever order the account frees rows.
use mathlib.Core.Bool.{Bool, false}
use mathlib.Core.List.{List, [], ◌∷◌, ◌++◌}
use mathlib.Core.Option.{none}
use mathlib.Core.Path.{◌≡◌, refl, ap, subst, subst⁻¹, ◌∙◌}
use Prim.Native.Nat.{ℕ}
use native.Mathlib.Omega.{arith}
use Rattle.rows.specs.declared.Request.{Request}
use Rattle.rows.specs.declared.Row.{Row}
use Rattle.rows.specs.declared.State.{State}
use Rattle.rows.specs.declared.State.TheVariants.{Asking}
use Rattle.rows.specs.declared.Terms.{Terms}
use Rattle.rows.specs.Numbers.{length_meant}
use Rattle.rows.specs.Orderly.{OrderlyAs}
use Rattle.rows.specs.Requests.{entering, row_next_set, charged}
use Rattle.rows.proofs.Requests.{meant_low}
use Rattle.head.specs.declared.Event.{Event}
use Rattle.head.specs.declared.Event.TheVariants.{Fresh, Join, Leave, Reweight, Length, Grant, Return}
use Rattle.head.specs.declared.Refusal.{Refusal}
use Rattle.head.specs.Head.{entry, sliced}
use Rattle.head.specs.Refusals.{first_refusal}
use Rattle.share.specs.declared.Reply.{Reply}
use Rattle.share.specs.declared.Table.{Table}
use Rattle.share.specs.Asks.{Joins, Leaves, Lengthens, Returns}
use Rattle.share.specs.Calls.{refused, step, checks_of, done_by}
use Rattle.share.specs.Events.{empty_table, joined, leaving, left, reweighted, length_set, granted, returned, meant}
use Rattle.share.specs.Runs.{run}
use Rattle.share.specs.Table.{row, placed, with_slice}
use Rattle.share.proofs.Accepted.{join_accepted, leave_accepted, reweight_accepted, length_accepted, return_accepted}
use Rattle.share.proofs.Charges.{holding, slice_within}
use Rattle.share.proofs.Departing.{rejoins}
use Rattle.calls.proofs.Replies.{call_cases}
use Rattle.account.specs.Account.{Account, made, no_one}
use Rattle.account.specs.Books.{Clears, BookedAs, Books, none_left, next_change}
use Rattle.account.specs.Changes.{Change, ends_in_release}
use Rattle.account.specs.Counted.{counted_of, counted, changes, table_after}
use Rattle.account.proofs.Entering.{entered_tied}
use Rattle.account.proofs.Leaving.{slice_tied, fresh_tied, left_tied, lengthened_tied}
use Rattle.account.proofs.Releases.{released_tied}
use Rattle.account.proofs.Returning.{Charges, returned_tied}
use Rattle.account.proofs.Tied.{Tied}
use Rattle.account.specs.Account as Acc

-- a length means the same to both, since they have the same terms
abbrev pub meant_in : Account → ℕ → ℕ
meant_in a l = length_meant a.terms l

pub same_meant : (t : Table) (a : Account) (l : ℕ) → Tied t a → meant_in a l ≡ meant t l
same_meant t a l tied = ap (λ (terms : Terms). length_meant terms l) tied.same_terms

-- each event, tied, with the release that it ends in
pub join_tied : (t : Table) (a b : Account) (i w l : ℕ) → Tied t a → Joins t i w l → Clears (Acc.entered a i w (meant_in a l)) b → Tied (joined t i w l) b
unfolding joined
join_tied t a b i w l tied j way =
    released_tied (placed t i (entering w (entry t.head) (meant t l)))
    (entered_tied t a i w (meant t l) tied j.inside j.free j.weight_low j.weight_high (meant_low t.head.terms l j.was_sound.orderly_table.terms_allowed))
    (subst (λ (n : ℕ). Clears (Acc.entered a i w n) b) (same_meant t a l tied) way)

pub leave_tied : (t : Table) (a b : Account) (i : ℕ) → Tied t a → Leaves t i → Clears (Acc.left a i) b → Tied (left t i) b
unfolding left
leave_tied t a b i tied l way = released_tied (placed t i (leaving t (row t i))) (left_tied t a i tied l.asks) way

pub length_tied : (t : Table) (a : Account) (i l : ℕ) → Tied t a → Lengthens t i l → Tied (length_set t i l) (Acc.lengthened a i (meant_in a l))
unfolding length_set row_next_set
length_tied t a i l tied h = rw (same_meant t a l tied) (lengthened_tied t a i (meant t l) tied h.leaves.asks)

abbrev as_asking : Row → Request → Row
as_asking r q = record { weight = r.weight; position = r.position; state = Asking q }

asking_row : (r : Row) (q : Request) → r.state ≡ Asking q → r ≡ as_asking r q
asking_row r q e = λ k. record { weight = r.weight; position = r.position; state = e k }

slice_row : (t : Table) (j : ℕ) → row (with_slice t false 0 0) j ≡ row t j
unfolding with_slice sliced row
slice_row t j = refl

charges : (t : Table) (i used : ℕ) (r : Returns t i used) → Charges (with_slice t false 0 0) (row t i).weight (row t i).position used (holding t i used r).request
unfolding with_slice sliced
charges t i used r =
    let h = holding t i used r in
    let orderly : OrderlyAs (Asking h.request) (row t i).weight (row t i).position =
    subst (λ (s : State). OrderlyAs s (row t i).weight (row t i).position) h.state_asking (r.was_sound.orderly_table.each i) in
    record {
      opens = h.orderly_holder.opened;
      stands = orderly.1.stands;
      fits = omega (arith, r.within, h.orderly_holder.slice_high, slice_within t.head.terms h.request orderly.1.served_less);
      light = orderly.0.weight_low;
      heavy = orderly.0.weight_high;
    }

-- the slice taken in and the holder charged
module _ (t : Table) (a : Account) (i used : ℕ) (early : Bool) (tied : Tied t a) (r : Returns t i used) where
  taken : Table
  taken = with_slice t false 0 0

  q : Request
  q = (holding t i used r).request

  at : row t i ≡ as_asking (row t i) q
  unfolding q
  at = asking_row (row t i) q (holding t i used r).state_asking

  charged_tied : Tied (placed taken i (charged (row t i) used early)) (Acc.returned a i used early)
  unfolding taken q
  charged_tied =
      subst⁻¹ (λ (x : Row). Tied (placed taken i (charged x used early)) (Acc.returned a i used early)) at
      (returned_tied taken a i used early (row t i).weight (row t i).position q (slice_tied t a false 0 0 tied) (slice_row t i ∙ at) r.inside
      (charges t i used r))

pub return_tied : (t : Table) (a b : Account) (i used : ℕ) (early : Bool) → Tied t a → Returns t i used → Clears (Acc.returned a i used early) b → Tied (returned t i used early) b
unfolding returned taken
return_tied t a b i used early tied r way =
    released_tied (placed (with_slice t false 0 0) i (charged (row t i) used early)) (charged_tied t a i used early tied r) way

-- what a list of changes may be booked as, taken apart
pub books_none : {a b : Account} (t : Table) → Tied t a → Books a [] b → Tied t b
books_none t tied none_left = tied

pub books_one : {a b : Account} {c : Change} → Books a (c ∷ []) b → BookedAs (ends_in_release c) (made a c) b
books_one (next_change h none_left) = h

pub books_two : {a b : Account} {c d : Change} → Books a (c ∷ d ∷ []) b → (m : Account) × BookedAs (ends_in_release c) (made a c) m × BookedAs (ends_in_release d) (made m d) b
books_two (next_change {b = m} h (next_change k none_left)) = (m, h, k)

pub books_split : {a b : Account} (cs ds : List Change) → Books a (cs ++ ds) b → (m : Account) × Books a cs m × Books m ds b
books_split {a} [] ds way = (a, none_left, way)
books_split (c ∷ cs) ds (next_change h rest) = let more = books_split cs ds rest in (more.0, next_change h more.1, more.2)

-- where the account of an event may end, if it is tied to the table before
abbrev pub After : Account → Event → Reply → Type 0
After a e r = (b : Account) → Books a (counted_of r e) b → Tied r.table b

-- "refused calls counting as nothing"
pub refused_counts : (t : Table) (e : Event) (why : Refusal) → counted_of (refused t why) e ≡ []
unfolding counted_of
refused_counts t e why = refl

refused_after : (t : Table) (a : Account) (e : Event) (why : Refusal) → Tied t a → After a e (refused t why)
refused_after t a e why tied b way = books_none t tied (rw (refused_counts t e why) at way)

done_after : (t : Table) (a : Account) (e : Event) → Tied t a → first_refusal (checks_of t e) ≡ none → After a e (done_by t e)
unfolding reweighted granted counted_of
done_after t a (Fresh terms) tied fine b way = subst⁻¹ (Tied (empty_table terms)) (books_one way) (fresh_tied terms)
done_after t a (Join i w l) tied fine b way = join_tied t a b i w l tied (join_accepted t i w l fine) (books_one way)
done_after t a (Leave i) tied fine b way = leave_tied t a b i tied (leave_accepted t i fine) (books_one way)
done_after t a (Reweight i w l) tied fine b way =
    let halves = books_two way in
    let r = reweight_accepted t i w l fine in
    join_tied (left t i) halves.0 b i w l (leave_tied t a halves.0 i tied r.leaves halves.1) (rejoins t i w l r) halves.2
done_after t a (Length i l) tied fine b way =
    subst⁻¹ (Tied (length_set t i l)) (books_one way) (length_tied t a i l tied (length_accepted t i l fine))
done_after t a Grant tied fine b way = books_none _ (slice_tied t a _ _ _ tied) way
done_after t a (Return i used early) tied fine b way = return_tied t a b i used early tied (return_accepted t i used early fine) (books_one way)

pub step_tied : (t : Table) (a : Account) (e : Event) → Tied t a → After a e (step t e)
unfolding step
step_tied t a e tied = call_cases (After a e) (checks_of t e) t (done_by t e) (λ why is. refused_after t a e why tied) (done_after t a e tied)

pub run_tied : (es : List Event) (t : Table) (a b : Account) → Tied t a → Books a (counted t es) b → Tied (run t es) b
run_tied [] t a b tied way = books_none t tied way
run_tied (e ∷ es) t a b tied way =
    let parts = books_split (counted_of (step t e) e) (counted (step t e).table es) way in
    run_tied es (step t e).table parts.0 b (step_tied t a e tied parts.0 parts.1) parts.2

-- over any run from a fresh table
pub tied_run : (terms : Terms) (calls : List Event) (b : Account) → Books (no_one terms) (changes terms calls) b → Tied (table_after terms calls) b
unfolding changes table_after
tied_run terms calls b way = run_tied calls (empty_table terms) (no_one terms) b (fresh_tied terms) way
