-- An event alters only the rows that it names or releases: a row is set only at the event's own number, and a release only frees going rows.
use mathlib.Core.Bool.{Bool, true, false}
use mathlib.Core.Logic.{◌≢◌}
use mathlib.Core.Path.{◌≡◌, refl, sym, subst, subst⁻¹, ◌∙◌}
use Prim.Native.Nat.{ℕ}
use native.Mathlib.Decide.{ℕ_discrete}
use borrow.Author.Tests.{eqb-true, eqb-false}
use Rattle.laws.proofs.Tests.{clash}
use Rattle.rows.specs.declared.Row.{Row}
use Rattle.rows.specs.declared.Terms.{Terms}
use Rattle.rows.specs.Row.{is_going}
use Rattle.head.specs.declared.Event.{Event}
use Rattle.head.specs.declared.Event.TheVariants.{Fresh, Join, Leave, Reweight, Length, Grant, Return}
use Rattle.head.specs.Head.{sliced}
use Rattle.share.specs.declared.Table.{Table}
use Rattle.share.specs.Calls.{step, done_by, checks_of}
use Rattle.share.specs.Events.{joined, left, reweighted, length_set, granted, returned}
use Rattle.share.specs.Release.{freed, Frees, done, one, released}
use Rattle.share.specs.Sound.{Ready}
use Rattle.share.specs.Table.{row, placed, with_slice}
use Rattle.share.proofs.Placed.{placed_other}
use Rattle.share.proofs.Release.{released_frees, freed_same, freed_other}
use Rattle.calls.proofs.Replies.{call_cases}
use Rattle.account.specs.Named.{names, Stays, same, let_go}

then_stays : {a b c : Row} → Stays a b → Stays b c → Stays a c
then_stays (same e) (same f) = same (f ∙ e)
then_stays (same e) (let_go g f) = let_go (subst (λ (r : Row). is_going r.state ≡ true) e g) f
then_stays (let_go g e) (same f) = let_go g (f ∙ e)
then_stays (let_go g e) (let_go h f) = let_go g f

freed_stays : (t : Table) (i j : ℕ) → Ready t i → Dec (j ≡ i) → Stays (row t j) (row (freed t i) j)
freed_stays t i j r (yes e) = subst⁻¹ (λ (k : ℕ). Stays (row t k) (row (freed t i) k)) e (let_go r.going (freed_same t i))
freed_stays t i j r (no apart) = same (freed_other t i j apart)

pub frees_stay : {t u : Table} (j : ℕ) → Frees t u → Stays (row t j) (row u j)
frees_stay j (done calm) = same refl
frees_stay {t} j (one i r rest) = then_stays (freed_stays t i j r (ℕ_discrete j i)) (frees_stay j rest)

-- a row set, and the release after it
set_stays : (t : Table) (i j : ℕ) (r : Row) → j ≢ i → Stays (row t j) (row (released (placed t i r)) j)
set_stays t i j r apart = then_stays (same (placed_other t i r j apart)) (frees_stay j (released_frees (placed t i r)))

left_stays : (t : Table) (i j : ℕ) → j ≢ i → Stays (row t j) (row (left t i) j)
unfolding left
left_stays t i j apart = set_stays t i j _ apart

joined_stays : (t : Table) (i w l j : ℕ) → j ≢ i → Stays (row t j) (row (joined t i w l) j)
unfolding joined
joined_stays t i w l j apart = set_stays t i j _ apart

slice_row : (t : Table) (out : Bool) (holder ticks j : ℕ) → row (with_slice t out holder ticks) j ≡ row t j
unfolding with_slice sliced row
slice_row t out holder ticks j = refl

done_alters : (t : Table) (e : Event) (j : ℕ) → names e j ≡ false → Stays (row t j) (row (done_by t e).table j)
unfolding reweighted length_set granted returned
done_alters t (Fresh terms) j h = absurd (clash refl h)
done_alters t (Join i w l) j h = joined_stays t i w l j (eqb-false j i h)
done_alters t (Leave i) j h = left_stays t i j (eqb-false j i h)
done_alters t (Reweight i w l) j h = then_stays (left_stays t i j (eqb-false j i h)) (joined_stays (left t i) i w l j (eqb-false j i h))
done_alters t (Length i l) j h = same (placed_other t i _ j (eqb-false j i h))
done_alters t Grant j h = same (slice_row t _ _ _ j)
done_alters t (Return i used early) j h = then_stays (same (slice_row t false 0 0 j)) (set_stays (with_slice t false 0 0) i j _ (eqb-false j i h))

-- an event alters only the rows that it names or releases; a refused one alters none
pub alters_only : (t : Table) (e : Event) (j : ℕ) → names e j ≡ false → Stays (row t j) (row (step t e).table j)
unfolding step
alters_only t e j h = call_cases (λ r. Stays (row t j) (row r.table j)) (checks_of t e) t (done_by t e) (λ why is. same refl) (λ fine. done_alters t e j h)

-- and but for a fresh table an event names one row at most
pub names_one : (e : Event) → ((terms : Terms) → e ≢ Fresh terms) → (i j : ℕ) → names e i ≡ true → names e j ≡ true → i ≡ j
names_one (Fresh terms) h i j p q = absurd (h terms refl)
names_one (Join queue weight length) h i j p q = eqb-true i queue p ∙ sym (eqb-true j queue q)
names_one (Leave queue) h i j p q = eqb-true i queue p ∙ sym (eqb-true j queue q)
names_one (Reweight queue weight length) h i j p q = eqb-true i queue p ∙ sym (eqb-true j queue q)
names_one (Length queue length) h i j p q = eqb-true i queue p ∙ sym (eqb-true j queue q)
names_one Grant h i j p q = absurd (clash p refl)
names_one (Return queue used early) h i j p q = eqb-true i queue p ∙ sym (eqb-true j queue q)
