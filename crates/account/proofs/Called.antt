-- What holds of a run of events holds of a run of calls: its table is that of its events, and so is its account.
use mathlib.Core.Bool.{true, false}
use mathlib.Core.List.{List, [], ◌∷◌, ◌++◌}
use mathlib.Core.Path.{◌≡◌, refl, subst⁻¹, ap, ◌∙◌}
use Prim.Native.Nat.{ℕ, ◌≤◌, ◌<◌}
use lib.IntN.{ℤ, pos}
use lib.ListN.{length, take}
use Rattle.laws.specs.Lists.{all}
use Rattle.laws.proofs.Tests.{and_left, and_right, and_both}
use Rattle.rows.specs.declared.Terms.{Terms}
use Rattle.rows.specs.Numbers.{queues}
use Rattle.rows.specs.Orderly.{Allowed}
use Rattle.head.specs.declared.Event.{Event}
use Rattle.share.specs.declared.Table.{Table}
use Rattle.share.specs.Calls.{lag_list}
use Rattle.share.specs.Sound.{Sound}
use Rattle.share.specs.Table.{row}
use Rattle.calls.specs.Public.{Call, event, release, report, standing, answered, table_of, events_of}
use Rattle.calls.proofs.Answering.{report_table, standing_table}
use Rattle.calls.proofs.Calling.{release_table, from_fresh}
use Rattle.calls.proofs.Soundness.{run_sound}
use Rattle.fractions.specs.Signed.{summed}
use Rattle.fractions.specs.Fraction.{◌~◌, at_most}
use Rattle.account.specs.Account.{entry, owed_to}
use Rattle.account.specs.Agrees.{Agrees}
use Rattle.account.specs.Clock.{goes_on, call_goes_on}
use Rattle.account.specs.Counted.{account_of_calls, table_after}
use Rattle.account.specs.Named.{named_by, Stays, same}
use Rattle.account.specs.Report.{virtual_time, reported}
use Rattle.account.proofs.Frames as Frames
use Rattle.account.proofs.Theorems as Theorems

module _ (terms : Terms) (is_allowed : Allowed terms) (cs : List Call) where
  table_is : table_of terms cs ≡ table_after terms (events_of cs)
  unfolding table_after
  table_is = from_fresh terms is_allowed cs

  pub calls_sound : Sound (table_of terms cs)
  calls_sound = subst⁻¹ Sound (from_fresh terms is_allowed cs) (run_sound terms is_allowed (events_of cs))

  pub agree : (i : ℕ) → Agrees (row (table_of terms cs) i) (entry (account_of_calls terms cs) i)
  agree i = subst⁻¹ (λ (t : Table). Agrees (row t i) (entry (account_of_calls terms cs) i)) table_is (Theorems.agree terms (events_of cs) i)

  pub same_V : (account_of_calls terms cs).virtual ~ virtual_time (table_of terms cs)
  same_V = subst⁻¹ (λ (t : Table). (account_of_calls terms cs).virtual ~ virtual_time t) table_is (Theorems.same_V terms (events_of cs))

  module _ (lent : List ℤ) (long : queues ≤ length lent) where
    pub report_is_account : (i : ℕ) → i < queues → reported (table_of terms cs) lent i ~ owed_to (entry (account_of_calls terms cs) i)
    report_is_account i inside =
        subst⁻¹ (λ (t : Table). reported t lent i ~ owed_to (entry (account_of_calls terms cs) i)) table_is
        (Theorems.report_is_account terms is_allowed (events_of cs) lent long i inside)

    pub report_level : summed (take queues (lag_list (table_of terms cs) lent)) ≡ pos 0
    report_level =
        subst⁻¹ (λ (t : Table). summed (take queues (lag_list t lent)) ≡ pos 0) table_is (Theorems.report_level terms is_allowed (events_of cs) lent long)

-- from one point of a run to any later one V does not fall
events_append : (cs ds : List Call) → events_of (cs ++ ds) ≡ events_of cs ++ events_of ds
events_append [] ds = refl
events_append (event e ∷ cs) ds = ap (λ (es : List Event). e ∷ es) (events_append cs ds)
events_append (release ∷ cs) ds = events_append cs ds
events_append (report lent ∷ cs) ds = events_append cs ds
events_append (standing queue ∷ cs) ds = events_append cs ds

events_go_on : (ds : List Call) → all call_goes_on ds ≡ true → all goes_on (events_of ds) ≡ true
events_go_on [] h = refl
events_go_on (event e ∷ ds) h = and_both {a = goes_on e} (and_left _ _ h) (events_go_on ds (and_right (goes_on e) _ h))
events_go_on (release ∷ ds) h = events_go_on ds h
events_go_on (report lent ∷ ds) h = events_go_on ds h
events_go_on (standing queue ∷ ds) h = events_go_on ds h

pub V_steady : (terms : Terms) → Allowed terms → (cs ds : List Call) → all call_goes_on ds ≡ true → at_most (virtual_time (table_of terms cs)) (virtual_time (table_of terms (cs ++ ds))) ≡ true
V_steady terms is_allowed cs ds h =
    subst⁻¹ (λ (t : Table). at_most (virtual_time t) (virtual_time (table_of terms (cs ++ ds))) ≡ true) (table_is terms is_allowed cs)
    (subst⁻¹ (λ (t : Table). at_most (virtual_time (table_after terms (events_of cs))) (virtual_time t) ≡ true)
    (table_is terms is_allowed (cs ++ ds) ∙ ap (table_after terms) (events_append cs ds))
    (Theorems.V_steady terms (events_of cs) (events_of ds) (events_go_on ds h)))

-- a call alters only the rows that it names or releases
pub alters_only : (t : Table) (c : Call) (i : ℕ) → named_by c i ≡ false → Stays (row t i) (row (answered t c).table i)
alters_only t (event e) i h = Frames.alters_only t e i h
alters_only t release i h = same (ap (λ (u : Table). row u i) (release_table t))
alters_only t (report lent) i h = same (ap (λ (u : Table). row u i) (report_table t lent))
alters_only t (standing queue) i h = same (ap (λ (u : Table). row u i) (standing_table t queue))
