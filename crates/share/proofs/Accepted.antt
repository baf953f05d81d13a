-- What an accepted call may rest on: no refusal applied, so each test of its list was false, and that is a fact about the table and the numbers.
use mathlib.Core.Path.{◌≡◌, refl}
use mathlib.Core.Bool.{Bool, true, false, not, cond}
use mathlib.Core.List.{List, [], ◌∷◌}
use mathlib.Core.Option.{Option, none, some}
use Prim.Native.Nat.{ℕ, zero, suc, ◌≤◌, ◌<◌}
use native.Mathlib.Omega.{arith}
use lib.Dec.{eqb}
use lib.ListN.{length}
use borrow.Author.Tests.{leb-false, ltb-false, eqb-true, eqb-false, not-false}
use Rattle.laws.proofs.Tests.{and_left, and_right}
use Rattle.rows.specs.Numbers.{queues, max_weight, max_length}
use Rattle.rows.specs.Row.{is_free}
use Rattle.rows.proofs.Orderly.{within_low, within_high}
use Rattle.rows.proofs.Virtual.{reached_yes}
use Rattle.head.specs.declared.Event.TheVariants.{Join, Leave, Reweight, Length, Grant, Return}
use Rattle.head.specs.declared.Refusal.{Refusal}
use Rattle.head.specs.Head.{is_empty}
use Rattle.head.specs.Refusals.{Check, ◌when◌, first_refusal, queue_outside, length_outside, not_holder, row_taken, not_asking, lag_below, ticks_outside, may_use, checks_for}
use Rattle.share.specs.declared.Table.{Table}
use Rattle.share.specs.Asks.{Joins, Leaves, Reweights, Lengthens, Grants, Returns}
use Rattle.share.specs.Calls.{checks_of, release_checks, standing_checks}
use Rattle.share.specs.Release.{done, released}
use Rattle.share.specs.Sound.{Sound, sound}
use Rattle.share.specs.Table.{row}
use Rattle.share.proofs.Release.{frees_released}
use Rattle.share.proofs.Sound.{sound_says}
use Rattle.share.proofs.Totals.{weighed}

-- the test at a place of the list, counted from 0
abbrev pub test_at : List Check → ℕ → Bool
test_at [] k = false
test_at ((why when applies) ∷ rest) zero = applies
test_at ((why when applies) ∷ rest) (suc k) = test_at rest k

pub head_none : (b : Bool) (this : Refusal) (rest : Option Refusal) → cond b (some this) rest ≡ none → (b ≡ false) × (rest ≡ none)
head_none true this rest e = let z : ◌≡◌ {A = ℕ} 0 1 = cc in absurd (omega arith)
head_none false this rest e = (refl, e)

-- none of the tests passed
pub fails_at : (checks : List Check) → first_refusal checks ≡ none → (k : ℕ) → test_at checks k ≡ false
fails_at [] e k = refl
fails_at ((why when applies) ∷ rest) e zero = (head_none applies why (first_refusal rest) e).0
fails_at ((why when applies) ∷ rest) e (suc k) = fails_at rest (head_none applies why (first_refusal rest) e).1 k

is_sound : (t : Table) → not (sound t) ≡ false → Sound t
is_sound t e = sound_says t (not-false _ e)

pub is_inside : (queue : ℕ) → queue_outside queue ≡ false → queue < queues
unfolding queue_outside
is_inside queue e = leb-false queues queue e

is_short : (length : ℕ) → length_outside length ≡ false → length ≤ max_length
unfolding length_outside
is_short length e = ltb-false max_length length e

module _ (t : Table) (queue : ℕ) where
  pub join_accepted : (weight length : ℕ) → first_refusal (checks_of t (Join queue weight length)) ≡ none → Joins t queue weight length
  unfolding checks_of checks_for row_taken
  join_accepted weight length e =
      let fails = fails_at (checks_of t (Join queue weight length)) e in
      record {
        was_sound = is_sound t (fails 0);
        inside = is_inside queue (fails 1);
        weight_low = within_low 1 max_weight weight (fails 2);
        weight_high = within_high 1 max_weight weight (fails 2);
        length_high = is_short length (fails 3);
        still = fails 4;
        free = not-false _ (fails 5);
      }

  pub leave_accepted : first_refusal (checks_of t (Leave queue)) ≡ none → Leaves t queue
  unfolding checks_of checks_for not_asking
  leave_accepted e =
      let fails = fails_at (checks_of t (Leave queue)) e in
      record { was_sound = is_sound t (fails 0); inside = is_inside queue (fails 1); still = fails 2; asks = not-false _ (fails 3) }

  pub reweight_accepted : (weight length : ℕ) → first_refusal (checks_of t (Reweight queue weight length)) ≡ none → Reweights t queue weight length
  unfolding checks_of checks_for not_asking lag_below
  reweight_accepted weight length e =
      let fails = fails_at (checks_of t (Reweight queue weight length)) e in
      record {
        leaves = record { was_sound = is_sound t (fails 0); inside = is_inside queue (fails 1); still = fails 4; asks = not-false _ (fails 5) };
        weight_low = within_low 1 max_weight weight (fails 2);
        weight_high = within_high 1 max_weight weight (fails 2);
        length_high = is_short length (fails 3);
        owed = reached_yes (row t queue).position t.head.total t.head.sum (not-false _ (fails 6));
      }

  pub length_accepted : (length : ℕ) → first_refusal (checks_of t (Length queue length)) ≡ none → Lengthens t queue length
  unfolding checks_of checks_for not_asking
  length_accepted length e =
      let fails = fails_at (checks_of t (Length queue length)) e in
      record {
        leaves = record { was_sound = is_sound t (fails 0); inside = is_inside queue (fails 1); still = fails 3; asks = not-false _ (fails 4) };
        length_high = is_short length (fails 2);
      }

  pub return_accepted : (used : ℕ) (early : Bool) → first_refusal (checks_of t (Return queue used early)) ≡ none → Returns t queue used
  unfolding checks_of checks_for not_holder ticks_outside
  return_accepted used early e =
      let fails = fails_at (checks_of t (Return queue used early)) e in
      let holder = not-false _ (fails 2) in
      record {
        was_sound = is_sound t (fails 0);
        inside = is_inside queue (fails 1);
        held = and_left t.head.out (eqb queue t.head.holder) holder;
        holds = eqb-true queue t.head.holder (and_right t.head.out (eqb queue t.head.holder) holder);
        within = ltb-false (may_use t.head.ticks) used (fails 3);
      }

above_none : (n : ℕ) → eqb n 0 ≡ false → 0 < n
above_none n e = let h = eqb-false n 0 e in omega arith

pub grant_accepted : (t : Table) → first_refusal (checks_of t Grant) ≡ none → Grants t
unfolding checks_of checks_for is_empty
grant_accepted t e =
    let fails = fails_at (checks_of t Grant) e in
    record { was_sound = is_sound t (fails 0); still = fails 1; present = above_none t.head.total (fails 2); fits = fails 3 }

-- a sound table has nothing to release
pub nothing_to_free : (t : Table) → first_refusal (release_checks t) ≡ none → t ≡ released t
unfolding release_checks
nothing_to_free t e = let is = is_sound t (fails_at (release_checks t) e 0) in frees_released (weighed is.orderly_table) (done is.no_one_ready)

-- where a row stands is told of one that is there, in a sound table
pub standing_accepted : (t : Table) (queue : ℕ) → first_refusal (standing_checks t queue) ≡ none → Sound t × (queue < queues) × (is_free (row t queue).state ≡ false)
unfolding standing_checks
standing_accepted t queue e =
    let fails = fails_at (standing_checks t queue) e in
    (is_sound t (fails 0), is_inside queue (fails 1), fails 2)
