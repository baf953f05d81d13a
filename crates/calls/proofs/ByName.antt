-- A length of 0 means the table's default and nothing else. Said by name the default means itself, and on a sound table it is no length above 10,000; a table
-- that isn't sound refuses both by 1.
use mathlib.Core.Bool.{Bool, true, false, not, cond}
use mathlib.Core.List.{List, [], ◌∷◌}
use mathlib.Core.Path.{◌≡◌, refl, ap, ◌∙◌}
use Prim.Native.Nat.{ℕ, zero, suc}
use native.Mathlib.Omega.{arith}
use lib.Dec.{eqb}
use borrow.Author.Tests.{le-ltb, ne_eqb}
use Rattle.rows.specs.declared.Terms.{Terms}
use Rattle.rows.specs.Numbers.{length_meant}
use Rattle.rows.specs.Orderly.{Allowed}
use Rattle.rows.specs.Requests.{entering, row_next_set}
use Rattle.rows.proofs.Orderly.{default_high}
use Rattle.head.specs.declared.Event.{Event}
use Rattle.head.specs.declared.Event.TheVariants.{Fresh, Join, Leave, Reweight, Length, Grant, Return}
use Rattle.head.specs.declared.Refusal.TheVariants.{Unsound, QueueOutside, WeightOutside, LengthOutside, SliceOut, RowTaken, NotAsking, LagBelow}
use Rattle.head.specs.Head.{entry}
use Rattle.head.specs.Refusals.{Check, ◌when◌, first_refusal, checks_for, queue_outside, weight_outside, length_outside, row_taken, not_asking, lag_below}
use Rattle.share.specs.declared.Reply.{Reply}
use Rattle.share.specs.declared.Table.{Table}
use Rattle.share.specs.Calls.{accepted, call, checks_of, step}
use Rattle.share.specs.Events.{joined, left, reweighted, length_set}
use Rattle.share.specs.Release.{released}
use Rattle.share.specs.Runs.{run, replies}
use Rattle.share.specs.Sound.{sound}
use Rattle.share.specs.Table.{row, placed}
use Rattle.share.proofs.Sound.{sound_says}
use Rattle.calls.proofs.Standing.{left_terms}
use Rattle.calls.specs.ByName.{by_name, all_by_name}

-- a length said by name means what it meant
either_way : (b : Bool) (n : ℕ) → cond b n n ≡ n
either_way true n = refl
either_way false n = refl

itself : (terms : Terms) (n : ℕ) → length_meant terms (suc n) ≡ suc n
unfolding length_meant
itself terms n = rw (ne_eqb (suc n) 0 (λ e. omega arith)) refl

pub meant_twice : (terms : Terms) (length : ℕ) → length_meant terms (length_meant terms length) ≡ length_meant terms length
unfolding length_meant
meant_twice terms zero = either_way (eqb terms.default 0) terms.default
meant_twice terms (suc n) = ap (length_meant terms) (itself terms n)

-- and is above 10,000 exactly where the length given was
same_outside : (terms : Terms) (length : ℕ) → Allowed terms → length_outside (length_meant terms length) ≡ length_outside length
unfolding length_meant length_outside
same_outside terms zero allows = le-ltb _ _ (default_high allows)
same_outside terms (suc n) allows = ap length_outside (itself terms n)

-- what comes after the refusal of a table that isn't sound is asked of a sound one only
first_same : (is : Bool) (rest : Bool → List Check) {a b : Bool} → (is ≡ true → a ≡ b) → first_refusal ((Unsound when not is) ∷ rest a) ≡ first_refusal ((Unsound when not is) ∷ rest b)
first_same true rest h = ap (λ (x : Bool). first_refusal (rest x)) (h refl)
first_same false rest h = refl

same_call : (t : Table) (xs ys : List Check) {r s : Reply} → first_refusal xs ≡ first_refusal ys → r ≡ s → call xs t r ≡ call ys t s
unfolding call
same_call t xs ys e f = rw (e, f) refl

module _ (t : Table) where
  outside_named : (length : ℕ) → sound t ≡ true → length_outside (length_meant t.head.terms length) ≡ length_outside length
  outside_named length e = same_outside t.head.terms length (sound_says t e).orderly_table.terms_allowed

  pub step_by_name : (e : Event) → step t (by_name t.head.terms e) ≡ step t e
  unfolding step checks_of checks_for joined reweighted length_set
  step_by_name (Fresh terms) = refl
  step_by_name (Join queue weight length) =
      same_call t _ _
      (first_same (sound t) (λ (b : Bool). (QueueOutside when queue_outside queue) ∷ (WeightOutside when weight_outside weight) ∷ (LengthOutside when b) ∷ (SliceOut when t.head.out) ∷ (RowTaken when row_taken (row t queue)) ∷ []) (outside_named length))
      (ap (λ (n : ℕ). accepted (released (placed t queue (entering weight (entry t.head) n)))) (meant_twice t.head.terms length))
  step_by_name (Leave queue) = refl
  step_by_name (Reweight queue weight length) =
      same_call t _ _
      (first_same (sound t) (λ (b : Bool). (QueueOutside when queue_outside queue) ∷ (WeightOutside when weight_outside weight) ∷ (LengthOutside when b) ∷ (SliceOut when t.head.out) ∷ (NotAsking when not_asking (row t queue)) ∷ (LagBelow when lag_below t.head (row t queue)) ∷ []) (outside_named length))
      (ap (λ (n : ℕ). accepted (released (placed (left t queue) queue (entering weight (entry (left t queue).head) n)))) same_meant)
    where
      same_meant : length_meant (left t queue).head.terms (length_meant t.head.terms length) ≡ length_meant (left t queue).head.terms length
      same_meant = rw (left_terms t queue) (meant_twice t.head.terms length)
  step_by_name (Length queue length) =
      same_call t _ _
      (first_same (sound t) (λ (b : Bool). (QueueOutside when queue_outside queue) ∷ (LengthOutside when b) ∷ (SliceOut when t.head.out) ∷ (NotAsking when not_asking (row t queue)) ∷ []) (outside_named length))
      (ap (λ (n : ℕ). accepted (placed t queue (row_next_set (row t queue) n))) (meant_twice t.head.terms length))
  step_by_name Grant = refl
  step_by_name (Return queue used early) = refl

-- so a run and the same with every 0 said by name give the same answers and tables
pub replies_by_name : (t : Table) (es : List Event) → replies t (all_by_name t es) ≡ replies t es
replies_by_name t [] = refl
replies_by_name t (e ∷ es) = rw (step_by_name t e) (ap (λ (rest : List Reply). step t e ∷ rest) (replies_by_name (step t e).table es))

pub run_by_name : (t : Table) (es : List Event) → run t (all_by_name t es) ≡ run t es
run_by_name t [] = refl
run_by_name t (e ∷ es) =
    ap (λ (r : Reply). run r.table (all_by_name (step t e).table es)) (step_by_name t e) ∙ run_by_name (step t e).table es
