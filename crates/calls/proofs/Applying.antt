-- A refusal is given exactly when its sentence says so, and of several the lowest number answers: each list of checks is in the order of the
-- numbers, so the first that applies is the lowest.
use mathlib.Core.Bool.{Bool, true, false, not, cond, ◌&&◌}
use mathlib.Core.List.{List, ◌∷◌, []}
use mathlib.Core.Logic.{◌⊎◌, ⊎_elim, ◌↔◌, ◌≢◌}
use mathlib.Core.Option.{Option, none, some}
use mathlib.Core.Path.{◌≡◌, refl, ap, subst⁻¹}
use Prim.Native.Nat.{ℕ, ◌*◌, ◌≤◌, ◌<◌}
use native.Mathlib.Nat.{le_antisymm}
use native.Mathlib.Omega.{arith}
use lib.Dec.{ltb, eqb}
use lib.IntN.{ℤ}
use borrow.Author.Tests.{leb-true, ltb-true, lt-ltb, le-leb, eqb-true, eq-eqb, not-true}
use Rattle.laws.specs.Lists.{every}
use Rattle.laws.proofs.Tests.{clash, refuted, every_each, and_left, and_right, and_both}
use Rattle.rows.specs.declared.Row.{Row}
use Rattle.rows.specs.Numbers.{queues, max_length}
use Rattle.rows.proofs.Virtual.{reached_no, no_reached}
use Rattle.head.specs.declared.Event.{Event}
use Rattle.head.specs.declared.Event.TheVariants.{Fresh, Join, Leave, Length, Reweight, Grant, Return}
use Rattle.head.specs.declared.Head.{Head}
use Rattle.head.specs.declared.Refusal.{Refusal}
use Rattle.head.specs.Answers.{refusal_number}
use Rattle.head.specs.Head.{is_empty}
use Rattle.head.specs.Refusals.{Check, ◌when◌, first_refusal, queue_outside, length_outside, not_holder, lag_below, checks_for}
use Rattle.share.specs.declared.Table.{Table}
use Rattle.share.specs.Calls.{release_checks, lag_checks, standing_checks}
use Rattle.share.specs.Sound.{Sound, sound}
use Rattle.share.proofs.Accepted.{head_none}
use Rattle.share.proofs.Sound.{sound_says, says_sound}

-- a refusal of the list whose test passes
pub data Applies (why : Refusal) : List Check → Type 0 where
  here : {b : Bool} {rest : List Check} → b ≡ true → Applies why ((why when b) ∷ rest)
  later : {c : Check} {rest : List Check} → Applies why rest → Applies why (c ∷ rest)

first_head : (b : Bool) (this why : Refusal) (rest : Option Refusal) → cond b (some this) rest ≡ some why → ((b ≡ true) × (this ≡ why)) ⊎ ((b ≡ false) × (rest ≡ some why))
first_head true this why rest e = ◌⊎◌.inl (refl, cc)
first_head false this why rest e = ◌⊎◌.inr (refl, e)

-- the number n comes before those of the whole list, which is in the order of its numbers
abbrev pub ordered : ℕ → List Check → Bool
ordered n [] = true
ordered n ((why when b) ∷ rest) = every (ltb n (refusal_number why) ∷ ordered (refusal_number why) rest ∷ [])

here_at : {this why : Refusal} (b : Bool) (rest : List Check) → this ≡ why → b ≡ true → Applies why ((this when b) ∷ rest)
here_at {this} {why} b rest same passed = subst⁻¹ (λ (x : Refusal). Applies why ((x when b) ∷ rest)) same (here passed)

pub first_applies : (checks : List Check) (why : Refusal) → first_refusal checks ≡ some why → Applies why checks
first_applies [] why e = let z : ◌≡◌ {A = ℕ} 0 1 = cc in absurd (omega arith)
first_applies ((this when b) ∷ rest) why e =
    ⊎_elim (λ h. here_at b rest h.1 h.0) (λ h. later (first_applies rest why h.1)) (first_head b this why (first_refusal rest) e)

pub none_applies : {why : Refusal} {checks : List Check} → Applies why checks → first_refusal checks ≡ none → ⊥
none_applies {why = why} (here {b = b} {rest = rest} p) e = clash p (head_none b why (first_refusal rest) e).0
none_applies (later {c = this when b} {rest = rest} h) e = none_applies h (head_none b this (first_refusal rest) e).1

ordered_below : {why : Refusal} {checks : List Check} (n : ℕ) → Applies why checks → ordered n checks ≡ true → n < refusal_number why
ordered_below {why = why} n (here p) e = ltb-true n (refusal_number why) (every_each _ e).0
ordered_below n (later {c = this when b} h) e =
    let facts = every_each _ e in
    omega (arith, ltb-true n (refusal_number this) facts.0, ordered_below (refusal_number this) h facts.1.0)

pub first_lowest : {other : Refusal} {checks : List Check} (n : ℕ) (why : Refusal) → Applies other checks → ordered n checks ≡ true → first_refusal checks ≡ some why → refusal_number why ≤ refusal_number other
first_lowest {other = other} n why (here {b = b} {rest = rest} p) o e =
    ⊎_elim (λ h. omega (arith, ap refusal_number h.1)) (λ h. absurd (clash p h.0)) (first_head b other why (first_refusal rest) e)
first_lowest n why (later {c = this when b} {rest = rest} h) o e =
    let facts = every_each _ o in
    ⊎_elim (λ f. omega (arith, ap refusal_number f.1, ordered_below (refusal_number this) h facts.1.0))
    (λ f. first_lowest (refusal_number this) why h facts.1.0 f.1)
    (first_head b this why (first_refusal rest) e)

-- and back: a refusal that applies, with none of a lower number that does, is the one given
pub lowest_first : (checks : List Check) (n : ℕ) (why : Refusal) → ordered n checks ≡ true → Applies why checks → ((other : Refusal) → Applies other checks → refusal_number why ≤ refusal_number other) → (given : Refusal) → first_refusal checks ≡ some given → refusal_number given ≡ refusal_number why
lowest_first checks n why o applies lowest given e =
    le_antisymm (first_lowest n given applies o e) (lowest given (first_applies checks given e))

some_first : (o : Option Refusal) → (o ≡ none → ⊥) → (given : Refusal) × (o ≡ some given)
some_first none h = absurd (h refl)
some_first (some given) h = (given, refl)

-- one that applies is not passed over
pub applies_given : (checks : List Check) (why : Refusal) → Applies why checks → (given : Refusal) × (first_refusal checks ≡ some given)
applies_given checks why applies = some_first (first_refusal checks) (none_applies applies)

-- each event's list is in the order of its numbers, whatever the table and the numbers are, and so are those of the other calls
pub event_ordered : (b : Bool) (h : Head) (r : Row) (e : Event) → ordered 0 (checks_for b h r e) ≡ true
unfolding every checks_for
event_ordered b h r (Fresh terms) = refl
event_ordered b h r (Join queue weight length) = refl
event_ordered b h r (Leave queue) = refl
event_ordered b h r (Reweight queue weight length) = refl
event_ordered b h r (Length queue length) = refl
event_ordered b h r Grant = refl
event_ordered b h r (Return queue used early) = refl

pub release_ordered : (t : Table) → ordered 0 (release_checks t) ≡ true
unfolding every release_checks
release_ordered t = refl

pub lag_ordered : (t : Table) (given : List ℤ) → ordered 0 (lag_checks t given) ≡ true
unfolding every lag_checks
lag_ordered t given = refl

pub standing_ordered : (t : Table) (queue : ℕ) → ordered 0 (standing_checks t queue) ≡ true
unfolding every standing_checks
standing_ordered t queue = refl

-- the tests, each with its sentence; both ways, so that each is given exactly when it says (rows' proofs/Orderly has
-- `outside_says`)
pub queue_outside_lem : (queue : ℕ) → (queue_outside queue ≡ true) ↔ (63 < queue)
unfolding queue_outside
queue_outside_lem queue = (leb-true queues queue, le-leb queues queue)

pub length_outside_lem : (length : ℕ) → (length_outside length ≡ true) ↔ (10000 < length)
unfolding length_outside
length_outside_lem length = (ltb-true max_length length, lt-ltb max_length length)

-- 1 "the table isn't sound"
pub unsound_says : (t : Table) → (not (sound t) ≡ true) ↔ (Sound t → ⊥)
unsound_says t = (λ e is. clash (says_sound t is) (not-true _ e), λ h. ap not (refuted (sound t) (λ e. h (sound_says t e))))

module _ (h : Head) where
  -- 6 "return: no slice out, or another holds it"
  pub not_holder_says : (queue : ℕ) → (not_holder h queue ≡ true) ↔ ((h.out ≡ false) ⊎ (queue ≢ h.holder))
  unfolding not_holder
  not_holder_says queue = (says h.out refl, told)
    where
      says : (b : Bool) → h.out ≡ b → not (h.out && eqb queue h.holder) ≡ true → (h.out ≡ false) ⊎ (queue ≢ h.holder)
      says true e n = ◌⊎◌.inr (λ same. clash (and_both e (eq-eqb queue h.holder same)) (not-true _ n))
      says false e n = ◌⊎◌.inl e

      told : (h.out ≡ false) ⊎ (queue ≢ h.holder) → not (h.out && eqb queue h.holder) ≡ true
      told n =
          ap not
          (refuted (h.out && eqb queue h.holder)
          (λ e. ⊎_elim (λ still. clash (and_left h.out _ e) still) (λ apart. apart (eqb-true queue h.holder (and_right h.out _ e))) n))

  -- 9 "reweight: lag below 0": V has not reached the row
  pub lag_below_says : (r : Row) → (lag_below h r ≡ true) ↔ (h.sum < r.position * h.total)
  unfolding lag_below
  lag_below_says r =
      (λ e. reached_no r.position h.total h.sum (not-true _ e), λ l. ap not (no_reached r.position h.total h.sum l))

  -- 11 "grant: table empty"
  pub empty_says : (is_empty h ≡ true) ↔ (h.total ≡ 0)
  unfolding is_empty
  empty_says = (eqb-true h.total 0, eq-eqb h.total 0)
