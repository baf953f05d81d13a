-- Where a row stands, as the panel is told: behind with a lag above 0, level with one of 0, ahead with one below 0, and then by the least number of units that
-- V has yet to rise.
use mathlib.Core.Bool.{true, false}
use mathlib.Core.Logic.{⊎_elim, ◌↔◌}
use mathlib.Core.Option.{Option, none, some}
use mathlib.Core.Path.{◌≡◌, refl, ap, sym, subst, ◌∙◌}
use Prim.Native.Nat.{ℕ, suc, ◌-◌, ◌*◌, ◌≤◌, ◌<◌}
use native.Mathlib.Nat.{mul-le-mul_left}
use native.Mathlib.Omega.{arith}
use lib.IntN.{pos}
use borrow.Author.Tests.{le-ltb}
use Rattle.std.specs.Prelude.{Ok}
use Rattle.laws.specs.Difference.{◌⊖◌}
use Rattle.laws.proofs.Difference.{same_none}
use Rattle.laws.proofs.Tests.{le_or_lt}
use Rattle.rows.specs.declared.Standing.{Standing}
use Rattle.rows.specs.Row.{is_free}
use Rattle.rows.specs.Virtual.{standing_at, not_ahead, reached}
use Rattle.rows.proofs.Shares.{orderly_weighs}
use Rattle.rows.proofs.Virtual.{is_behind, is_level, is_ahead, ahead_short, reached_yes, yes_reached}
use Rattle.head.specs.declared.Answer.TheVariants.{Stands}
use Rattle.head.specs.declared.Head.{Head}
use Rattle.head.specs.declared.Refusal.{Refusal}
use Rattle.head.specs.Answers.{standing_told}
use Rattle.head.specs.Head.{AtMostV, standing_by}
use Rattle.head.specs.Lag.{lag_of}
use Rattle.head.specs.Refusals.{first_refusal}
use Rattle.share.specs.declared.Reply.{Reply}
use Rattle.share.specs.declared.Table.{Table}
use Rattle.share.specs.Calls.{standing_checks, stands_reply, standing_reply}
use Rattle.share.specs.Sound.{Orderly}
use Rattle.share.specs.Table.{row}
use Rattle.share.proofs.Accepted.{standing_accepted}
use Rattle.share.proofs.Stepping.{call_accepted, call_refused}
use Rattle.calls.specs.Meaning.{StandsAs}
use Rattle.calls.proofs.Standing.{lag_here, lag_sign}

-- a difference whose first is the greater
above : (a b : ℕ) → b < a → (n : ℕ) × (a ⊖ b ≡ pos (suc n))
unfolding ◌⊖◌
above a b l = (a - b - 1, rw (le-ltb a b (omega arith)) (ap pos (omega arith)))

heavier : (w p W A : ℕ) → 1 ≤ w → p * W < A → w * (W * p) < w * A
heavier w p W A heavy l = omega (arith, mul-le-mul_left w l, heavy)

level_numbers : (w p W A : ℕ) → p * W ≡ A → w * (W * p) ≡ w * A
level_numbers w p W A e = ap (λ (x : ℕ). w * x) (omega (arith, e))

module _ (t : Table) (o : Orderly t) (i : ℕ) (here : is_free (row t i).state ≡ false) where
  p : ℕ
  p = (row t i).position

  W : ℕ
  W = t.head.total

  A : ℕ
  A = t.head.sum

  w : ℕ
  w = (row t i).weight

  lag_is : lag_of t.head (row t i) ≡ w * A ⊖ w * (W * p)
  unfolding p W A w
  lag_is = lag_here t.head (row t i) here

  behind : p * W < A → StandsAs t i (standing_at p W A)
  unfolding p W A w
  behind l =
      let lag = above (w * A) (w * (W * p)) (heavier w p W A (orderly_weighs (row t i).state w p (o.each i) here) l) in
      subst (StandsAs t i) (sym (is_behind p W A l)) (lag.0, lag_is ∙ lag.1)

  level : p * W ≡ A → StandsAs t i (standing_at p W A)
  unfolding p W A w
  level e =
      subst (StandsAs t i) (sym (is_level p W A e))
      (lag_is ∙ ap (λ (x : ℕ). w * A ⊖ x) (level_numbers w p W A e) ∙ same_none (w * A))

  ahead : A < p * W → StandsAs t i (standing_at p W A)
  unfolding p W A w
  ahead l =
      let short = ahead_short p W A l in
      subst (StandsAs t i) (sym (is_ahead p W A l))
      (record {
        lag_below = λ n is. omega (arith, (lag_sign t o i here).1 (n, is));
        at_least_1 = short.some;
        reaches_it = short.enough;
        no_less_does = λ reached. omega (arith, short.no_less);
      })

  stands_as : StandsAs t i (standing_at p W A)
  stands_as = ⊎_elim (λ not_behind. ⊎_elim (λ reached_it. level (omega arith)) ahead (le_or_lt (p * W) A)) behind (le_or_lt A (p * W))

-- the test whether V has reached a position is that it is not ahead
pub reached_not_ahead : (h : Head) (position : ℕ) → (not_ahead (standing_by h position) ≡ true) ↔ AtMostV h position
unfolding reached
reached_not_ahead h position = (reached_yes position h.total h.sum, yes_reached position h.total h.sum)

-- what the panel is told, it is told rightly
pub standing_means : (t : Table) (queue : ℕ) (s : Standing) → (standing_reply t queue).answer ≡ Ok (Stands s) → StandsAs t queue s
unfolding standing_reply p W A
standing_means t queue s is = by (first_refusal (standing_checks t queue)) refl
  where
    by : (first : Option Refusal) → first_refusal (standing_checks t queue) ≡ first → StandsAs t queue s
    by none fine =
        let done = call_accepted (standing_checks t queue) t (stands_reply t (row t queue).position) fine in
        let told : some (standing_at (row t queue).position t.head.total t.head.sum) ≡ some s =
        ap (λ (r : Reply). standing_told r.answer) (sym done) ∙ ap standing_told is in
        let same : standing_at (row t queue).position t.head.total t.head.sum ≡ s = cc in
        let accepted = standing_accepted t queue fine in
        subst (StandsAs t queue) same (stands_as t accepted.0.orderly_table queue accepted.2)
    by (some why) refused =
        let told : none ≡ some s =
        ap (λ (r : Reply). standing_told r.answer) (sym (call_refused (standing_checks t queue) t (stands_reply t (row t queue).position) why refused))
        ∙ ap standing_told is in
        let absurdly : ◌≡◌ {A = ℕ} 0 1 = cc in
        absurd (omega arith)
