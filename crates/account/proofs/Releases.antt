-- Table and account release in lockstep. The sign of an account is the table's test whether V has reached the position, so both find the same
-- rows due; freeing one moves V by its lag over the weight that is left, in both. The table's release has one end, so the account's has, too.
use mathlib.Core.Bool.{true, false}
use mathlib.Core.List.{List}
use mathlib.Core.Logic.{⊎_elim}
use mathlib.Core.Path.{◌≡◌, refl, ap, sym, subst, ◌∙◌}
use Prim.Native.Nat.{ℕ, ◌+◌, ◌*◌, ◌≤◌, ◌<◌}
use native.Mathlib.Nat.{mul-le-mul_left, le_of_mul-le-mul_left}
use native.Mathlib.Omega.{arith}
use lib.ListN.{length}
use borrow.Author.Tests.{ne_eqb}
use Rattle.laws.proofs.Tests.{clash, le_or_lt, and_left, and_right, and_both}
use Rattle.rows.specs.declared.Row.{Row}
use Rattle.rows.specs.Numbers.{queues, unit}
use Rattle.rows.specs.Row.{blank, is_free, is_going, weight_in as weight_of_row}
use Rattle.rows.proofs.Shares.{going_not_free}
use Rattle.share.specs.declared.Table.{Table}
use Rattle.share.specs.Release.{freed, Frees, done, one, Weighed, released}
use Rattle.share.specs.Sound.{Ready}
use Rattle.share.specs.Table.{row, AtMostV, TrueSums}
use Rattle.share.proofs.Placed.{weight_within, no_sum}
use Rattle.share.proofs.Release.{freed_rests, frees_released}
use Rattle.share.proofs.Sound.{row_past}
use Rattle.calls.proofs.OneDeparture.{weight_here}
use Rattle.fractions.specs.Fraction.{Fraction, nothing, ◌⊕◌, portion}
use Rattle.fractions.proofs.Values.{Value, value_nothing, value_sum, value_any_portion, value_change, value_at_most, at_most_value}
use Rattle.account.specs.Account.{Entry, absent, Account, entry, owed_to, all_gain, passed_on, rest, weight_left, settled}
use Rattle.account.specs.Books.{due, Clears}
use Rattle.account.proofs.Match.{Match, same_weight, placed_total, placed_sum, set_both, match_set, match_gain, blank_alike, placed_terms}
use Rattle.account.proofs.Tied.{Held, Live, Tied, Moves, moved_clock, moved, blank_held}
use Rattle.account.specs.Account as Acc

-- the sign of an account
module _ {A W : ℕ} {r : Row} {e : Entry} (held : Held A W r e) (weighs : 1 ≤ weight_of_row r) where
  pub settled_yes : r.position * W ≤ A → settled e ≡ true
  unfolding settled
  settled_yes h = value_at_most (value_nothing 0 1 (omega arith)) held.lags (omega (arith, mul-le-mul_left (weight_of_row r) h))

  pub yes_settled : settled e ≡ true → r.position * W ≤ A
  unfolding settled
  yes_settled h =
      le_of_mul-le-mul_left {k = weight_of_row r} (omega (arith, at_most_value (value_nothing 0 1 (omega arith)) held.lags h)) weighs

-- a row that is not free is one of the table's
pub present_inside : (t : Table) (i : ℕ) → is_free (row t i).state ≡ false → i < length t.rows
present_inside t i e =
    ⊎_elim (λ past. absurd (clash (ap (λ (x : Row). is_free x.state) (row_past t i past)) e)) (λ l. l) (le_or_lt (length t.rows) i)

-- what a table tied to an account weighs: true sums, and no going row without weight
match_weighed : {t : Table} {es : List Entry} → Match t es → Weighed t
match_weighed {t} m =
    record {
      sums = m.sums;
      weighs = λ i goes. let here = going_not_free (row t i).state goes in omega (arith, (m.alike i).weighs here, weight_here (row t i) here);
    }

-- the numbers of a departure: w at p is taken out of A and W, and V, which had reached p, does not fall
move_numbers : (A W A' W' U w p : ℕ) → A' + w * p ≡ A → W' + w ≡ W → w * A * (W * W' * U) + W * U * W' * (A * W') ≡ W * U * W' * (A' * W) + w * (W * p) * (W * W' * U)
move_numbers A W A' W' U w p a b = left ∙ ap (λ (k : ℕ). k * (W * W' * U)) core ∙ right
  where
    core : w * A + A * W' ≡ A' * W + w * (W * p)
    core = rw (← a, ← b) (omega arith)

    left : w * A * (W * W' * U) + W * U * W' * (A * W') ≡ (w * A + A * W') * (W * W' * U)
    left = omega arith

    right : (A' * W + w * (W * p)) * (W * W' * U) ≡ W * U * W' * (A' * W) + w * (W * p) * (W * W' * U)
    right = omega arith

rise_numbers : (A W A' W' w p : ℕ) → A' + w * p ≡ A → W' + w ≡ W → p * W ≤ A → A * W' ≤ A' * W
rise_numbers A W A' W' w p a b h =
    rw (← a, ← b) (omega (arith, mul-le-mul_left w (fits (rw (← a, ← b) at h))))
  where
    fits : p * (W' + w) ≤ A' + w * p → p * W' ≤ A'
    fits k = omega arith

pub passed_all : (f : Fraction) (n : ℕ) → 0 < n → passed_on f n ≡ f
unfolding passed_on
passed_all f n h = simp (ne_eqb n 0 (λ e. omega arith))

pub passed_none : (f : Fraction) → passed_on f 0 ≡ nothing
unfolding passed_on
passed_none f = refl

rest_numbers : (A W w p : ℕ) → W ≡ w → A ≡ w * p → (A * (1 * 1) + 0 * unit * W) * 1 + 0 * (W * (1 * 1)) ≡ p * (W * (1 * 1)) + (0 * (1 * 1) + 0 * unit * W) * 1
rest_numbers A W w p e f = rw (e, f) (omega arith)

-- a table with a row present weighs something
pub present_weighs : (t : Table) (a : Account) → Tied t a → (i : ℕ) → is_free (row t i).state ≡ false → 0 < t.head.total
present_weighs t a tied i here =
    omega (arith, weight_within t i tied.matched.sums (present_inside t i here), (tied.matched.alike i).weighs here)

-- the table that a departure leaves
module _ (t : Table) (i : ℕ) (sums : TrueSums t) (inside : i < length t.rows) where
  pub W_left : (freed t i).head.total + weight_of_row (row t i) ≡ t.head.total
  unfolding freed weight_of_row
  W_left = omega (arith, placed_total t i blank sums inside)

  A_left : (freed t i).head.sum + weight_of_row (row t i) * (row t i).position ≡ t.head.sum
  unfolding freed weight_of_row
  A_left = omega (arith, placed_sum t i blank sums inside)

  pub freed_rises : AtMostV t (row t i).position → t.head.sum * (freed t i).head.total ≤ (freed t i).head.sum * t.head.total
  freed_rises level =
      rise_numbers t.head.sum t.head.total (freed t i).head.sum (freed t i).head.total (weight_of_row (row t i)) (row t i).position A_left W_left level

freed_terms : (t : Table) (i : ℕ) → (freed t i).head.terms ≡ t.head.terms
unfolding freed
freed_terms t i = placed_terms t i blank

module _ (t : Table) (a : Account) (i : ℕ) (tied : Tied t a) (here : is_free (row t i).state ≡ false) (level : AtMostV t (row t i).position) where
  inside : i < length t.rows
  inside = present_inside t i here

  numbered : i < queues
  numbered = omega (arith, inside, tied.matched.rows_each)

  rest_match : Match (freed t i) (rest a i)
  unfolding freed rest
  rest_match = match_set t a.entries i blank absent numbered blank_alike tied.matched

  moves : 0 < (freed t i).head.total → Moves t.head.sum t.head.total (freed t i).head.sum (freed t i).head.total (owed_to (entry a i)) (freed t i).head.total
  unfolding entry
  moves h =
      let sums = tied.matched.sums in
      let before : 0 < t.head.total = omega (arith, W_left t i sums inside) in
      record {
        plus = weight_of_row (row t i) * t.head.sum;
        less = weight_of_row (row t i) * (t.head.total * (row t i).position);
        base = t.head.total * unit;
        amount = ((tied.live before).held i).lags;
        shared = h;
        before = before;
        after = h;
        move =
            move_numbers t.head.sum t.head.total (freed t i).head.sum (freed t i).head.total unit (weight_of_row (row t i)) (row t i).position
            (A_left t i sums inside) (W_left t i sums inside);
        rises = freed_rises t i sums inside level;
      }

  shared_out : 0 < (freed t i).head.total → Live (freed t i) (record { entries = all_gain (owed_to (entry a i)) (freed t i).head.total (rest a i); virtual = a.virtual ⊕ portion (owed_to (entry a i)) unit (freed t i).head.total; terms = a.terms })
  unfolding freed rest
  shared_out h =
      let m = moves h in
      let live = tied.live m.before in
      record {
        clock = moved_clock m live.clock;
        held =
            moved m rest_match
            (set_both (Held t.head.sum t.head.total) t a.entries i blank absent inside (omega (arith, numbered, tied.matched.entries_each))
            (blank_held t.head.sum t.head.total m.before) live.held);
      }

  -- the last one freed stands at V, which rests there
  comes_to_rest : (freed t i).head.total ≡ 0 → Value (a.virtual ⊕ portion nothing unit 0) (freed t i).head.resting 0 1
  comes_to_rest none =
      let sums = tied.matched.sums in
      let before : 0 < t.head.total = present_weighs t a tied i here in
      rw (freed_rests t i none)
      (value_change (omega arith)
      (rest_numbers t.head.sum t.head.total (weight_of_row (row t i)) (row t i).position (omega (arith, W_left t i sums inside))
      (omega (arith, A_left t i sums inside, no_sum (freed t i) rest_match.sums none)))
      (value_sum (tied.live before).clock (value_any_portion unit 0 (value_nothing 0 1 (omega arith)))))

  left_is : weight_left a i ≡ (freed t i).head.total
  unfolding weight_left
  left_is = same_weight rest_match

  pub freed_tied : Tied (freed t i) (Acc.freed a i)
  unfolding Acc.freed
  freed_tied =
      record {
        same_terms = tied.same_terms ∙ sym (freed_terms t i);
        matched = match_gain _ _ rest_match;
        live = λ h. rw (left_is, passed_all (owed_to (entry a i)) (freed t i).head.total h) (shared_out h);
        rests = λ none. rw (left_is, none, passed_none (owed_to (entry a i))) (comes_to_rest none);
      }

-- a row is due in the account exactly if it is ready in the table
module _ (t : Table) (a : Account) (tied : Tied t a) (i : ℕ) where
  pub live_at : is_free (row t i).state ≡ false → Live t a
  live_at here = tied.live (present_weighs t a tied i here)

  due_ready : due (entry a i) ≡ true → Ready t i
  unfolding due entry
  due_ready e =
      let goes : is_going (row t i).state ≡ true = (tied.matched.alike i).going ∙ and_left _ _ e in
      let here = going_not_free (row t i).state goes in
      record { going = goes; level = yes_settled ((live_at here).held i) ((tied.matched.alike i).weighs here) (and_right (Acc.is_going (entry a i)) _ e) }

  ready_due : Ready t i → due (entry a i) ≡ true
  unfolding due entry
  ready_due r =
      let here = going_not_free (row t i).state r.going in
      and_both (sym (tied.matched.alike i).going ∙ r.going) (settled_yes ((live_at here).held i) ((tied.matched.alike i).weighs here) r.level)

lockstep : {a b : Account} → Clears a b → (t : Table) → Tied t a → (u : Table) × Frees t u × Tied u b
lockstep {a} (Clears.done calm) t tied = (t, done (λ i r. clash (ready_due t a tied i r) (calm i)), tied)
lockstep {a} (Clears.one i d further) t tied =
    let r = due_ready t a tied i d in
    let more = lockstep further (freed t i) (freed_tied t a i tied (going_not_free (row t i).state r.going) r.level) in
    (more.0, one i r more.1, more.2)

-- whatever the account's order, its release ends tied to the table's
pub released_tied : {a b : Account} (t : Table) → Tied t a → Clears a b → Tied (released t) b
released_tied {a} {b} t tied way =
    let end = lockstep way t tied in
    subst (λ (u : Table). Tied u b) (frees_released (match_weighed tied.matched) end.1) end.2
