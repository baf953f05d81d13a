-- An entry. The newcomer's opening account is its lag at the old V: put it in first, then let every row gain the move of V. The account's ceiling
-- of V is the table's entry, since both are the least whole number not below V.
use mathlib.Core.Bool.{true, cond}
use mathlib.Core.List.{List}
use mathlib.Core.Logic.{⊎_elim}
use mathlib.Core.Path.{◌≡◌, refl, ap, ◌∙◌}
use Prim.Native.Nat.{ℕ, zero, suc, ◌+◌, ◌-◌, ◌*◌, ◌≤◌, ◌<◌}
use native.Mathlib.Nat.{mul-pos, mul-le-mul_left, mul-le-mul_right, le_antisymm}
use native.Mathlib.Omega.{arith}
use lib.Dec.{eqb}
use lib.ListN.{length, get_or, set}
use borrow.Author.Tests.{ne_eqb, eq-eqb}
use Rattle.laws.proofs.Tests.{le_or_lt}
use Rattle.rows.specs.declared.Row.{Row}
use Rattle.rows.specs.Numbers.{queues, unit, max_weight}
use Rattle.rows.specs.Requests.{opened, entering}
use Rattle.rows.specs.Row.{is_free, weight_in as weight_of_row}
use Rattle.rows.proofs.Shares.{free_weighs_nothing}
use Rattle.head.specs.Head.{summed}
use Rattle.head.proofs.Entry.{entry_empty_lem, entry_not_below, entry_least}
use Rattle.share.specs.declared.Table.{Table}
use Rattle.share.specs.Table.{row, placed}
use Rattle.share.proofs.Placed.{no_weight, no_sum}
use Rattle.fractions.specs.Fraction.{Fraction, whole, nothing, ◌⊕◌, minus, portion, ceiling_of}
use Rattle.fractions.proofs.Values.{Value, value_whole, value_nothing, value_minus, value_sum, value_portion, value_change, ceiling_not_below, ceiling_least}
use Rattle.account.specs.Account.{Entry, absent, present, Account, weight_in, all_gain, newcomer, entered_beside, entered_alone, entered}
use Rattle.account.proofs.Match.{Alike, Match, same_weight, placed_total, placed_sum, set_both, match_set, match_gain}
use Rattle.account.proofs.Tied.{Held, Live, Tied, Moves, moved, none_owed}
use Rattle.head.specs.Head as Share
use Rattle.account.specs.Account as Acc

-- the account's ceiling is the table's entry
pub same_entry : (t : Table) (a : Account) → 0 < t.head.total → Live t a → ceiling_of a.virtual ≡ Share.entry t.head
same_entry t a h live =
    le_antisymm (ceiling_least live.clock (Share.entry t.head) (entry_not_below t.head h))
    (entry_least t.head h (ceiling_of a.virtual) (ceiling_not_below live.clock))

newcomer_alike : (w c l : ℕ) (f : Fraction) → 1 ≤ w → Alike (entering w c l) (newcomer w l f)
unfolding entering opened newcomer weight_of_row
newcomer_alike w c l f h =
    record {
      free = refl;
      going = refl;
      weight = refl;
      weighs = λ e. h;
      request = record { same_length = refl; same_served = refl; same_next = refl; no_longer = omega arith };
    }

-- numbers alone, of a newcomer of weight w at c in W: the move of V, V's rise, and how far the newcomer is ahead
core_numbers : (A W A' W' w c : ℕ) → A' ≡ A + w * c → W' ≡ W + w → c * W * w + A * W' ≡ A' * W + A * w
core_numbers A W A' W' w c a b = rw (a, b) (omega arith)

move_numbers : (A W A' W' U w c : ℕ) → A' ≡ A + w * c → W' ≡ W + w → c * W * w * (W * W' * U) + W * U * W' * (A * W') ≡ W * U * W' * (A' * W) + A * w * (W * W' * U)
move_numbers A W A' W' U w c a b = left ∙ ap (λ (k : ℕ). k * (W * W' * U)) (core_numbers A W A' W' w c a b) ∙ right
  where
    left : c * W * w * (W * W' * U) + W * U * W' * (A * W') ≡ (c * W * w + A * W') * (W * W' * U)
    left = omega arith

    right : (A' * W + A * w) * (W * W' * U) ≡ W * U * W' * (A' * W) + A * w * (W * W' * U)
    right = omega arith

clock_numbers : (A W A' W' w c : ℕ) → A' ≡ A + w * c → W' ≡ W + w → (A * (W * W') + c * W * w * W) * W' + 0 * (W * (W * W')) ≡ A' * (W * (W * W')) + (0 * (W * W') + A * w * W) * W'
clock_numbers A W A' W' w c a b = left ∙ ap (λ (k : ℕ). k * (W * W')) (core_numbers A W A' W' w c a b) ∙ right
  where
    left : (A * (W * W') + c * W * w * W) * W' + 0 * (W * (W * W')) ≡ (c * W * w + A * W') * (W * W')
    left = omega arith

    right : (A' * W + A * w) * (W * W') ≡ A' * (W * (W * W')) + (0 * (W * W') + A * w * W) * W'
    right = omega arith

rise_numbers : (A W A' W' w c : ℕ) → A' ≡ A + w * c → W' ≡ W + w → A ≤ c * W → A * W' ≤ A' * W
rise_numbers A W A' W' w c a b h = rw (a, b) (omega (arith, mul-le-mul_left w h))

ahead_numbers : (A W w c l : ℕ) → c * W < A + W → 1 ≤ w → w ≤ max_weight → 1 ≤ l → 0 < W → w * (W * c) < w * A + l * (W * unit)
ahead_numbers A W w c l near light heavy some others =
    let x : w * (c * W + 1) ≤ w * (A + W) = mul-le-mul_left w (omega arith) in
    let y : W * w ≤ W * max_weight = mul-le-mul_left W heavy in
    let z : 1 * (W * unit) ≤ l * (W * unit) = mul-le-mul_right (W * unit) some in
    omega (arith, x, y, z)

-- the entry is less than one above V
entry_near : (t : Table) → 0 < t.head.total → Share.entry t.head * t.head.total < t.head.sum + t.head.total
entry_near t h = ⊎_elim lower higher (le_or_lt t.head.sum ((Share.entry t.head - 1) * t.head.total))
  where
    lower : t.head.sum ≤ (Share.entry t.head - 1) * t.head.total → Share.entry t.head * t.head.total < t.head.sum + t.head.total
    lower e = let z : Share.entry t.head ≡ 0 = omega (arith, entry_least t.head h (Share.entry t.head - 1) e) in rw z (omega arith)

    higher : (Share.entry t.head - 1) * t.head.total < t.head.sum → Share.entry t.head * t.head.total < t.head.sum + t.head.total
    higher e = by (Share.entry t.head) e
      where
        by : (c : ℕ) → (c - 1) * t.head.total < t.head.sum → c * t.head.total < t.head.sum + t.head.total
        by zero k = omega arith
        by (suc c) k = let same : suc c - 1 ≡ c = omega arith in omega (arith, rw same at k)

-- with W at 0 no one is present and A is 0
nobody : (A W : ℕ) (r : Row) (e : Entry) → 0 < W → Alike r e → weight_of_row r ≡ 0 → Held A W r e
nobody A W r absent h like none = record { lags = none_owed (weight_of_row r) A (W * r.position) (W * unit) none (mul-pos h (omega arith)); bounded = tt }
nobody A W r (present q) h like none = absurd (omega (arith, like.weighs like.free))

-- what an entry does to a table that is tied
module _ (t : Table) (a : Account) (i w l : ℕ) (tied : Tied t a) (numbered : i < queues) (vacant : is_free (row t i).state ≡ true) (light : 1 ≤ w) (heavy : w ≤ max_weight) (some : 1 ≤ l) where
  inside : i < length t.rows
  inside = omega (arith, tied.matched.rows_each)

  within : i < length a.entries
  within = omega (arith, tied.matched.entries_each)

  c : ℕ
  c = Share.entry t.head

  r : Row
  r = entering w c l

  u : Table
  u = placed t i r

  row_weight : weight_of_row r ≡ w
  unfolding r entering weight_of_row
  row_weight = refl

  terms_kept : a.terms ≡ u.head.terms
  unfolding u placed summed
  terms_kept = tied.same_terms

  W_new : u.head.total ≡ t.head.total + w
  unfolding u
  W_new = omega (arith, placed_total t i r tied.matched.sums inside, row_weight, free_weighs_nothing (row t i) vacant)

  A_new : u.head.sum ≡ t.head.sum + w * c
  unfolding u r entering
  A_new =
      let e = placed_sum t i r tied.matched.sums inside in
      let f = rw (row_weight, free_weighs_nothing (row t i) vacant) at e in
      omega (arith, f)

  -- beside others
  module _ (others : 0 < t.head.total) where
    live : Live t a
    live = tied.live others

    above : Fraction
    above = whole (ceiling_of a.virtual) ⊕ minus a.virtual

    above_value : Value above (c * t.head.total) t.head.sum t.head.total
    unfolding above c
    above_value =
        rw (same_entry t a others live)
        (value_change others (omega arith) (value_sum (value_whole (Share.entry t.head)) (value_minus live.clock)))

    gap : Fraction
    gap = portion above w unit

    gap_value : Value gap (c * t.head.total * w) (t.head.sum * w) (t.head.total * unit)
    unfolding gap
    gap_value = value_portion w unit (omega arith) above_value

    with_newcomer : List Entry
    with_newcomer = set a.entries i (newcomer w l (minus gap))

    entered_match : Match u with_newcomer
    unfolding u r with_newcomer
    entered_match =
        match_set t a.entries i r (newcomer w l (minus gap)) numbered (newcomer_alike w c l (minus gap) light) tied.matched

    same_total : weight_in with_newcomer ≡ u.head.total
    same_total = same_weight entered_match

    reaches_V : t.head.sum ≤ c * t.head.total
    unfolding c
    reaches_V = entry_not_below t.head others

    moves : Moves t.head.sum t.head.total u.head.sum u.head.total gap u.head.total
    moves =
        let after : 0 < u.head.total = omega (arith, W_new) in
        record {
          plus = c * t.head.total * w;
          less = t.head.sum * w;
          base = t.head.total * unit;
          amount = gap_value;
          shared = after;
          before = others;
          after = after;
          move = move_numbers t.head.sum t.head.total u.head.sum u.head.total unit w c A_new W_new;
          rises = rise_numbers t.head.sum t.head.total u.head.sum u.head.total w c A_new W_new reaches_V;
        }

    newcomer_held : Held t.head.sum t.head.total r (newcomer w l (minus gap))
    unfolding r entering newcomer weight_of_row c
    newcomer_held =
        record {
          lags = value_change (mul-pos others (omega arith)) (omega arith) (value_minus gap_value);
          bounded = ahead_numbers t.head.sum t.head.total w (Share.entry t.head) l (entry_near t others) light heavy some others;
        }

    beside_live : Live u (record { entries = all_gain gap u.head.total with_newcomer; virtual = a.virtual ⊕ portion above w u.head.total; terms = a.terms })
    unfolding u with_newcomer
    beside_live =
        record {
          clock =
              value_change moves.after (clock_numbers t.head.sum t.head.total u.head.sum u.head.total w c A_new W_new)
              (value_sum live.clock (value_portion w u.head.total moves.after above_value));
          held =
              moved moves entered_match
              (set_both (Held t.head.sum t.head.total) t a.entries i r (newcomer w l (minus gap)) inside within newcomer_held live.held);
        }

    beside_tied : Tied u (entered_beside a i w l)
    unfolding entered_beside above gap with_newcomer
    beside_tied = rw same_total (record { same_terms = terms_kept; matched = match_gain gap u.head.total entered_match; live = λ h. beside_live; rests = λ k. absurd (omega (arith, W_new)) })

  -- alone
  module _ (none : t.head.total ≡ 0) where
    c_rests : c ≡ t.head.resting
    unfolding c
    c_rests = entry_empty_lem t.head none

    A_alone : u.head.sum ≡ w * c
    A_alone = omega (arith, A_new, no_sum t tied.matched.sums none)

    W_alone : u.head.total ≡ w
    W_alone = omega (arith, W_new)

    first_held : Held u.head.sum u.head.total r (newcomer w l nothing)
    unfolding r entering newcomer weight_of_row
    first_held =
        rw (A_alone, W_alone)
        (record { lags = value_nothing (w * (w * c)) (w * unit) (mul-pos light (omega arith)); bounded = omega (arith, mul-pos some light) })

    first_clock : Value a.virtual u.head.sum 0 u.head.total
    first_clock = rw (A_alone, W_alone, c_rests) (value_change light (omega arith) (tied.rests none))

    alone_tied : Tied u (entered_alone a i w l)
    unfolding entered_alone u r
    alone_tied =
        record {
          same_terms = terms_kept;
          matched = match_set t a.entries i r (newcomer w l nothing) numbered (newcomer_alike w c l nothing light) tied.matched;
          live =
              λ h.
              record {
                clock = first_clock;
                held =
                    set_both (Held u.head.sum u.head.total) t a.entries i r (newcomer w l nothing) inside within first_held
                    (λ j. nobody u.head.sum u.head.total (row t j) (get_or a.entries j absent) h (tied.matched.alike j)
                    (no_weight t tied.matched.sums none j));
              };
          rests = λ k. absurd (omega (arith, W_alone));
        }

  pub entered_tied : Tied (placed t i (entering w (Share.entry t.head) l)) (entered a i w l)
  unfolding entered Acc.is_empty u r c
  entered_tied = ⊎_elim beside alone (le_or_lt 1 t.head.total)
    where
      beside : 1 ≤ t.head.total → Tied u (cond (eqb (weight_in a.entries) 0) (entered_alone a i w l) (entered_beside a i w l))
      beside h = rw (same_weight tied.matched, ne_eqb t.head.total 0 (λ e. omega arith)) (beside_tied h)

      alone : t.head.total < 1 → Tied u (cond (eqb (weight_in a.entries) 0) (entered_alone a i w l) (entered_beside a i w l))
      alone h =
          let none : t.head.total ≡ 0 = omega arith in
          rw (same_weight tied.matched, eq-eqb t.head.total 0 none) (alone_tied none)
