-- Table and account tied: beside `Match`, V is A / W, or the resting position of an empty table, each account is the row's lag, and no account is as low as minus the longest request.
-- An event moves V from A / W to A' / W'; a present row's lag then grows by its weight times that move, over 720,720, whatever the event. So
-- one law, `moved`, serves every event: whoever gains a portion of f by weight is tied again, if f over n is that move.
use mathlib.Core.List.{List}
use mathlib.Core.Path.{◌≡◌, refl, ap, ◌∙◌}
use Prim.Native.Nat.{ℕ, ◌+◌, ◌*◌, ◌≤◌, ◌<◌}
use native.Mathlib.Nat.{mul-pos, mul-le-mul_left, mul-lt-mul_of_pos_right, lt_of_mul-lt-mul_right}
use native.Mathlib.Omega.{arith}
use lib.ListN.{get_or}
use Rattle.rows.specs.declared.Row.{Row}
use Rattle.rows.specs.Numbers.{unit}
use Rattle.rows.specs.Row.{blank, weight_in as weight_of_row}
use Rattle.share.specs.declared.Table.{Table}
use Rattle.share.specs.Table.{row}
use Rattle.fractions.specs.Fraction.{Fraction, nothing, ◌⊕◌, portion}
use Rattle.fractions.proofs.Values.{Value, value_nothing, value_sum, value_portion, value_change}
use Rattle.account.specs.Account.{Entry, absent, present, Account, weight_of, owed_to, credited, gaining, all_gain}
use Rattle.account.proofs.Match.{Match, gain_at}

-- the account is the lag: weight x (A - W x position) over W x 720,720
abbrev pub Lags : ℕ → ℕ → Row → Entry → Type 0
Lags A W r e = Value (owed_to e) (weight_of_row r * A) (weight_of_row r * (W * r.position)) (W * unit)

-- minus the account is below the longest request: weight x (W x position - A) < longest x W x 720,720
abbrev pub Bounded : ℕ → ℕ → Row → Entry → Type 0
Bounded A W r absent = Unit {0}
Bounded A W r (present q) = weight_of_row r * (W * r.position) < weight_of_row r * A + q.longest * (W * unit)

pub record Held (A W : ℕ) (r : Row) (e : Entry) : Type 0 where
  pub lags : Lags A W r e
  pub bounded : Bounded A W r e

pub record Live (t : Table) (a : Account) : Type 0 where
  pub clock : Value a.virtual t.head.sum 0 t.head.total
  pub held : (j : ℕ) → Held t.head.sum t.head.total (row t j) (get_or a.entries j absent)

pub record Tied (t : Table) (a : Account) : Type 0 where
  pub same_terms : a.terms ≡ t.head.terms
  pub matched : Match t a.entries
  pub live : 0 < t.head.total → Live t a
  pub rests : t.head.total ≡ 0 → Value a.virtual t.head.resting 0 1

-- f = (x - y) / d over n is the move of V from A / W to A' / W', over 720,720; and V does not fall
pub record Moves (A W A' W' : ℕ) (f : Fraction) (n : ℕ) : Type 0 where
  pub plus : ℕ
  pub less : ℕ
  pub base : ℕ
  pub amount : Value f plus less base
  pub shared : 0 < n
  pub before : 0 < W
  pub after : 0 < W'
  pub move : plus * (W * W' * unit) + base * n * (A * W') ≡ base * n * (A' * W) + less * (W * W' * unit)
  pub rises : A * W' ≤ A' * W

-- the numbers of a move, for a row of weight w at p; D stands for base x n
lag_numbers : (A W A' W' U x y D w p : ℕ) → x * (W * W' * U) + D * (A * W') ≡ D * (A' * W) + y * (W * W' * U) → (w * A * D + x * w * (W * U)) * (W' * U) + w * (W' * p) * (W * U * D) ≡ w * A' * (W * U * D) + (w * (W * p) * D + y * w * (W * U)) * (W' * U)
lag_numbers A W A' W' U x y D w p e = left ∙ ap (λ (k : ℕ). k * (w * U)) core ∙ right
  where
    core : (A * D + x * (W * U)) * W' + W' * p * (W * D) ≡ A' * (W * D) + (W * p * D + y * (W * U)) * W'
    core = omega arith

    left : (w * A * D + x * w * (W * U)) * (W' * U) + w * (W' * p) * (W * U * D) ≡ ((A * D + x * (W * U)) * W' + W' * p * (W * D)) * (w * U)
    left = omega arith

    right : (A' * (W * D) + (W * p * D + y * (W * U)) * W') * (w * U) ≡ w * A' * (W * U * D) + (w * (W * p) * D + y * w * (W * U)) * (W' * U)
    right = omega arith

clock_numbers : (A W A' W' U x y D : ℕ) → x * (W * W' * U) + D * (A * W') ≡ D * (A' * W) + y * (W * W' * U) → (A * D + x * U * W) * W' + 0 * (W * D) ≡ A' * (W * D) + (0 * D + y * U * W) * W'
clock_numbers A W A' W' U x y D e = omega (arith, e)

-- a bound on how far a row is ahead of V holds as V rises
bound_numbers : (A W A' W' U w p l : ℕ) → 0 < W → 0 < W' → A * W' ≤ A' * W → w * (W * p) < w * A + l * (W * U) → w * (W' * p) < w * A' + l * (W' * U)
bound_numbers A W A' W' U w p l h k rise b =
    lt_of_mul-lt-mul_right W (omega (arith, mul-lt-mul_of_pos_right b k, mul-le-mul_left w rise))

pub none_owed : (w x y d : ℕ) → w ≡ 0 → 0 < d → Value nothing (w * x) (w * y) d
none_owed w x y d e h = rw e (value_change h (omega arith) (value_nothing 0 d h))

module _ {A W A' W' : ℕ} {f : Fraction} {n : ℕ} (m : Moves A W A' W' f n) where
  pub moved_clock : {v : Fraction} → Value v A 0 W → Value (v ⊕ portion f unit n) A' 0 W'
  moved_clock v =
      value_change m.after (clock_numbers A W A' W' unit m.plus m.less (m.base * n) m.move)
      (value_sum v (value_portion unit n m.shared m.amount))

  moved_entry : (r : Row) (e : Entry) → weight_of_row r ≡ weight_of e → Held A W r e → Held A' W' r (credited e (portion f (weight_of e) n))
  moved_entry r absent same h =
      record { lags = none_owed (weight_of_row r) A' (W' * r.position) (W' * unit) same (mul-pos m.after (omega arith)); bounded = tt }
  moved_entry r (present q) same h =
      record {
        lags =
            rw (← same)
            (value_change (mul-pos m.after (omega arith))
            (lag_numbers A W A' W' unit m.plus m.less (m.base * n) (weight_of_row r) r.position m.move)
            (value_sum h.lags (value_portion (weight_of_row r) n m.shared m.amount)));
        bounded =
            bound_numbers A W A' W' unit (weight_of_row r) r.position q.longest m.before m.after m.rises h.bounded;
      }

  -- every row that gains is tied to the new V
  pub moved : {t : Table} {es : List Entry} → Match t es → ((j : ℕ) → Held A W (row t j) (get_or es j absent)) → (j : ℕ) → Held A' W' (row t j) (get_or (all_gain f n es) j absent)
  unfolding gaining
  moved {t} {es} match held j =
      rw (gain_at f n es j) (moved_entry (row t j) (get_or es j absent) (match.alike j).weight (held j))

pub blank_held : (A W : ℕ) → 0 < W → Held A W blank absent
unfolding weight_of_row
blank_held A W h = record { lags = none_owed 0 A (W * 0) (W * unit) refl (mul-pos h (omega arith)); bounded = tt }
