-- Document 01, "Grant": the rule by which a row is chosen, and a function that finds it. The order is rows' `goes_before`.
use Rattle.std.specs.Prelude.{◌≡◌, Bool, true, false, cond, ◌&&◌, List, [], ◌∷◌, ℕ, suc, ◌≤◌}
use Rattle.std.proofs.Math.Option.{Option, none, some}
use Rattle.rows.specs.declared.Row.{Row}
use Rattle.rows.specs.Virtual.{eligible_at}
use Rattle.rows.specs.Order.{bid, goes_before}
use Rattle.share.specs.declared.Table.{Table}
use Rattle.share.specs.Table.{row}

-- "Among asking rows with opening at most V"
unfoldable pub eligible : Table → Row → Bool
eligible t r = eligible_at t.head.total t.head.sum r

-- the deadline of an asking row's request
unfoldable pub deadline : Row → ℕ
deadline r = (bid r).deadline

-- "the one with the least deadline": a row goes before another
unfoldable pub precedes : Table → Row → Row → Bool
precedes t r s = goes_before t.head.terms (bid r) (bid s)

-- the rule: no eligible row goes before it; "of equal deadlines, the lowest number"
pub record Chosen (t : Table) (i : ℕ) : Type 0 where
  pub asks : eligible t (row t i) ≡ true
  pub least : (j : ℕ) → eligible t (row t j) ≡ true → precedes t (row t j) (row t i) ≡ false
  pub lowest : (j : ℕ) → eligible t (row t j) ≡ true → precedes t (row t i) (row t j) ≡ false → i ≤ j

-- the function: a row takes the best one's place only if it goes before it
abbrev pub better : Table → Row → Option ℕ → Bool
better t r none = true
better t r (some best) = precedes t r (row t best)

abbrev pub choose_from : Table → ℕ → List Row → Option ℕ → Option ℕ
choose_from t i [] best = best
choose_from t i (r ∷ rs) best = choose_from t (suc i) rs (cond (eligible t r && better t r best) (some i) best)

unfoldable pub choice : Table → Option ℕ
choice t = choose_from t 0 t.rows none
