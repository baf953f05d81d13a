-- A departure counts once: the shares are the account times weight over the weight left, and the weights of those who stay add up to the weight
-- left. A departure that counts twice gives another V than the table, which bench case B2 shows.
use mathlib.Core.List.{List, [], ◌∷◌, map}
use mathlib.Core.Logic.{◌≢◌}
use mathlib.Core.Path.{◌≡◌, refl, ap, ◌∙◌}
use Prim.Native.Nat.{ℕ, ◌+◌, ◌*◌, ◌<◌}
use native.Mathlib.Nat.{mul-pos}
use native.Mathlib.Omega.{arith}
use lib.ListN.{length, get_or}
use lib.Seq.{get_or-set_same, get_or-set_other}
use Rattle.laws.specs.Lists.{sum_of}
use Rattle.rows.specs.Numbers.{unit}
use Rattle.fractions.specs.Fraction.{Fraction, ◌⊕◌, portion, ◌~◌, total}
use Rattle.fractions.proofs.Differences.{up, down}
use Rattle.fractions.proofs.Laws.{same}
use Rattle.fractions.proofs.Values.{Value, value_itself, value_nothing, value_sum, value_portion, value_change, same_value}
use Rattle.account.specs.Account.{Entry, absent, present, Account, entry, weight_of, owed_to, weight_in, gaining, passed_on, rest, weight_left, freed}
use Rattle.account.specs.Departures.{share, CountedOnce}
use Rattle.account.proofs.Match.{gain_at}
use Rattle.account.proofs.Releases.{passed_all}

-- numbers alone: a share of weight w beside shares of weight s, over D
shares_numbers : (u w s D : ℕ) → (u * w * D + u * s * D) * D ≡ u * (w + s) * (D * D)
shares_numbers u w s D = omega arith

shares_total : (f : Fraction) (n : ℕ) → 0 < n → (es : List Entry) → Value (total (map (λ e. portion f (weight_of e) n) es)) (up f.numerator * sum_of weight_of es) (down f.numerator * sum_of weight_of es) (f.denominator * n)
shares_total f n h [] = value_change (mul-pos f.above h) (omega arith) (value_nothing 0 1 (omega arith))
shares_total f n h (e ∷ es) =
    let D : ℕ = f.denominator * n in
    value_change (mul-pos f.above h)
    (together (shares_numbers (up f.numerator) (weight_of e) (sum_of weight_of es) D)
    (shares_numbers (down f.numerator) (weight_of e) (sum_of weight_of es) D))
    (value_sum (value_portion (weight_of e) n h (value_itself f)) (shares_total f n h es))
  where
    together : {x y z w : ℕ} → x ≡ y → z ≡ w → x + w ≡ y + z
    together p q = omega arith

gained_owed : (f : Fraction) (n : ℕ) (e : Entry) → 0 < n → owed_to (gaining f n e) ~ owed_to e ⊕ portion f (weight_of e) n
unfolding gaining
gained_owed f n absent h =
    let v = value_sum (value_nothing 0 1 (omega arith)) (value_portion 0 n h (value_itself f)) in
    same_value (value_nothing 0 _ v.positive) (value_change v.positive (omega arith) v)
gained_owed f n (present q) h = same (q.owed ⊕ portion f q.weight n)

none_gains : (f : Fraction) (n : ℕ) → gaining f n absent ≡ absent
unfolding gaining
none_gains f n = refl

left_absent : (a : Account) (i : ℕ) → i < length a.entries → get_or (rest a i) i absent ≡ absent
unfolding rest
left_absent a i inside = get_or-set_same a.entries i absent absent inside

others_stay : (a : Account) (i j : ℕ) → j ≢ i → get_or (rest a i) j absent ≡ entry a j
unfolding rest entry
others_stay a i j apart = get_or-set_other a.entries i j absent absent apart

-- for any account at all, from any run or none
module _ (a : Account) (i : ℕ) (inside : i < length a.entries) (some : 0 < weight_left a i) where
  passed : passed_on (owed_to (entry a i)) (weight_left a i) ≡ owed_to (entry a i)
  passed = passed_all (owed_to (entry a i)) (weight_left a i) some

  entry_freed : (j : ℕ) → entry (freed a i) j ≡ gaining (owed_to (entry a i)) (weight_left a i) (get_or (rest a i) j absent)
  unfolding freed entry
  entry_freed j = rw passed (gain_at _ _ (rest a i) j)

  shares_add : total (map (share a i) (rest a i)) ~ owed_to (entry a i)
  unfolding share weight_in weight_left
  shares_add =
      let f : Fraction = owed_to (entry a i) in
      same_value
      (value_change f.above (omega arith) (shares_total f (weight_left a i) some (rest a i)))
      (value_itself f)

  V_moved : (freed a i).virtual ~ a.virtual ⊕ portion (owed_to (entry a i)) unit (weight_left a i)
  unfolding freed
  V_moved = rw passed (same (a.virtual ⊕ portion (owed_to (entry a i)) unit (weight_left a i)))

  pub counted_once : CountedOnce a i
  unfolding share
  counted_once =
      record {
        gone = entry_freed i ∙ ap (gaining _ _) (left_absent a i inside) ∙ none_gains _ _;
        each_gains = λ j apart. rw (entry_freed j, others_stay a i j apart) (gained_owed (owed_to (entry a i)) (weight_left a i) (entry a j) some);
        all_of_it = shares_add;
        moves_V = V_moved;
      }
