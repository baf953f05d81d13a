-- A departure that counts once, and one that counts twice.
use Rattle.std.specs.Prelude.{false, List, [], ◌∷◌, map, ◌++◌, ◌≢◌, ◌≡◌, ℕ}
use Rattle.rows.specs.Numbers.{unit, least_terms}
use Rattle.head.specs.declared.Event.{Event}
use Rattle.head.specs.declared.Event.TheVariants.{Fresh, Join, Leave, Grant, Return}
use Rattle.fractions.specs.Fraction.{Fraction, ◌⊕◌, portion, ◌~◌, total}
use Rattle.account.specs.Account.{Entry, absent, Account, entry, weight_of, owed_to, all_gain, passed_on, rest, weight_left, freed}

-- what a freed row's account gives to one who stays
unfoldable pub share : Account → ℕ → Entry → Fraction
share a i e = portion (owed_to (entry a i)) (weight_of e) (weight_left a i)

-- "When a row with account a is freed and others remain, each gains a x its weight / (W less the freed weight)": the shares are all of the account,
-- no more and no less, those who stay gain them and nothing else, the one who left gains nothing, and V rises by as much
pub record CountedOnce (a : Account) (i : ℕ) : Type 0 where
  pub gone : entry (freed a i) i ≡ absent
  pub each_gains : (j : ℕ) → j ≢ i → owed_to (entry (freed a i) j) ~ owed_to (entry a j) ⊕ share a i (entry a j)
  pub all_of_it : total (map (share a i) (rest a i)) ~ owed_to (entry a i)
  pub moves_V : (freed a i).virtual ~ a.virtual ⊕ portion (owed_to (entry a i)) unit (weight_left a i)

-- "Adding equation 14 to V when A already lost the leaver's share" (slips seen before): the account passed on a second time
unfoldable pub freed_twice : Account → ℕ → Account
freed_twice a i =
    let passed : Fraction = passed_on (owed_to (entry a i)) (weight_left a i) in
    let once : Account = freed a i in
    record {
      entries = all_gain passed (weight_left a i) once.entries;
      virtual = once.virtual ⊕ portion passed unit (weight_left a i);
      terms = once.terms;
    }

-- bench case B2: the first seven lines of the run in document 01, and then "L 1"
abbrev pub seven_lines : List Event
seven_lines = Fresh least_terms ∷ Join 1 2 2 ∷ Grant ∷ Return 1 1 false ∷ Join 0 2 1 ∷ Grant ∷ Return 0 1 false ∷ []

abbrev pub eight_lines : List Event
eight_lines = seven_lines ++ Leave 1 ∷ []
