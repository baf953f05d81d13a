-- A decimal as a field of a line, and the digits of a number as they are printed.
use Rattle.std.specs.Prelude.{Bool, true, cond, not, ◌&&◌, List, [], ◌∷◌, ◌++◌, ℕ, zero, suc, ◌+◌, ◌-◌, ◌*◌, ◌/◌, ◌%◌, leb, ltb, eqb, length, Option, None, Some}
use Rattle.laws.specs.Lists.{every, all}

abbrev pub digit : ℕ → Bool
digit b = leb 48 b && leb b 57

-- "no leading zero but for 0 itself"
abbrev pub no_leading_zero : List ℕ → Bool
no_leading_zero [] = true
no_leading_zero (b ∷ []) = true
no_leading_zero (b ∷ c ∷ bs) = not (eqb b 48)

-- the number that digits add up to, after those that made `v`
abbrev pub value_from : ℕ → List ℕ → ℕ
value_from v [] = v
value_from v (b ∷ bs) = value_from (v * 10 + (b - 48)) bs

-- "decimals of 1 to 5 digits"
unfoldable pub is_decimal : List ℕ → Bool
is_decimal f = every (leb 1 (length f) ∷ leb (length f) 5 ∷ all digit f ∷ no_leading_zero f ∷ [])

unfoldable pub decimal : List ℕ → Option ℕ
decimal f = cond (is_decimal f) (Some (value_from 0 f)) None

-- the digits of a number that has at most one more than `k`
unfoldable pub digits_in : ℕ → ℕ → List ℕ
digits_in zero n = (48 + n % 10) ∷ []
digits_in (suc k) n = cond (ltb n 10) ((48 + n) ∷ []) (digits_in k (n / 10) ++ ((48 + n % 10) ∷ []))

-- a number of the program is below 2 to the 64th, which has twenty digits
abbrev pub digits : ℕ → List ℕ
digits n = digits_in 19 n
