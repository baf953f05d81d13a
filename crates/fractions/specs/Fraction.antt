-- Document 01, "The account": "A fraction is a whole numerator, signed, over a whole number above 0; two are equal, or one the greater, as
-- their cross products are."
use Rattle.std.specs.Prelude.{◌≡◌, Bool, List, [], ◌∷◌, ℕ, zero, suc, ◌+◌, ◌-◌, ◌*◌, ◌/◌, ◌<◌, ℤ, pos, negsuc}
use Rattle.std.proofs.Common.{zero-le, suc-le-suc, mul-pos}
use Rattle.std.specs.Int.Signed.{le_z}
use Rattle.fractions.specs.Signed.{plus, times, opposite}

pub record Fraction : Type 0 where
  pub numerator : ℤ
  pub denominator : ℕ
  pub above : 0 < denominator

-- A number above 0 is itself; 1 stands in for 0, which keeps the operations total. No sentence of document 01 divides by 0.
abbrev pub over : ℕ → ℕ
over zero = 1
over (suc n) = suc n

abbrev pub over_above : (n : ℕ) → 0 < over n
over_above zero = suc-le-suc zero-le
over_above (suc n) = suc-le-suc zero-le

infix 55 ◌÷◌
unfoldable pub ◌÷◌ : ℤ → ℕ → Fraction
n ÷ d = record { numerator = n; denominator = over d; above = over_above d }

unfoldable pub whole : ℕ → Fraction
whole n = pos n ÷ 1

unfoldable pub nothing : Fraction
nothing = whole 0

infixl 50 ◌⊕◌
unfoldable pub ◌⊕◌ : Fraction → Fraction → Fraction
f ⊕ g =
    record {
      numerator = plus (times f.numerator g.denominator) (times g.numerator f.denominator);
      denominator = f.denominator * g.denominator;
      above = mul-pos f.above g.above;
    }

unfoldable pub minus : Fraction → Fraction
minus f = record { numerator = opposite f.numerator; denominator = f.denominator; above = f.above }

-- f x m / n
unfoldable pub portion : Fraction → ℕ → ℕ → Fraction
portion f m n =
    record { numerator = times f.numerator m; denominator = f.denominator * over n; above = mul-pos f.above (over_above n) }

-- "two are equal ... as their cross products are"
infix 40 ◌~◌
pub record ◌~◌ (f g : Fraction) : Type 0 where
  pub cross : times f.numerator g.denominator ≡ times g.numerator f.denominator

-- "or one the greater": the first is at most the second
unfoldable pub at_most : Fraction → Fraction → Bool
at_most f g = le_z (times f.numerator g.denominator) (times g.numerator f.denominator)

abbrev pub rounded_up : ℤ → ℕ → ℕ
rounded_up (pos n) d = (n + (d - 1)) / d
rounded_up (negsuc n) d = 0

-- the least whole number, 0 or above, not below a fraction
unfoldable pub ceiling_of : Fraction → ℕ
ceiling_of f = rounded_up f.numerator f.denominator

-- the sum of a list of fractions
abbrev pub total : List Fraction → Fraction
total [] = nothing
total (f ∷ fs) = f ⊕ total fs
