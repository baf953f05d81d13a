-- What a fraction is worth, as a difference of two naturals over a third: f = (a - b) / d. Each operation has its worth from those of its parts,
-- and whether two fractions are equal, or one at most the other, is an equation or an order between naturals.
use mathlib.Core.Path.{◌≡◌, refl, ap, subst}
use mathlib.Core.Bool.{true, false}
use mathlib.Core.List.{List, [], ◌∷◌}
use mathlib.Core.Logic.{⊎_elim}
use Prim.Native.Nat.{ℕ, zero, suc, ◌+◌, ◌*◌, ◌≤◌, ◌<◌}
use native.Mathlib.Nat.{mul-pos, eq_of_mul-eq-mul_right, le_of_mul-le-mul_right, lt_of_mul-lt-mul_right, mul-lt-mul_of_pos_right, mul-le-mul_right}
use native.Mathlib.Omega.{arith}
use lib.IntN.{ℤ, pos, negsuc}
use lib.ListN.{length, get_or}
use Rattle.laws.specs.Lists.{sum_of}
use Rattle.laws.proofs.Means.{round_up_not_below, round_up_least}
use Rattle.laws.proofs.Tests.{clash, le_or_lt}
use Rattle.fractions.specs.Signed.{plus, times}
use Rattle.fractions.specs.Fraction.{Fraction, over, over_above, ◌÷◌, whole, nothing, ◌⊕◌, minus, portion, ◌~◌, at_most, rounded_up, ceiling_of, total}
use Rattle.fractions.proofs.Differences.{up, down, Is, itself, opposite_is, plus_is, times_is, equal_is, is_equal, at_most_is, above_is}

pub record Value (f : Fraction) (a b d : ℕ) : Type 0 where
  pub positive : 0 < d
  pub worth : up f.numerator * d + b * f.denominator ≡ a * f.denominator + down f.numerator * d

pub value_itself : (f : Fraction) → Value f (up f.numerator) (down f.numerator) f.denominator
value_itself f = record { positive = f.above; worth = omega arith }

pub over_is : (d : ℕ) → 0 < d → over d ≡ d
over_is zero h = absurd (omega arith)
over_is (suc d) h = refl

pub value_any_over : {x : ℤ} {a b : ℕ} (d : ℕ) → Is x a b → Value (x ÷ d) a b (over d)
unfolding ◌÷◌
value_any_over d i = record { positive = over_above d; worth = omega (arith, ap (λ (k : ℕ). k * over d) i.same) }

pub value_over : {x : ℤ} {a b : ℕ} (d : ℕ) → 0 < d → Is x a b → Value (x ÷ d) a b d
value_over {x} {a} {b} d h i = subst (Value (x ÷ d) a b) (over_is d h) (value_any_over d i)

pub value_whole : (n : ℕ) → Value (whole n) n 0 1
unfolding whole
value_whole n = value_over 1 (omega arith) (itself (pos n))

pub value_nothing : (a d : ℕ) → 0 < d → Value nothing a a d
unfolding nothing whole ◌÷◌
value_nothing a d h = record { positive = h; worth = omega arith }

pub value_minus : {f : Fraction} {a b d : ℕ} → Value f a b d → Value (minus f) b a d
unfolding minus
value_minus {f} {a} {b} {d} v =
    record {
      positive = v.positive;
      worth = omega (arith, v.worth, ap (λ (k : ℕ). k * d) (opposite_is f.numerator (itself f.numerator)).same);
    }

-- an equation of cross products, both sides taken so many times
scaled : (n m e a b d g c : ℕ) → n * d + b * e ≡ a * e + m * d → n * g * (d * c) + b * c * (e * g) ≡ a * c * (e * g) + m * g * (d * c)
scaled n m e a b d g c u = omega (arith, ap (λ (x : ℕ). x * (g * c)) u)

-- numbers alone: n - m and k - l over e and g, worth (a - b) / d and (p - q) / c; s - r is their sum's numerator
sum_numbers : (n m e k l g a b d p q c s r : ℕ) → n * d + b * e ≡ a * e + m * d → k * c + q * g ≡ p * g + l * c → s + (m * g + l * e) ≡ n * g + k * e + r → s * (d * c) + (b * c + q * d) * (e * g) ≡ (a * c + p * d) * (e * g) + r * (d * c)
sum_numbers n m e k l g a b d p q c s r u v w =
    together (scaled n m e a b d g c u) (scaled k l g p q c e d v) (ap (λ (x : ℕ). x * (d * c)) w)
  where
    together : n * g * (d * c) + b * c * (e * g) ≡ a * c * (e * g) + m * g * (d * c) → k * e * (c * d) + q * d * (g * e) ≡ p * d * (g * e) + l * e * (c * d) → (s + (m * g + l * e)) * (d * c) ≡ (n * g + k * e + r) * (d * c) → s * (d * c) + (b * c + q * d) * (e * g) ≡ (a * c + p * d) * (e * g) + r * (d * c)
    together x y z = omega arith

pub value_sum : {f g : Fraction} {a b d p q c : ℕ} → Value f a b d → Value g p q c → Value (f ⊕ g) (a * c + p * d) (b * c + q * d) (d * c)
unfolding ◌⊕◌
value_sum {f} {g} {a} {b} {d} {p} {q} {c} v w =
    let x : ℤ = times f.numerator g.denominator in
    let y : ℤ = times g.numerator f.denominator in
    let i : Is (plus x y) (up f.numerator * g.denominator + up g.numerator * f.denominator) (down f.numerator * g.denominator + down g.numerator * f.denominator) =
    plus_is x y (times_is f.numerator g.denominator (itself f.numerator)) (times_is g.numerator f.denominator (itself g.numerator)) in
    record {
      positive = mul-pos v.positive w.positive;
      worth =
          sum_numbers (up f.numerator) (down f.numerator) f.denominator (up g.numerator) (down g.numerator) g.denominator a b d p q
          c (up (plus x y)) (down (plus x y)) v.worth w.worth i.same;
    }

portion_numbers : (n m e a b d k j s r : ℕ) → n * d + b * e ≡ a * e + m * d → s + m * k ≡ n * k + r → s * (d * j) + b * k * (e * j) ≡ a * k * (e * j) + r * (d * j)
portion_numbers n m e a b d k j s r u w = omega (arith, ap (λ (x : ℕ). x * (k * j)) u, ap (λ (x : ℕ). x * (d * j)) w)

pub value_any_portion : {f : Fraction} {a b d : ℕ} (k j : ℕ) → Value f a b d → Value (portion f k j) (a * k) (b * k) (d * over j)
unfolding portion
value_any_portion {f} {a} {b} {d} k j v =
    record {
      positive = mul-pos v.positive (over_above j);
      worth =
          portion_numbers (up f.numerator) (down f.numerator) f.denominator a b d k (over j) (up (times f.numerator k))
          (down (times f.numerator k)) v.worth (times_is f.numerator k (itself f.numerator)).same;
    }

pub value_portion : {f : Fraction} {a b d : ℕ} (k j : ℕ) → 0 < j → Value f a b d → Value (portion f k j) (a * k) (b * k) (d * j)
value_portion {f} {a} {b} {d} k j h v = subst (λ (x : ℕ). Value (portion f k j) (a * k) (b * k) (d * x)) (over_is j h) (value_any_portion k j v)

-- the same worth in other numbers
change_numbers : (n m e a b d p q c : ℕ) → n * d + b * e ≡ a * e + m * d → a * c + q * d ≡ p * d + b * c → (n * c + q * e) * d ≡ (p * e + m * c) * d
change_numbers n m e a b d p q c u w = omega (arith, ap (λ (x : ℕ). x * c) u, ap (λ (x : ℕ). x * e) w)

pub value_change : {f : Fraction} {a b d p q c : ℕ} → 0 < c → a * c + q * d ≡ p * d + b * c → Value f a b d → Value f p q c
value_change {f} {a} {b} {d} {p} {q} {c} h e v =
    record {
      positive = h;
      worth =
          eq_of_mul-eq-mul_right d v.positive _ _
          (change_numbers (up f.numerator) (down f.numerator) f.denominator a b d p q c v.worth e);
    }

-- equality of fractions and of worths
pub same_value : {f g : Fraction} {a b d : ℕ} → Value f a b d → Value g a b d → f ~ g
same_value {f} {g} {a} {b} {d} v w =
    record {
      cross = equal_is _ _ (times_is f.numerator g.denominator (itself _)) (times_is g.numerator f.denominator (itself _))
          (eq_of_mul-eq-mul_right d v.positive _ _
          (omega (arith, ap (λ (x : ℕ). x * g.denominator) v.worth, ap (λ (x : ℕ). x * f.denominator) w.worth)));
    }

~-numbers : {f g : Fraction} → f ~ g → up f.numerator * g.denominator + down g.numerator * f.denominator ≡ up g.numerator * f.denominator + down f.numerator * g.denominator
~-numbers {f} {g} e = is_equal (times_is f.numerator g.denominator (itself _)) (times_is g.numerator f.denominator (itself _)) e.cross

pub like_value : {f g : Fraction} {a b d : ℕ} → f ~ g → Value g a b d → Value f a b d
like_value {f} {g} {a} {b} {d} e v =
    record {
      positive = v.positive;
      worth =
          eq_of_mul-eq-mul_right g.denominator g.above _ _
          (change_numbers (up f.numerator) (down f.numerator) f.denominator (up g.numerator) (down g.numerator) g.denominator a b d
          (~-numbers e) v.worth);
    }

-- which of two fractions is the greater
order_numbers : (n m e k l g a b d p q c : ℕ) → n * g * (d * c) + b * c * (e * g) ≡ a * c * (e * g) + m * g * (d * c) → k * e * (c * d) + q * d * (g * e) ≡ p * d * (g * e) + l * e * (c * d) → (a * c + q * d) * (e * g) ≤ (p * d + b * c) * (e * g) → (n * g + l * e) * (d * c) ≤ (k * e + m * g) * (d * c)
order_numbers n m e k l g a b d p q c x y z = omega arith

strict_numbers : (n m e k l g a b d p q c : ℕ) → n * g * (d * c) + b * c * (e * g) ≡ a * c * (e * g) + m * g * (d * c) → k * e * (c * d) + q * d * (g * e) ≡ p * d * (g * e) + l * e * (c * d) → (p * d + b * c) * (e * g) < (a * c + q * d) * (e * g) → (k * e + m * g) * (d * c) < (n * g + l * e) * (d * c)
strict_numbers n m e k l g a b d p q c x y z = omega arith

module _ {f g : Fraction} {a b d p q c : ℕ} (v : Value f a b d) (w : Value g p q c) where
  pub value_at_most : a * c + q * d ≤ p * d + b * c → at_most f g ≡ true
  unfolding at_most
  value_at_most h =
      at_most_is _ _ (times_is f.numerator g.denominator (itself _)) (times_is g.numerator f.denominator (itself _))
      (le_of_mul-le-mul_right {k = d * c}
      (order_numbers (up f.numerator) (down f.numerator) f.denominator (up g.numerator) (down g.numerator) g.denominator a b d p q c
      (scaled (up f.numerator) (down f.numerator) f.denominator a b d g.denominator c v.worth)
      (scaled (up g.numerator) (down g.numerator) g.denominator p q c f.denominator d w.worth)
      (mul-le-mul_right (f.denominator * g.denominator) h))
      (mul-pos v.positive w.positive))

  pub value_above : p * d + b * c < a * c + q * d → at_most f g ≡ false
  unfolding at_most
  value_above h =
      above_is _ _ (times_is f.numerator g.denominator (itself _)) (times_is g.numerator f.denominator (itself _))
      (lt_of_mul-lt-mul_right (d * c)
      (strict_numbers (up f.numerator) (down f.numerator) f.denominator (up g.numerator) (down g.numerator) g.denominator a b d p q c
      (scaled (up f.numerator) (down f.numerator) f.denominator a b d g.denominator c v.worth)
      (scaled (up g.numerator) (down g.numerator) g.denominator p q c f.denominator d w.worth)
      (mul-lt-mul_of_pos_right h (mul-pos f.above g.above))))

  pub at_most_value : at_most f g ≡ true → a * c + q * d ≤ p * d + b * c
  at_most_value e = ⊎_elim (λ h. h) (λ h. absurd (clash e (value_above h))) (le_or_lt _ _)

  pub above_value : at_most f g ≡ false → p * d + b * c < a * c + q * d
  above_value e = ⊎_elim (λ h. absurd (clash (value_at_most h) e)) (λ h. h) (le_or_lt _ _)

-- the least whole number not below a fraction of 0 or more
ceiling_numbers : (x : ℤ) (e a d : ℕ) → 0 < e → 0 < d → up x * d ≡ a * e + down x * d → (a ≤ rounded_up x e * d) × ((c : ℕ) → a ≤ c * d → rounded_up x e ≤ c)
ceiling_numbers (pos n) e a d he hd h = (
  le_of_mul-le-mul_right {k = e} (omega (arith, mul-le-mul_right d (round_up_not_below n e he))) he,
  λ c l. round_up_least n e c he (le_of_mul-le-mul_right {k = d} (omega (arith, mul-le-mul_right e l)) hd),
)
ceiling_numbers (negsuc n) e a d he hd h = (
  le_of_mul-le-mul_right {k = e} (omega arith) he,
  λ c l. omega arith,
)

module _ {f : Fraction} {a d : ℕ} (v : Value f a 0 d) where
  found : (a ≤ rounded_up f.numerator f.denominator * d) × ((c : ℕ) → a ≤ c * d → rounded_up f.numerator f.denominator ≤ c)
  found = ceiling_numbers f.numerator f.denominator a d f.above v.positive (omega (arith, v.worth))

  pub ceiling_not_below : a ≤ ceiling_of f * d
  unfolding ceiling_of
  ceiling_not_below = found.0

  pub ceiling_least : (c : ℕ) → a ≤ c * d → ceiling_of f ≤ c
  unfolding ceiling_of
  ceiling_least c h = found.1 c h

-- a list of fractions over one denominator
pub total_value {ℓ} : {A : Type ℓ} (g h : A → ℕ) (e : A) (d : ℕ) → 0 < d → (fs : List Fraction) (xs : List A) → length fs ≡ length xs → ((i : ℕ) → Value (get_or fs i nothing) (g (get_or xs i e)) (h (get_or xs i e)) d) → Value (total fs) (sum_of g xs) (sum_of h xs) d
total_value g h e d positive [] [] same each = value_nothing 0 d positive
total_value g h e d positive [] (x ∷ xs) same each = absurd (omega arith)
total_value g h e d positive (f ∷ fs) [] same each = absurd (omega arith)
total_value g h e d positive (f ∷ fs) (x ∷ xs) same each =
    let rest = total_value g h e d positive fs xs (omega arith) (λ i. each (suc i)) in
    value_change positive (omega arith) (value_sum (each zero) rest)
