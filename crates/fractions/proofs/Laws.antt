-- Equality of fractions is an equivalence that every operation keeps, the sum is that of a commutative group, the order is total, and the
-- ceiling is what its name says. Each law is one of worths.
use mathlib.Core.Path.{◌≡◌, refl, sym, ◌∙◌}
use mathlib.Core.Bool.{true, false}
use mathlib.Core.Logic.{◌⊎◌, ⊎_elim}
use Prim.Native.Nat.{ℕ, ◌+◌, ◌*◌, ◌≤◌, ◌<◌}
use native.Mathlib.Nat.{le_of_mul-le-mul_right, mul-le-mul_right}
use native.Mathlib.Omega.{arith}
use lib.IntN.{ℤ, pos, negsuc}
use Rattle.laws.proofs.Means.{round_up_not_below, round_up_least}
use Rattle.laws.proofs.Tests.{either}
use Rattle.fractions.specs.Fraction.{Fraction, over, whole, nothing, ◌⊕◌, minus, portion, ◌~◌, at_most, rounded_up, ceiling_of}
use Rattle.fractions.proofs.Differences.{up, down}
use Rattle.fractions.proofs.Values.{value_itself, value_whole, value_nothing, value_minus, value_sum, value_any_portion, value_change, same_value, like_value, value_at_most, value_above, at_most_value, above_value}

-- the one number that no sentence divides by
pub over_none : over 0 ≡ 1
over_none = refl

pub same : (f : Fraction) → f ~ f
same f = same_value (value_itself f) (value_itself f)

pub turned : {f g : Fraction} → f ~ g → g ~ f
turned {f} {g} e = same_value (value_itself g) (like_value e (value_itself g))

pub through : {f g h : Fraction} → f ~ g → g ~ h → f ~ h
through {f} {g} {h} e k = same_value (like_value e (like_value k (value_itself h))) (value_itself h)

pub sum_same : {f g h k : Fraction} → f ~ g → h ~ k → f ⊕ h ~ g ⊕ k
sum_same {f} {g} {h} {k} e r =
    same_value (value_sum (like_value e (value_itself g)) (like_value r (value_itself k))) (value_sum (value_itself g) (value_itself k))

pub minus_same : {f g : Fraction} → f ~ g → minus f ~ minus g
minus_same {f} {g} e = same_value (value_minus (like_value e (value_itself g))) (value_minus (value_itself g))

pub sum_commutes : (f g : Fraction) → f ⊕ g ~ g ⊕ f
sum_commutes f g =
    let fg = value_sum (value_itself f) (value_itself g) in
    same_value fg (value_change fg.positive (omega arith) (value_sum (value_itself g) (value_itself f)))

pub sum_nothing : (f : Fraction) → f ⊕ nothing ~ f
sum_nothing f =
    let v = value_itself f in
    same_value (value_change v.positive (omega arith) (value_sum v (value_nothing 0 1 (omega arith)))) v

pub sum_minus : (f : Fraction) → f ⊕ minus f ~ nothing
sum_minus f =
    let v = value_itself f in
    same_value (value_change (omega arith) (omega arith) (value_sum v (value_minus v))) (value_nothing 0 1 (omega arith))

pub sum_grouped : (f g h : Fraction) → (f ⊕ g) ⊕ h ~ f ⊕ (g ⊕ h)
sum_grouped f g h =
    let right = value_sum (value_itself f) (value_sum (value_itself g) (value_itself h)) in
    same_value (value_change right.positive (omega arith) (value_sum (value_sum (value_itself f) (value_itself g)) (value_itself h))) right

pub either_at_most : (f g : Fraction) → (at_most f g ≡ true) ⊎ (at_most g f ≡ true)
either_at_most f g =
    ⊎_elim (λ e. ◌⊎◌.inl e)
    (λ e. ◌⊎◌.inr (value_at_most (value_itself g) (value_itself f) (omega (arith, above_value (value_itself f) (value_itself g) e))))
    (either (at_most f g))

pub at_most_same : (h : Fraction) {f g : Fraction} → f ~ g → at_most h f ≡ at_most h g
at_most_same h {f} {g} e = ⊎_elim yes_too no_too (either (at_most h g))
  where
    yes_too : at_most h g ≡ true → at_most h f ≡ at_most h g
    yes_too k =
        value_at_most (value_itself h) (like_value e (value_itself g)) (at_most_value (value_itself h) (value_itself g) k) ∙ sym k

    no_too : at_most h g ≡ false → at_most h f ≡ at_most h g
    no_too k = value_above (value_itself h) (like_value e (value_itself g)) (above_value (value_itself h) (value_itself g) k) ∙ sym k

pub at_most_itself : (f : Fraction) → at_most f f ≡ true
at_most_itself f = value_at_most (value_itself f) (value_itself f) (omega arith)

-- numbers alone: a chain of two orders, with the middle one's denominator taken out
chain_numbers : (a b d p q c x y e : ℕ) → 0 < c → a * c + q * d ≤ p * d + b * c → p * e + y * c ≤ x * c + q * e → a * e + y * d ≤ x * d + b * e
chain_numbers a b d p q c x y e positive h k =
    le_of_mul-le-mul_right {k = c} (omega (arith, mul-le-mul_right e h, mul-le-mul_right d k)) positive

pub at_most_through : (f g h : Fraction) → at_most f g ≡ true → at_most g h ≡ true → at_most f h ≡ true
at_most_through f g h l m =
    let a = value_itself f in
    let b = value_itself g in
    let c = value_itself h in
    value_at_most a c
    (chain_numbers (up f.numerator) (down f.numerator) f.denominator (up g.numerator) (down g.numerator) g.denominator
    (up h.numerator) (down h.numerator) h.denominator g.above (at_most_value a b l) (at_most_value b c m))

-- fractions that are equal stand alike
pub at_most_like : {f g h k : Fraction} → f ~ g → h ~ k → at_most g k ≡ true → at_most f h ≡ true
at_most_like {f} {g} {h} {k} e r l =
    value_at_most (like_value e (value_itself g)) (like_value r (value_itself k)) (at_most_value (value_itself g) (value_itself k) l)

-- what is not below 0 makes a sum no less, and a portion of it is not below 0; nor is what a fraction is short of one that it is at most
pub sum_not_less : (f g : Fraction) → at_most nothing g ≡ true → at_most f (f ⊕ g) ≡ true
sum_not_less f g l =
    let v = value_itself f in
    let w = value_itself g in
    value_at_most v (value_sum v w)
    (omega (arith, mul-le-mul_right (f.denominator * f.denominator) (at_most_value (value_nothing 0 1 (omega arith)) w l)))

pub portion_not_below : (f : Fraction) (m n : ℕ) → at_most nothing f ≡ true → at_most nothing (portion f m n) ≡ true
portion_not_below f m n l =
    let zero_value = value_nothing 0 1 (omega arith) in
    value_at_most zero_value (value_any_portion m n (value_itself f)) (omega (arith, mul-le-mul_right m (at_most_value zero_value (value_itself f) l)))

pub short_not_below : (f g : Fraction) → at_most f g ≡ true → at_most nothing (g ⊕ minus f) ≡ true
short_not_below f g l =
    value_at_most (value_nothing 0 1 (omega arith)) (value_sum (value_itself g) (value_minus (value_itself f)))
    (omega (arith, at_most_value (value_itself f) (value_itself g) l))

pub whole_not_below : (n : ℕ) → at_most nothing (whole n) ≡ true
whole_not_below n = value_at_most (value_nothing 0 1 (omega arith)) (value_whole n) (omega arith)

-- the ceiling: not below the fraction, and no whole number that is not below it is less
reaches : (x : ℤ) (e : ℕ) → 0 < e → up x ≤ rounded_up x e * e + down x
reaches (pos n) e h = omega (arith, round_up_not_below n e h)
reaches (negsuc n) e h = omega arith

least : (x : ℤ) (e c : ℕ) → 0 < e → up x ≤ c * e + down x → rounded_up x e ≤ c
least (pos n) e c h l = round_up_least n e c h (omega arith)
least (negsuc n) e c h l = omega arith

pub ceiling_reaches : (f : Fraction) → at_most f (whole (ceiling_of f)) ≡ true
unfolding ceiling_of
ceiling_reaches f =
    value_at_most (value_itself f) (value_whole (rounded_up f.numerator f.denominator))
    (omega (arith, reaches f.numerator f.denominator f.above))

pub ceiling_is_least : (f : Fraction) (c : ℕ) → at_most f (whole c) ≡ true → ceiling_of f ≤ c
unfolding ceiling_of
ceiling_is_least f c e =
    least f.numerator f.denominator c f.above (omega (arith, at_most_value (value_itself f) (value_whole c) e))
