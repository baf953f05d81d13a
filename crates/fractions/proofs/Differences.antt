-- A signed number is what it is above zero less what it is below zero, so each law about it is an equation or an order between naturals with
-- both sides' negative parts moved across; `omega` does those.
use mathlib.Core.Path.{◌≡◌, refl, ap, sym, ◌∙◌}
use mathlib.Core.Bool.{Bool, true, false, cond}
use mathlib.Core.List.{List, [], ◌∷◌, map}
use mathlib.Core.Logic.{◌↔◌, ⊎_elim}
use Prim.Native.Nat.{ℕ, zero, suc, ◌+◌, ◌-◌, ◌*◌, ◌≤◌, ◌<◌}
use native.Mathlib.Omega.{arith}
use lib.Dec.{ltb, leb}
use lib.IntN.{ℤ, pos, negsuc, neg_ℤ, sub_ℕ}
use lib.Signed.{le_z}
use borrow.Author.Tests.{ltb-true, ltb-false, le-leb, lt-leb}
use Rattle.laws.specs.Difference.{◌⊖◌}
use Rattle.laws.specs.Lists.{sum_of}
use Rattle.laws.proofs.Tests.{le_or_lt}
use Rattle.fractions.specs.Signed.{plus, times, opposite, summed}

abbrev pub up : ℤ → ℕ
up (pos n) = n
up (negsuc n) = 0

abbrev pub down : ℤ → ℕ
down (pos n) = 0
down (negsuc n) = suc n

-- x is a - b
pub record Is (x : ℤ) (a b : ℕ) : Type 0 where
  pub same : up x + b ≡ a + down x

pub itself : (x : ℤ) → Is x (up x) (down x)
itself x = record { same = refl }

sub_is : (a b : ℕ) → Is (sub_ℕ a b) a b
sub_is a b = by (ltb a b) refl
  where
    by : (c : Bool) → ltb a b ≡ c → Is (cond c (negsuc (b - suc a)) (pos (a - b))) a b
    by true e = record { same = omega (arith, ltb-true a b e) }
    by false e = record { same = omega (arith, ltb-false a b e) }

pub difference_is : (a b : ℕ) → Is (a ⊖ b) a b
unfolding ◌⊖◌
difference_is a b = sub_is a b

negated : (n : ℕ) → Is (neg_ℤ (pos n)) 0 n
negated zero = record { same = refl }
negated (suc n) = record { same = omega arith }

pub opposite_is : (x : ℤ) {a b : ℕ} → Is x a b → Is (opposite x) b a
unfolding opposite
opposite_is (pos n) h = record { same = omega (arith, h.same, (negated n).same) }
opposite_is (negsuc n) h = record { same = omega (arith, h.same) }

-- the sum, in its own parts
plus_parts : (x y : ℤ) → Is (plus x y) (up x + up y) (down x + down y)
unfolding plus
plus_parts (pos a) (pos b) = record { same = omega arith }
plus_parts (pos a) (negsuc b) = record { same = omega (arith, (sub_is a (suc b)).same) }
plus_parts (negsuc a) (pos b) = record { same = omega (arith, (sub_is b (suc a)).same) }
plus_parts (negsuc a) (negsuc b) = record { same = omega arith }

pub plus_is : (x y : ℤ) {a b c d : ℕ} → Is x a b → Is y c d → Is (plus x y) (a + c) (b + d)
plus_is x y h k = record { same = omega (arith, (plus_parts x y).same, h.same, k.same) }

times_parts : (x : ℤ) (n : ℕ) → Is (times x n) (up x * n) (down x * n)
unfolding times
times_parts (pos a) n = record { same = omega arith }
times_parts (negsuc a) n = record { same = omega (arith, (negated (suc a * n)).same) }

pub times_is : (x : ℤ) (n : ℕ) {a b : ℕ} → Is x a b → Is (times x n) (a * n) (b * n)
times_is x n {a} {b} h =
    record { same = omega (arith, (times_parts x n).same, ap (λ (k : ℕ). k * n) h.same) }

-- two signed numbers are equal, or the one at most the other, as the differences are that they stand for
pub equal_is : (x y : ℤ) {a b c d : ℕ} → Is x a b → Is y c d → a + d ≡ c + b → x ≡ y
equal_is (pos m) (pos n) h k e = ap pos (omega (arith, h.same, k.same))
equal_is (pos m) (negsuc n) h k e = absurd (omega (arith, h.same, k.same))
equal_is (negsuc m) (pos n) h k e = absurd (omega (arith, h.same, k.same))
equal_is (negsuc m) (negsuc n) h k e = ap negsuc (omega (arith, h.same, k.same))

pub is_equal : {x y : ℤ} {a b c d : ℕ} → Is x a b → Is y c d → x ≡ y → a + d ≡ c + b
is_equal {x} {y} h k e = omega (arith, h.same, k.same, ap up e, ap down e)

pub at_most_is : (x y : ℤ) {a b c d : ℕ} → Is x a b → Is y c d → a + d ≤ c + b → le_z x y ≡ true
at_most_is (pos m) (pos n) h k e = le-leb m n (omega (arith, h.same, k.same))
at_most_is (pos m) (negsuc n) h k e = absurd (omega (arith, h.same, k.same))
at_most_is (negsuc m) (pos n) h k e = refl
at_most_is (negsuc m) (negsuc n) h k e = le-leb n m (omega (arith, h.same, k.same))

pub above_is : (x y : ℤ) {a b c d : ℕ} → Is x a b → Is y c d → c + b < a + d → le_z x y ≡ false
above_is (pos m) (pos n) h k e = lt-leb m n (omega (arith, h.same, k.same))
above_is (pos m) (negsuc n) h k e = refl
above_is (negsuc m) (pos n) h k e = absurd (omega (arith, h.same, k.same))
above_is (negsuc m) (negsuc n) h k e = lt-leb n m (omega (arith, h.same, k.same))

pub summed_is {ℓ} : {A : Type ℓ} (f : A → ℤ) (g h : A → ℕ) → ((x : A) → Is (f x) (g x) (h x)) → (xs : List A) → Is (summed (map f xs)) (sum_of g xs) (sum_of h xs)
summed_is f g h each [] = itself (pos 0)
summed_is f g h each (x ∷ xs) = plus_is (f x) (summed (map f xs)) (each x) (summed_is f g h each xs)

-- the same laws, of differences
module _ (a b c d : ℕ) where
  pub differences_sum : plus (a ⊖ b) (c ⊖ d) ≡ a + c ⊖ (b + d)
  differences_sum = equal_is _ _ (plus_is (a ⊖ b) (c ⊖ d) (difference_is a b) (difference_is c d)) (difference_is (a + c) (b + d)) refl

  pub differences_equal : (a ⊖ b ≡ c ⊖ d) ↔ (a + d ≡ c + b)
  differences_equal = (is_equal (difference_is a b) (difference_is c d), equal_is (a ⊖ b) (c ⊖ d) (difference_is a b) (difference_is c d))

  pub differences_order : le_z (a ⊖ b) (c ⊖ d) ≡ leb (a + d) (c + b)
  differences_order = ⊎_elim at_most above (le_or_lt (a + d) (c + b))
    where
      at_most : a + d ≤ c + b → le_z (a ⊖ b) (c ⊖ d) ≡ leb (a + d) (c + b)
      at_most h = at_most_is (a ⊖ b) (c ⊖ d) (difference_is a b) (difference_is c d) h ∙ sym (le-leb (a + d) (c + b) h)

      above : c + b < a + d → le_z (a ⊖ b) (c ⊖ d) ≡ leb (a + d) (c + b)
      above h = above_is (a ⊖ b) (c ⊖ d) (difference_is a b) (difference_is c d) h ∙ sym (lt-leb (a + d) (c + b) h)

pub difference_times : (a b n : ℕ) → times (a ⊖ b) n ≡ a * n ⊖ b * n
difference_times a b n = equal_is _ _ (times_is (a ⊖ b) n (difference_is a b)) (difference_is (a * n) (b * n)) refl

pub difference_opposite : (a b : ℕ) → opposite (a ⊖ b) ≡ b ⊖ a
difference_opposite a b = equal_is _ _ (opposite_is (a ⊖ b) (difference_is a b)) (difference_is b a) refl
