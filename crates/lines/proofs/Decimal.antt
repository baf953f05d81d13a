-- A field is a decimal exactly when it is the digits of a number below 100,000.
use mathlib.Core.Path.{◌≡◌, refl, sym, ap, ◌∙◌}
use mathlib.Core.Bool.{Bool, true, false, cond, not}
use mathlib.Core.List.{List, [], ◌∷◌, ◌++◌, append_assoc, append-nil}
use Rattle.std.specs.Prelude.{Some}
use Prim.Native.Nat.{ℕ, zero, suc, ◌+◌, ◌-◌, ◌*◌, ◌/◌, ◌%◌, ◌^◌, ◌≤◌, ◌<◌}
use native.Mathlib.Nat.{add-zero, add-suc, suc-add, pow-suc}
use native.Mathlib.Omega.{arith}
use lib.Dec.{ltb, eqb}
use lib.ListN.{length}
use borrow.Author.Tests.{le-leb, ltb-true, ltb-false, eqb-false, ne_eqb, not-true}
use Rattle.laws.specs.Lists.{all}
use Rattle.laws.proofs.Tests.{clash, and_left, and_right, and_both}
use Rattle.lines.specs.Decimal.{digit, no_leading_zero, value_from, decimal, digits_in, digits}
use Rattle.std.proofs.lemmas.Fmt.{length-decimal-le, decimal_nonempty}
use Rattle.lines.proofs.Digits.{one_digit, more_digits, digits_decimal}
use Rattle.lines.proofs.Decimals.{EndsDecimal, decimal_contd, makes, makes_only, digit_low, digit_high, grows, five_digits}

-- ten digits, and no more
a_digit : (n : ℕ) → n < 10 → digit (48 + n) ≡ true
a_digit n h = and_both (le-leb 48 (48 + n) (omega arith)) (le-leb (48 + n) 57 (omega arith))

all_append : (f g : List ℕ) → all digit f ≡ true → all digit g ≡ true → all digit (f ++ g) ≡ true
all_append [] g p q = q
all_append (b ∷ f) g p q = and_both (and_left (digit b) (all digit f) p) (all_append f g (and_right (digit b) (all digit f) p) q)

pub all_digits : (k n : ℕ) → all digit (digits_in k n) ≡ true
unfolding digits_in
all_digits zero n = and_both (a_digit (n % 10) (omega arith)) refl
all_digits (suc k) n = by (ltb n 10) refl (all_digits k (n / 10))
  where
    by : (t : Bool) → ltb n 10 ≡ t → all digit (digits_in k (n / 10)) ≡ true → all digit (cond t ((48 + n) ∷ []) (digits_in k (n / 10) ++ ((48 + n % 10) ∷ []))) ≡ true
    by true e ih = and_both (a_digit n (ltb-true n 10 e)) refl
    by false e ih = all_append (digits_in k (n / 10)) ((48 + n % 10) ∷ []) ih (and_both (a_digit (n % 10) (omega arith)) refl)

value_append : (v : ℕ) (f : List ℕ) (b : ℕ) → value_from v (f ++ (b ∷ [])) ≡ value_from v f * 10 + (b - 48)
value_append v [] b = refl
value_append v (x ∷ f) b = value_append (v * 10 + (x - 48)) f b

value_digits : (k n : ℕ) → n < 10 ^ suc k → value_from 0 (digits_in k n) ≡ n
unfolding digits_in
value_digits zero n h = omega arith
value_digits (suc k) n h = by (ltb n 10) refl (value_digits k (n / 10) (omega (arith, rw pow-suc at h)))
  where
    by : (t : Bool) → ltb n 10 ≡ t → value_from 0 (digits_in k (n / 10)) ≡ n / 10 → value_from 0 (cond t ((48 + n) ∷ []) (digits_in k (n / 10) ++ ((48 + n % 10) ∷ []))) ≡ n
    by true e ih = omega arith
    by false e ih = rw (value_append 0 (digits_in k (n / 10)) (48 + n % 10), ih) (omega arith)

-- the first digit of a number above 0 is no zero
abbrev first_digit : List ℕ → Bool
first_digit [] = false
first_digit (b ∷ bs) = not (eqb b 48)

first_append : (f g : List ℕ) → first_digit f ≡ true → first_digit (f ++ g) ≡ true
first_append [] g h = absurd (clash h refl)
first_append (b ∷ f) g h = h

first_leads : (f : List ℕ) → first_digit f ≡ true → no_leading_zero f ≡ true
first_leads [] h = refl
first_leads (b ∷ []) h = refl
first_leads (b ∷ c ∷ f) h = h

not_zero : (n : ℕ) → 1 ≤ n → not (eqb (48 + n) 48) ≡ true
not_zero n h = rw (ne_eqb (48 + n) 48 (λ e. omega arith))

first_digits : (k n : ℕ) → n < 10 ^ suc k → 1 ≤ n → first_digit (digits_in k n) ≡ true
unfolding digits_in
first_digits zero n h l = not_zero (n % 10) (omega arith)
first_digits (suc k) n h l = by (ltb n 10) refl (λ (m : 10 ≤ n). first_digits k (n / 10) (omega (arith, rw pow-suc at h)) (omega arith))
  where
    by : (t : Bool) → ltb n 10 ≡ t → (10 ≤ n → first_digit (digits_in k (n / 10)) ≡ true) → first_digit (cond t ((48 + n) ∷ []) (digits_in k (n / 10) ++ ((48 + n % 10) ∷ []))) ≡ true
    by true e ih = not_zero n l
    by false e ih = first_append (digits_in k (n / 10)) ((48 + n % 10) ∷ []) (ih (ltb-false n 10 e))

leads : (n : ℕ) → n < 10 ^ 20 → no_leading_zero (digits n) ≡ true
unfolding digits_in
leads zero h = refl
leads (suc n) h = first_leads (digits (suc n)) (first_digits 19 (suc n) h (omega arith))

pub few_digits : (n : ℕ) → n < 100000 → length (digits n) ≤ 5
few_digits n h = rw (digits_decimal n (omega arith)) (length-decimal-le 5 n (omega arith) h (omega arith))

pub decimal_digits : (n : ℕ) → n < 100000 → decimal (digits n) ≡ Some n
decimal_digits n h =
    let one : 1 ≤ length (digits n) = rw (digits_decimal n (omega arith)) (decimal_nonempty n (omega arith)) in
    decimal_contd (digits n)
    ∙ makes 0 0 (digits n) (record { some_digit = omega arith; few = omega (arith, few_digits n h); digits = all_digits 19 n; leads = leads n (omega arith) })
    ∙ ap Some (value_digits 19 n (omega arith))

-- the other way: digits with no zero before them are those of the number that they make
digits_value : (k v : ℕ) (g : List ℕ) → 1 ≤ v → all digit g ≡ true → digits_in (k + length g) (value_from v g) ≡ digits_in k v ++ g
digits_value k v [] h d = rw add-zero (sym (append-nil (digits_in k v)))
digits_value k v (b ∷ g) h d =
    let low : 48 ≤ b = digit_low b (and_left (digit b) (all digit g) d) in
    let high : b ≤ 57 = digit_high b (and_left (digit b) (all digit g) d) in
    let q : (v * 10 + (b - 48)) / 10 ≡ v = omega arith in
    let r : 48 + (v * 10 + (b - 48)) % 10 ≡ b = omega arith in
    let p : digits_in (suc k) (v * 10 + (b - 48)) ≡ digits_in k v ++ (b ∷ []) = rw (more_digits k (v * 10 + (b - 48)) (omega arith), q, r) in
    rw (add-suc, ← suc-add, digits_value (suc k) (v * 10 + (b - 48)) g (omega arith) (and_right (digit b) (all digit g) d), p, append_assoc)

value_small : (j v : ℕ) (g : List ℕ) → v < 10 ^ j → all digit g ≡ true → value_from v g < 10 ^ (j + length g)
value_small j v [] h d = rw add-zero h
value_small j v (b ∷ g) h d =
    let high : b ≤ 57 = digit_high b (and_left (digit b) (all digit g) d) in
    rw (add-suc, ← suc-add) (value_small (suc j) (v * 10 + (b - 48)) g (grows j v (b - 48) h (omega arith)) (and_right (digit b) (all digit g) d))

this_digit : (b k : ℕ) → digit b ≡ true → digits_in k (0 + (b - 48)) ≡ b ∷ []
this_digit b k d =
    let e : 48 + (0 + (b - 48)) ≡ b = omega (arith, digit_low b d) in
    rw (one_digit k (0 + (b - 48)) (omega (arith, digit_high b d)), e)

spelled : (l : List ℕ) → EndsDecimal 0 0 l → l ≡ digits (value_from 0 l)
spelled [] e = absurd (omega (arith, e.some_digit))
spelled (b ∷ []) e = sym (this_digit b 19 (and_left (digit b) true e.digits))
spelled (b ∷ c ∷ g) e =
    let db : digit b ≡ true = and_left (digit b) (all digit (c ∷ g)) e.digits in
    let dg : all digit (c ∷ g) ≡ true = and_right (digit b) (all digit (c ∷ g)) e.digits in
    let k : ℕ = 19 - suc (length g) in
    let fuel : k + suc (length g) ≡ 19 = omega (arith, e.few) in
    let some_value : 1 ≤ 0 + (b - 48) = omega (arith, digit_low b db, eqb-false b 48 (not-true (eqb b 48) e.leads)) in
    let whole : digits_in (k + suc (length g)) (value_from 0 (b ∷ c ∷ g)) ≡ digits_in k (0 + (b - 48)) ++ (c ∷ g) =
    digits_value k (0 + (b - 48)) (c ∷ g) some_value dg in
    sym (rw fuel at whole ∙ rw (this_digit b k db))

pub decimal_only : (f : List ℕ) (v : ℕ) → decimal f ≡ Some v → (f ≡ digits v) × (v < 100000)
decimal_only f v h =
    let m = makes_only 0 0 f v (sym (decimal_contd f) ∙ h) in
    let below : value_from 0 f < 100000 = five_digits (0 + length f) (value_from 0 f) (value_small 0 0 f (omega arith) m.0.digits) m.0.few in
    (rw m.1 at (spelled f m.0), rw m.1 at below)
