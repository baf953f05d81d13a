-- A number's digits, and what is put into a buffer one after the other.
use mathlib.Core.Path.{◌≡◌, refl, sym, ap, ◌∙◌}
use mathlib.Core.Bool.{Bool, true, false, cond}
use mathlib.Core.List.{List, [], ◌∷◌, ◌++◌, append_assoc}
use Prim.Native.Nat.{ℕ, zero, suc, ◌+◌, ◌-◌, ◌/◌, ◌%◌, ◌^◌, ◌≤◌, ◌<◌}
use native.Mathlib.Nat.{add-zero, add-suc, suc-add}
use native.Mathlib.Omega.{arith}
use lib.Dec.{ltb}
use lib.ListN.{length, take, drop, set, length-append}
use lib.Seq.{sets, length-sets, sets-eq, take_at, length-take-le}
use borrow.Author.Tests.{lt-ltb, le-ltb}
use borrow.Rule.Slice.PartMut.{put_mid, Post-is}
use Rattle.std.specs.Prelude.{Option, None, Some}
use Rattle.std.specs.Fmt.{decimal}
use Rattle.std.proofs.lemmas.Fmt.{decimal_from_appends, length-decimal-le}
use Rattle.head.specs.declared.Grant.{Grant}
use Rattle.head.specs.declared.Shown.{Shown}
use Rattle.lines.specs.Decimal.{digits_in, digits}
use Rattle.lines.specs.Print.{answer_line, grant_shown, shown_line}
use Rattle.lines.specs.Places.{Wrote}

pub one_digit : (k n : ℕ) → n < 10 → digits_in k n ≡ (48 + n) ∷ []
unfolding digits_in
one_digit zero n h = let e : n % 10 ≡ n = omega arith in rw e
one_digit (suc k) n h = rw (lt-ltb n 10 h)

pub more_digits : (k n : ℕ) → 10 ≤ n → digits_in (suc k) n ≡ digits_in k (n / 10) ++ ((48 + n % 10) ∷ [])
unfolding digits_in
more_digits k n h = rw (le-ltb n 10 h)

-- at most so many of the last digits
abbrev counted : ℕ → ℕ → List ℕ
counted zero n = []
counted (suc k) n = digits_in k n

counted_more : (k n : ℕ) → 10 ≤ n → counted (suc k) n ≡ counted k (n / 10) ++ ((48 + n % 10) ∷ [])
unfolding digits_in
counted_more zero n h = refl
counted_more (suc k) n h = more_digits k n h

-- the digits are what the library prints
pub digits_decimal : (n : ℕ) → n < 2 ^ 64 → digits n ≡ decimal n
digits_decimal n h =
    decimal_from_appends counted (record { one = one_digit; more = counted_more }) 20 n h (length-decimal-le 20 n (omega arith) (omega arith) h)

pub sets_append : (l xs ys : List ℕ) (at : ℕ) → sets l at (xs ++ ys) ≡ sets (sets l at xs) (at + length xs) ys
sets_append l [] ys at = rw add-zero
sets_append l (x ∷ xs) ys at = rw (sets_append (set l at x) xs ys (suc at), add-suc, suc-add)

-- two writes, one after the other, are one
pub wrote_both : {l m n : List ℕ} {at p q : ℕ} {xs ys : List ℕ} → Wrote l at xs m p → Wrote m p ys n q → Wrote l at (xs ++ ys) n q
wrote_both {l} {m} {n} {at} {p} {q} {xs} {ys} a b =
    record {
      place = omega (arith, a.place, b.place, length-append xs ys);
      stand = b.stand ∙ rw (a.stand, a.place) (sym (sets_append l xs ys at));
    }

-- a buffer keeps its length, and every byte outside of what was put there
pub wrote_length : {l m : List ℕ} {at p : ℕ} {xs : List ℕ} → Wrote l at xs m p → length m ≡ length l
wrote_length {l} {m} {at} {p} {xs} a = ap length a.stand ∙ length-sets l at xs

-- a part of the buffer overwritten
pub wrote_part : (l : List ℕ) (at : ℕ) (xs : List ℕ) {ys : List ℕ} → ys ≡ xs → at + length xs ≤ length l
    → Wrote l at xs (put_mid at (at + length xs - at) l ys) (at + length xs)
wrote_part l at xs e h =
    record { place = refl; stand = rw (e, Post-is at (at + length xs) l (omega arith), sets-eq xs l at h, append_assoc) }

digits_most_in : (k n : ℕ) → length (digits_in k n) ≤ suc k
unfolding digits_in
digits_most_in zero n = omega arith
digits_most_in (suc k) n = by (ltb n 10) (digits_most_in k (n / 10))
  where
    by : (t : Bool) → length (digits_in k (n / 10)) ≤ suc k → length (cond t ((48 + n) ∷ []) (digits_in k (n / 10) ++ ((48 + n % 10) ∷ []))) ≤ suc (suc k)
    by true h = omega arith
    by false h = simp length-append (omega arith)

-- a number and the byte after it
abbrev pub ended : ℕ → ℕ → List ℕ
ended n then = digits n ++ (then ∷ [])

pub ended_most : (n then : ℕ) → length (ended n then) ≤ 21
ended_most n then = omega (arith, length-append (digits n) (then ∷ []), digits_most_in 19 n)

pub both_most : (xs ys : List ℕ) {a b : ℕ} → length xs ≤ a → length ys ≤ b → length (xs ++ ys) ≤ a + b
both_most xs ys h k = omega (arith, length-append xs ys)

abbrev pub dashes : List ℕ
dashes = 45 ∷ 32 ∷ 45 ∷ 32 ∷ []

pub two_numbers : (queue slice : ℕ) → ended queue 32 ++ ended slice 32 ≡ grant_shown (Some (record { queue = queue; slice = slice }))
unfolding grant_shown
two_numbers queue slice = simp append_assoc

pub grant_most : (grant : Option Grant) → length (grant_shown grant) ≤ 42
unfolding grant_shown
grant_most None = omega arith
grant_most (Some grant) = rw (← two_numbers grant.queue grant.slice) (both_most _ _ (ended_most grant.queue 32) (ended_most grant.slice 32))

-- the line in its parts, as the writer puts them: two numbers, a grant or dashes, and two numbers more
module _ (line : ℕ) (a : Shown) (sum total : ℕ) where
  pub shown_parts : (((ended line 32 ++ ended a.answer 32) ++ grant_shown a.grant) ++ ended sum 32) ++ ended total 10 ≡ shown_line line a sum total
  unfolding grant_shown shown_line answer_line
  shown_parts = simp append_assoc

  -- six numbers of twenty digits, and a byte after each
  pub shown_most : length (shown_line line a sum total) ≤ 126
  shown_most =
      rw (← shown_parts)
      (both_most _ _ (both_most _ _ (both_most _ _ (both_most _ _ (ended_most line 32) (ended_most a.answer 32)) (grant_most a.grant)) (ended_most sum 32)) (ended_most total 10))

-- what the writer puts one after the other
pub wrote_number : {l m o : List ℕ} {at p q : ℕ} {bytes : List ℕ} {n then : ℕ} → Wrote l at bytes m p → Wrote m p (then ∷ []) o q → bytes ≡ decimal n → n < 2 ^ 64
    → Wrote l at (ended n then) o q
wrote_number {n = n} a b e h = wrote_both (rw (e, ← digits_decimal n h) at a) b

pub wrote_grant : {l m o : List ℕ} {at p q : ℕ} {g : Grant} → Wrote l at (ended g.queue 32) m p → Wrote m p (ended g.slice 32) o q → {grant : Option Grant} → grant ≡ Some g
    → Wrote l at (grant_shown grant) o q
wrote_grant {g = g} a b is = rw (is, ← two_numbers g.queue g.slice) (wrote_both a b)

pub wrote_dashes : {l m : List ℕ} {at p : ℕ} → Wrote l at dashes m p → {grant : Option Grant} → grant ≡ None → Wrote l at (grant_shown grant) m p
unfolding grant_shown
wrote_dashes a is = rw is a

pub wrote_line : {l₀ l₁ l₂ l₃ l₄ l₅ : List ℕ} {p₀ p₁ p₂ p₃ p₄ p₅ : ℕ} (line : ℕ) (a : Shown) (sum total : ℕ) → Wrote l₀ p₀ (ended line 32) l₁ p₁ → Wrote l₁ p₁ (ended a.answer 32) l₂ p₂
    → Wrote l₂ p₂ (grant_shown a.grant) l₃ p₃ → Wrote l₃ p₃ (ended sum 32) l₄ p₄ → Wrote l₄ p₄ (ended total 10) l₅ p₅ → {l : List ℕ} → l₅ ≡ l
    → Wrote l₀ p₀ (shown_line line a sum total) l p₅
wrote_line line a sum total u v w x y e =
    rw (← e, ← shown_parts line a sum total) (wrote_both (wrote_both (wrote_both (wrote_both u v) w) x) y)

pub ruleset writing = (length-sets, ended_most, grant_most, wrote_part)

-- what stands in the buffer up to the next place
pub wrote_take : {l m : List ℕ} {at p : ℕ} {xs : List ℕ} → Wrote l at xs m p → p ≤ length l → take p m ≡ take at l ++ xs
wrote_take {l} {m} {at} {p} {xs} w h =
    let fits : at + length xs ≤ length l = omega (arith, w.place) in
    let long : length (take at l ++ xs) ≡ p = omega (arith, w.place, length-append (take at l) xs, length-take-le at l (omega arith)) in
    rw (w.stand, sets-eq xs l at fits) (take_at (take at l ++ xs) (drop (at + length xs) l) p long)
