-- A decimal read from the left. After n digits that make v the rest of the field decides: `contd` says how, and each byte takes it one
-- digit further or refuses the field.
use mathlib.Core.Path.{◌≡◌, refl, sym, ◌∙◌}
use mathlib.Core.Bool.{Bool, true, false, cond, not}
use mathlib.Core.List.{List, [], ◌∷◌}
use Rattle.std.specs.Prelude.{Option, None, Some}
use mathlib.Core.Logic.{◌⊎◌, ⊎_elim}
use Prim.Native.Nat.{ℕ, zero, suc, ◌+◌, ◌-◌, ◌*◌, ◌^◌, ◌≤◌, ◌<◌}
use native.Mathlib.Nat.{zero-add, add-zero, add-suc, suc-add, pow-suc, pow-le-pow_right}
use native.Mathlib.Numerals.{add-one}
use native.Mathlib.Omega.{arith}
use lib.Dec.{leb, eqb}
use lib.ListN.{length, drop, get_or}
use borrow.Author.Tests.{leb-true, le-leb, eqb-true, eqb-false, eq-eqb, ne_eqb}
use Rattle.laws.specs.Lists.{every, all}
use Rattle.laws.proofs.Tests.{refuted, clash, and_left, and_right, and_both, every_each, each_every}
use Rattle.lines.specs.Cut.{space, before}
use Rattle.lines.specs.Decimal.{digit, no_leading_zero, value_from, is_decimal, decimal}
use Rattle.lines.specs.Reading.{field_as, field_at, finished_as}
use Rattle.lines.specs.declared.reading.Field.{Field}
use Rattle.lines.proofs.Cutting.{found_here, found_later, found_nowhere}

module _ (b : ℕ) (d : digit b ≡ true) where
  pub digit_low : 48 ≤ b
  digit_low = leb-true 48 b (and_left (leb 48 b) (leb b 57) d)

  pub digit_high : b ≤ 57
  digit_high = leb-true b 57 (and_right (leb 48 b) (leb b 57) d)

abbrev pub is_nil : List ℕ → Bool
is_nil [] = true
is_nil (b ∷ bs) = false

-- a zero that was read first must have been the whole field
abbrev pub lead : ℕ → ℕ → List ℕ → Bool
lead zero v f = no_leading_zero f
lead (suc n) v f = cond (eqb v 0) (is_nil f) true

abbrev pub tests : ℕ → ℕ → List ℕ → List Bool
tests n v f = leb 1 (n + length f) ∷ leb (n + length f) 5 ∷ all digit f ∷ lead n v f ∷ []

pub contd : ℕ → ℕ → List ℕ → Option ℕ
contd n v f = cond (every (tests n v f)) (Some (value_from v f)) None

pub decimal_contd : (f : List ℕ) → decimal f ≡ contd 0 0 f
unfolding contd decimal is_decimal
decimal_contd f = rw zero-add

-- what the tests say: after n digits that make v, these bytes end a decimal
pub record EndsDecimal (n v : ℕ) (f : List ℕ) : Type 0 where
  pub some_digit : 1 ≤ n + length f
  pub few : n + length f ≤ 5
  pub digits : all digit f ≡ true
  pub leads : lead n v f ≡ true

module _ (n v : ℕ) (f : List ℕ) where
  tests_say : every (tests n v f) ≡ true → EndsDecimal n v f
  tests_say e =
      let t = every_each (tests n v f) e in
      record { some_digit = leb-true 1 (n + length f) t.0; few = leb-true (n + length f) 5 t.1.0; digits = t.1.1.0; leads = t.1.1.1.0 }

  pub makes : EndsDecimal n v f → contd n v f ≡ Some (value_from v f)
  unfolding contd
  makes e = rw (each_every (tests n v f) (le-leb 1 (n + length f) e.some_digit, (le-leb (n + length f) 5 e.few, (e.digits, (e.leads, tt)))))

  pub makes_only : (w : ℕ) → contd n v f ≡ Some w → EndsDecimal n v f × (value_from v f ≡ w)
  unfolding contd
  makes_only w h = by (every (tests n v f)) refl h
    where
      by : (t : Bool) → every (tests n v f) ≡ t → cond t (Some (value_from v f)) None ≡ Some w → EndsDecimal n v f × (value_from v f ≡ w)
      by true t h = (tests_say t, cc)
      by false t h = cc

  refuse : (EndsDecimal n v f → ⊥) → contd n v f ≡ None
  unfolding contd
  refuse h = rw (refuted (every (tests n v f)) (λ e. h (tests_say e)))

nothing_yet : (v : ℕ) → contd 0 v [] ≡ None
unfolding contd every
nothing_yet v = refl

either_way : (t : Bool) → cond t true true ≡ true
either_way true = refl
either_way false = refl

whole : (n v : ℕ) → 0 < n → n ≤ 5 → contd n v [] ≡ Some v
whole zero v h l = absurd (omega arith)
whole (suc n) v h l = makes (suc n) v [] (record { some_digit = omega arith; few = omega arith; digits = refl; leads = either_way (eqb v 0) })

no_digit : (n v b : ℕ) (f : List ℕ) → (48 ≤ b → b ≤ 57 → ⊥) → contd n v (b ∷ f) ≡ None
no_digit n v b f h =
    refuse n v (b ∷ f) (λ e. let d : digit b ≡ true = and_left (digit b) (all digit f) e.digits in h (digit_low b d) (digit_high b d))

too_long : (n v b : ℕ) (f : List ℕ) → n ≡ 5 → contd n v (b ∷ f) ≡ None
too_long n v b f h = refuse n v (b ∷ f) (λ e. omega (arith, e.few))

-- digits were read, and they make nothing: the next would have a zero before it
after_zero : (n v b : ℕ) (f : List ℕ) → 0 < n → v ≡ 0 → contd n v (b ∷ f) ≡ None
after_zero zero v b f h e = absurd (omega arith)
after_zero (suc n) v b f h e = refuse (suc n) v (b ∷ f) (λ w. clash w.leads (rw e refl))

lead_next : (n v b : ℕ) (f : List ℕ) → (n ≡ 0 → v ≡ 0) → 48 ≤ b → (0 < n → v ≡ 0 → ⊥) → lead n v (b ∷ f) ≡ lead (suc n) (v * 10 + (b - 48)) f
lead_next zero v b [] z h q = sym (either_way (eqb (v * 10 + (b - 48)) 0))
lead_next zero v b (x ∷ f) z h q = by (eqb b 48) refl
  where
    by : (t : Bool) → eqb b 48 ≡ t → not t ≡ cond (eqb (v * 10 + (b - 48)) 0) false true
    by true e = rw (eq-eqb (v * 10 + (b - 48)) 0 (omega (arith, z refl, eqb-true b 48 e)))
    by false e = rw (ne_eqb (v * 10 + (b - 48)) 0 (λ x. eqb-false b 48 e (omega arith)))
lead_next (suc n) v b f z h q = by (eqb v 0) refl
  where
    by : (t : Bool) → eqb v 0 ≡ t → cond t false true ≡ cond (eqb (v * 10 + (b - 48)) 0) (is_nil f) true
    by true e = absurd (q (omega arith) (eqb-true v 0 e))
    by false e = rw (ne_eqb (v * 10 + (b - 48)) 0 (λ x. eqb-false v 0 e (omega arith)))

next : (n v b : ℕ) (f : List ℕ) → (n ≡ 0 → v ≡ 0) → digit b ≡ true → (0 < n → v ≡ 0 → ⊥) → contd n v (b ∷ f) ≡ contd (suc n) (v * 10 + (b - 48)) f
unfolding contd
next n v b f z h q = rw (lead_next n v b f z (digit_low b h) q, h, add-suc, ← suc-add)

-- the field as it stands at place i, after the digits from place `at` on made v
pub go_on : List ℕ → ℕ → ℕ → ℕ → Option Field
go_on s at v i = field_as (contd (i - at) v (before space (drop i s))) (i + length (before space (drop i s)))

-- n digits make less than 10 to the n
pub grows : (n v d : ℕ) → v < 10 ^ n → d < 10 → v * 10 + d < 10 ^ suc n
grows n v d h k = rw pow-suc (omega arith)

pub five_digits : (n v : ℕ) → v < 10 ^ n → n ≤ 5 → v < 100000
five_digits n v h k = let l : 10 ^ n ≤ 10 ^ 5 = pow-le-pow_right (omega arith) k in omega arith

-- what holds of the loop that reads a field: the digits so far, and that the rest of the field decides
pub record Reached (s : List ℕ) (at v i : ℕ) : Type 0 where
  pub low : at ≤ i
  pub high : i ≤ length s
  pub few : i ≤ at + 5
  pub none_made : i ≡ at → v ≡ 0
  pub small : v < 10 ^ (i - at)
  pub decides : field_at s at ≡ go_on s at v i

pub reached_first : (s : List ℕ) (at : ℕ) → at ≤ length s → Reached s at 0 at
unfolding field_at go_on
reached_first s at h =
    let none_yet : at - at ≡ 0 = omega arith in
    record { low = omega arith; high = h; few = omega arith; none_made = λ e. refl; small = rw none_yet (omega arith); decides = rw (decimal_contd, none_yet) }

module _ {s : List ℕ} {at v i : ℕ} (r : Reached s at v i) where
  -- the field ends here
  stops : before space (drop i s) ≡ [] → field_at s at ≡ finished_as at i v
  unfolding go_on finished_as
  stops e = r.decides ∙ by (eqb at i) refl
    where
      by : (t : Bool) → eqb at i ≡ t → field_as (contd (i - at) v (before space (drop i s))) (i + length (before space (drop i s))) ≡ cond t None (Some (record { value = v; end = i }))
      by true t = let z : i - at ≡ 0 = omega (arith, eqb-true at i t) in rw (e, z, nothing_yet v)
      by false t =
          let n : at < i = omega (arith, r.low, eqb-false at i t) in
          rw (e, whole (i - at) v (omega arith) (omega (arith, r.few)), add-zero)

  pub ends_there : i ≡ length s → field_at s at ≡ finished_as at i v
  ends_there e = stops (found_nowhere space s i e)

  pub ends_at_space : i < length s → get_or s i 0 ≡ space → field_at s at ≡ finished_as at i v
  ends_at_space here e = stops (found_here space s i here e)

-- and the byte at i belongs to the field
module _ {s : List ℕ} {at v i : ℕ} (r : Reached s at v i) (here : i < length s) (other : get_or s i 0 ≡ space → ⊥) where
  abbrev rest : List ℕ
  rest = before space (drop (i + 1) s)

  the_rest : before space (drop i s) ≡ get_or s i 0 ∷ rest
  the_rest = found_later space s i here other

  -- what no decimal has there
  refused : contd (i - at) v (get_or s i 0 ∷ rest) ≡ None → field_at s at ≡ None
  unfolding go_on
  refused h = r.decides ∙ rw (the_rest, h)

  pub refused_other : (48 ≤ get_or s i 0 → get_or s i 0 ≤ 57 → ⊥) → field_at s at ≡ None
  refused_other h = refused (no_digit (i - at) v (get_or s i 0) rest h)

  pub refused_sixth : i - at ≡ 5 → field_at s at ≡ None
  refused_sixth h = refused (too_long (i - at) v (get_or s i 0) rest h)

  pub refused_zero : at < i → v ≡ 0 → field_at s at ≡ None
  refused_zero h e = refused (after_zero (i - at) v (get_or s i 0) rest (omega arith) e)

  -- one digit further
  pub reached_next : 48 ≤ get_or s i 0 → get_or s i 0 ≤ 57 → (i - at ≡ 5 → ⊥) → ((at < i) × (v ≡ 0 → ⊥)) ⊎ (i ≤ at) → {d : ℕ} → d ≡ get_or s i 0 - 48 → Reached s at (v * 10 + d) (i + 1)
  unfolding go_on
  reached_next a c n z is =
      rw is
      (let more : (i + 1) - at ≡ suc (i - at) = omega (arith, r.low) in
      let is_digit : digit (get_or s i 0) ≡ true = and_both (le-leb 48 (get_or s i 0) a) (le-leb (get_or s i 0) 57 c) in
      record {
        low = omega (arith, r.low);
        high = omega (arith, here);
        few = omega (arith, r.low, r.few, n);
        none_made = λ e. absurd (omega (arith, r.low));
        small = rw more (grows (i - at) v (get_or s i 0 - 48) r.small (omega arith));
        decides =
            r.decides
            ∙ rw (the_rest, next (i - at) v (get_or s i 0) rest (λ x. r.none_made (omega (arith, r.low))) is_digit (λ l e. ⊎_elim (λ p. p.1 e) (λ q. omega arith) z), more, add-one, add-suc, suc-add);
      })

pub ruleset reading = (reached_first, ends_there, ends_at_space, refused_other, refused_sixth, refused_zero, reached_next)
