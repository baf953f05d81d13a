-- A line taken field by field from the left: what each field that the reader finds says of the whole line.
use mathlib.Core.Path.{◌≡◌, refl, sym, ap, ◌∙◌}
use mathlib.Core.Bool.{Bool, true, false}
use mathlib.Core.List.{List, [], ◌∷◌, append-nil}
use Rattle.std.specs.Prelude.{Option, None, Some}
use Prim.Native.Nat.{ℕ, suc, ◌+◌, ◌≤◌, ◌<◌}
use native.Mathlib.Omega.{arith}
use lib.Dec.{eqb}
use lib.ListN.{length, drop, get_or, length-drop}
use lib.Seq.{drop-drop}
use borrow.Author.Tests.{le-leb, lt-leb, eqb-true, eq-eqb, ne_eqb}
use Rattle.std.proofs.lemmas.Option.{none-some}
use Rattle.lines.specs.declared.reading.Field.{Field}
use Rattle.lines.specs.Cut.{space, part, cut_at, before, fields_of}
use Rattle.lines.specs.Decimal.{decimal}
use Rattle.lines.specs.Grammar.{event_of, both, numbers, event_if, event_named, event_in, read_line}
use Rattle.lines.specs.Reading.{field_as, field_at}
use Rattle.lines.proofs.Cutting.{before_length, cut_more, cut_last, cut_first}

-- no line begins with a space
blank_none : (ns : Option (List ℕ)) → event_if space ns ≡ None
unfolding event_if event_of
blank_none None = refl
blank_none (Some []) = refl
blank_none (Some (a ∷ [])) = refl
blank_none (Some (a ∷ b ∷ [])) = refl
blank_none (Some (a ∷ b ∷ c ∷ [])) = refl
blank_none (Some (a ∷ b ∷ c ∷ d ∷ ns)) = refl

pub overlong : (s : List ℕ) → 40 < length s → read_line s ≡ None
unfolding read_line
overlong s h = rw (lt-leb (length s) 40 h)

within : (s : List ℕ) → length s ≤ 40 → read_line s ≡ event_in (fields_of s)
unfolding read_line
within s h = rw (le-leb (length s) 40 h)

pub empty_line : (s : List ℕ) → length s ≡ 0 → read_line s ≡ None
unfolding read_line event_in event_named cut_at
empty_line [] h = refl
empty_line (b ∷ s) h = absurd (omega arith)

pub one_byte : (s : List ℕ) → length s ≡ 1 → read_line s ≡ event_of (get_or s 0 0) []
unfolding event_in event_named event_if cut_at numbers
one_byte [] h = absurd (omega arith)
one_byte (b ∷ []) h = within (b ∷ []) (omega arith) ∙ by (eqb b space) refl
  where
    by : (t : Bool) → eqb b space ≡ t → event_in (part t b ([] ∷ [])) ≡ event_of b []
    by true e = rw (eqb-true b space e) (sym (blank_none (Some [])))
    by false e = refl
one_byte (b ∷ x ∷ s) h = absurd (omega arith)

pub long_name : (s : List ℕ) → length s ≤ 40 → 2 ≤ length s → (get_or s 1 0 ≡ space → ⊥) → read_line s ≡ None
unfolding event_in event_named cut_at
long_name [] k h n = absurd (omega arith)
long_name (b ∷ []) k h n = absurd (omega arith)
long_name (b ∷ x ∷ s) k h n = within (b ∷ x ∷ s) k ∙ rw (ne_eqb x space n) (by (eqb b space) (cut_at space ([] ∷ []) s))
  where
    by : (t : Bool) (ps : List (List ℕ)) → event_in (part t b (part false x ps)) ≡ None
    by true [] = refl
    by true (p ∷ ps) = refl
    by false [] = refl
    by false (p ∷ ps) = refl

-- a line whose first field is one letter, with more to come
opened : (s : List ℕ) → length s ≤ 40 → 2 ≤ length s → get_or s 1 0 ≡ space → read_line s ≡ event_if (get_or s 0 0) (numbers (fields_of (drop 2 s)))
unfolding event_in event_named cut_at
opened s short two gap = within s short ∙ by s two gap
  where
    by : (l : List ℕ) → 2 ≤ length l → get_or l 1 0 ≡ space → event_in (fields_of l) ≡ event_if (get_or l 0 0) (numbers (fields_of (drop 2 l)))
    by [] h e = absurd (omega arith)
    by (b ∷ []) h e = absurd (omega arith)
    by (b ∷ x ∷ l) h e = rw (eq-eqb x space e) (first (eqb b space) refl)
      where
        first : (t : Bool) → eqb b space ≡ t → event_in (part t b ([] ∷ cut_at space ([] ∷ []) l)) ≡ event_if b (numbers (cut_at space ([] ∷ []) l))
        first true e = rw (eqb-true b space e) (sym (blank_none (numbers (cut_at space ([] ∷ []) l))))
        first false e = refl

-- what a field found at a place says of its bytes
module _ (s : List ℕ) (at : ℕ) where
  abbrev here : List ℕ
  here = before space (drop at s)

  found : {f : Field} → field_at s at ≡ Some f → (decimal here ≡ Some f.value) × (at + length here ≡ f.end)
  unfolding field_at
  found {f} h = by (decimal here) h
    where
      by : (o : Option ℕ) → field_as o (at + length here) ≡ Some f → (o ≡ Some f.value) × (at + length here ≡ f.end)
      by None h = absurd (none-some f h)
      by (Some w) h = (cc, cc)

  missing : field_at s at ≡ None → decimal here ≡ None
  unfolding field_at
  missing h = by (decimal here) h
    where
      by : (o : Option ℕ) → field_as o (at + length here) ≡ None → o ≡ None
      by None h = refl
      by (Some w) h = cc

  module _ (h : at ≤ length s) {f : Field} (is : field_at s at ≡ Some f) where
    pub ends_within : f.end ≤ length s
    ends_within = omega (arith, (found is).1, before_length space (drop at s), length-drop at s)

    pub field_last : f.end ≡ length s → numbers (fields_of (drop at s)) ≡ Some (f.value ∷ [])
    unfolding numbers
    field_last l =
        let whole : length here ≡ length (drop at s) = omega (arith, (found is).1, length-drop at s) in
        rw (cut_last space (drop at s) whole, (found is).0)

    pub field_more : f.end < length s → numbers (fields_of (drop at s)) ≡ both (Some f.value) (numbers (fields_of (drop (f.end + 1) s)))
    unfolding numbers
    field_more l =
        let inner : length here < length (drop at s) = omega (arith, (found is).1, length-drop at s) in
        let next : at + suc (length here) ≡ f.end + 1 = omega (arith, (found is).1) in
        let cut : fields_of (drop at s) ≡ here ∷ fields_of (drop (f.end + 1) s) =
        sym (ap fields_of (append-nil (drop at s))) ∙ cut_more space ([] ∷ []) (drop at s) [] inner
        ∙ rw (append-nil, drop-drop, next) in
        rw (cut, (found is).0)

  pub field_none : field_at s at ≡ None → numbers (fields_of (drop at s)) ≡ None
  unfolding numbers
  field_none f = let p = cut_first space (drop at s) in rw (p.1, missing f)

-- three numbers and more to come
pub too_many : (k a b c : ℕ) (l : List ℕ) → event_if k (both (Some a) (both (Some b) (both (Some c) (numbers (fields_of l))))) ≡ None
unfolding numbers event_if event_of
too_many k a b c l = let p = cut_first space l in rw p.1 (by (decimal (before space l)) (numbers p.0))
  where
    by : (o : Option ℕ) (ns : Option (List ℕ)) → event_if k (both (Some a) (both (Some b) (both (Some c) (both o ns)))) ≡ None
    by None ns = refl
    by (Some d) None = refl
    by (Some d) (Some ns) = refl

-- the line by the fields found in it: what each of them says of the whole, with more to come after it or none
module _ (s : List ℕ) (short : length s ≤ 40) (two : 2 ≤ length s) (gap : get_or s 1 0 ≡ space) where
  pub no_first : field_at s 2 ≡ None → read_line s ≡ None
  unfolding event_if
  no_first f = rw (opened s short two gap, field_none s 2 f)

  module _ {a : Field} (first : field_at s 2 ≡ Some a) where
    a_within : a.end ≤ length s
    a_within = ends_within s 2 two first

    pub one_number : a.end ≡ length s → {k : ℕ} → k ≡ get_or s 0 0 → read_line s ≡ event_of k (a.value ∷ [])
    unfolding event_if
    one_number e is = rw (is, opened s short two gap, field_last s 2 two first e)

    module _ (more : a.end ≡ length s → ⊥) where
      after_one : read_line s ≡ event_if (get_or s 0 0) (both (Some a.value) (numbers (fields_of (drop (a.end + 1) s))))
      after_one = rw (opened s short two gap, field_more s 2 two first (omega (arith, a_within, more)))

      pub second_starts : a.end + 1 ≤ length s
      second_starts = omega (arith, a_within, more)

      pub no_second : field_at s (a.end + 1) ≡ None → read_line s ≡ None
      unfolding event_if
      no_second f = rw (after_one, field_none s (a.end + 1) f)

      module _ {b : Field} (second : field_at s (a.end + 1) ≡ Some b) where
        b_within : b.end ≤ length s
        b_within = ends_within s (a.end + 1) second_starts second

        pub two_numbers : b.end ≡ length s → {k : ℕ} → k ≡ get_or s 0 0 → read_line s ≡ event_of k (a.value ∷ b.value ∷ [])
        unfolding event_if
        two_numbers e is = rw (is, after_one, field_last s (a.end + 1) second_starts second e)

        module _ (goes_on : b.end ≡ length s → ⊥) where
          after_two : read_line s ≡ event_if (get_or s 0 0) (both (Some a.value) (both (Some b.value) (numbers (fields_of (drop (b.end + 1) s)))))
          after_two = rw (after_one, field_more s (a.end + 1) second_starts second (omega (arith, b_within, goes_on)))

          pub third_starts : b.end + 1 ≤ length s
          third_starts = omega (arith, b_within, goes_on)

          pub no_third : field_at s (b.end + 1) ≡ None → read_line s ≡ None
          unfolding event_if
          no_third f = rw (after_two, field_none s (b.end + 1) f)

          module _ {c : Field} (third : field_at s (b.end + 1) ≡ Some c) where
            pub three_numbers : c.end ≡ length s → {k : ℕ} → k ≡ get_or s 0 0 → read_line s ≡ event_of k (a.value ∷ b.value ∷ c.value ∷ [])
            unfolding event_if
            three_numbers e is = rw (is, after_two, field_last s (b.end + 1) third_starts third e)

            pub four_fields : (c.end ≡ length s → ⊥) → read_line s ≡ None
            four_fields n =
                let inside : c.end ≤ length s = ends_within s (b.end + 1) third_starts third in
                rw (after_two, field_more s (b.end + 1) third_starts third (omega arith)) (too_many (get_or s 0 0) a.value b.value c.value (drop (c.end + 1) s))

pub ruleset stages = (overlong, empty_line, one_byte, long_name, no_first, one_number, second_starts, no_second, two_numbers, third_starts, no_third, three_numbers, four_fields)
