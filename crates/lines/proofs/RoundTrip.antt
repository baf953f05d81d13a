-- Document 01's lines and their events, both ways: an event with numbers of up to five digits, written as a line, reads back as that event;
-- and a line that reads as an event is the line which that event is written as. So no other bytes are an event.
use mathlib.Core.Path.{◌≡◌, refl, sym, ap, subst, ◌∙◌}
use mathlib.Core.Bool.{Bool, true, false, cond}
use mathlib.Core.List.{List, [], ◌∷◌, ◌++◌, append-nil}
use Rattle.std.specs.Prelude.{Option, None, Some}
use Prim.Native.Nat.{ℕ, suc, ◌*◌, ◌≤◌, ◌<◌}
use native.Mathlib.Omega.{arith}
use lib.Dec.{leb, eqb}
use lib.ListN.{length, length-append}
use borrow.Author.Tests.{le-leb, leb-true, eqb-true, eqb-false, ne_eqb}
use Rattle.laws.specs.Lists.{all}
use Rattle.laws.proofs.Tests.{and_left, and_right}
use Rattle.rows.specs.declared.Terms.{Terms}
use Rattle.rows.specs.Numbers.{default_length}
use Rattle.head.specs.declared.Event.{Event}
use Rattle.head.specs.declared.Event.TheVariants.{Fresh, Join, Leave, Reweight, Length, Grant, Return}
use Rattle.std.proofs.lemmas.Option.{none-some}
use Rattle.lines.specs.Cut.{space, part, cut_at, before, fields_of}
use Rattle.lines.specs.Decimal.{digit, decimal, digits}
use Rattle.lines.specs.Grammar.{letter_s, letter_j, letter_l, letter_w, letter_r, letter_g, letter_u, return_of, fresh_of, event_of, both, numbers, event_if, event_named, event_in, read_line, spaced, mark, line_of, Small, Written, FreshAs, in_full, of_rule, of_limit, WrittenAs}
use Rattle.lines.proofs.Cutting.{Unmarked, cut_unmarked, cut_first}
use Rattle.lines.proofs.Decimals.{digit_low}
use Rattle.lines.proofs.Decimal.{all_digits, few_digits, decimal_digits, decimal_only}

-- no digit is a space
digits_clear : (f : List ℕ) → all digit f ≡ true → Unmarked space f
unfolding before
digits_clear [] h = refl
digits_clear (b ∷ f) h =
    let low : 48 ≤ b = digit_low b (and_left (digit b) (all digit f) h) in
    rw (ne_eqb b space (λ e. omega arith)) (ap suc (digits_clear f (and_right (digit b) (all digit f) h)))

cut_clear : (f r : List ℕ) (fs : List (List ℕ)) → Unmarked space f → fields_of r ≡ [] ∷ fs → fields_of (f ++ r) ≡ f ∷ fs
cut_clear [] r fs u e = e
cut_clear (b ∷ f) r fs u e = cut_unmarked space ([] ∷ []) b f r u ∙ rw (e, append-nil)

abbrev written : List ℕ → List (List ℕ)
written [] = []
written (n ∷ ns) = digits n ∷ written ns

cut_spaced : (f : List ℕ) (ns : List ℕ) → Unmarked space f → fields_of (f ++ spaced ns) ≡ f ∷ written ns
unfolding cut_at
cut_spaced f [] h = cut_clear f [] [] h refl
cut_spaced f (n ∷ ns) h = cut_clear f (spaced (n ∷ ns)) (written (n ∷ ns)) h (rw (cut_spaced (digits n) ns (digits_clear (digits n) (all_digits 19 n))))

abbrev AllSmall : List ℕ → Type 0
AllSmall [] = Unit {0}
AllSmall (n ∷ ns) = Small n × AllSmall ns

three_small : {a b c : ℕ} → AllSmall (a ∷ b ∷ c ∷ []) → Small a × Small b × Small c
three_small s = (s.0, s.1.0, s.1.1.0)

small_three : {a b c : ℕ} → Small a × Small b × Small c → AllSmall (a ∷ b ∷ c ∷ [])
small_three h = (h.0, (h.1, (h.2, tt)))

numbers_written : (ns : List ℕ) → AllSmall ns → numbers (written ns) ≡ Some ns
unfolding numbers
numbers_written [] h = refl
numbers_written (n ∷ ns) h = rw (decimal_digits n h.0, numbers_written ns h.1)

spaced_length : (ns : List ℕ) → AllSmall ns → length (spaced ns) ≤ 6 * length ns
spaced_length [] h = omega arith
spaced_length (n ∷ ns) h = omega (arith, length-append (digits n) (spaced ns), few_digits n h.0, spaced_length ns h.1)

reads : (k : ℕ) (ns : List ℕ) → Unmarked space (k ∷ []) → AllSmall ns → length ns ≤ 3 → read_line (k ∷ spaced ns) ≡ event_of k ns
unfolding read_line event_in event_named event_if
reads k ns c h l =
    let short : length (k ∷ spaced ns) ≤ 40 = omega (arith, spaced_length ns h) in
    rw (le-leb (length (k ∷ spaced ns)) 40 short, cut_spaced (k ∷ []) ns c, numbers_written ns h)

written_back : (e : Event) → Written e → read_line (line_of e) ≡ Some e
unfolding line_of Written event_of before
written_back (Fresh terms) h = reads letter_s (terms.limit ∷ terms.rule ∷ terms.default ∷ []) refl (small_three h) (omega arith)
written_back (Join queue weight length) h = reads letter_j (queue ∷ weight ∷ length ∷ []) refl (small_three h) (omega arith)
written_back (Leave queue) h = reads letter_l (queue ∷ []) refl (h, tt) (omega arith)
written_back (Reweight queue weight length) h = reads letter_w (queue ∷ weight ∷ length ∷ []) refl (small_three h) (omega arith)
written_back (Length queue length) h = reads letter_r (queue ∷ length ∷ []) refl (h.0, (h.1, tt)) (omega arith)
written_back Grant h = reads letter_g [] refl tt (omega arith)
written_back (Return queue used false) h = reads letter_u (queue ∷ used ∷ 0 ∷ []) refl (h.0, (h.1, (omega arith, tt))) (omega arith)
written_back (Return queue used true) h = reads letter_u (queue ∷ used ∷ 1 ∷ []) refl (h.0, (h.1, (omega arith, tt))) (omega arith)

-- a fresh table said by fewer numbers
fresh_back : (terms : Terms) (l : List ℕ) → Written (Fresh terms) → FreshAs terms l → read_line l ≡ Some (Fresh terms)
unfolding event_of before Written
fresh_back terms l h (in_full is) = rw is (written_back (Fresh terms) h)
fresh_back terms l h (of_rule default is) =
    rw is
    (reads letter_s (terms.limit ∷ terms.rule ∷ []) refl (h.0, (h.1, tt)) (omega arith) ∙ ap (fresh_of terms.limit terms.rule) (sym default))
fresh_back terms l h (of_limit default rule is) =
    rw is
    (reads letter_s (terms.limit ∷ []) refl (h.0, tt) (omega arith) ∙ ap (λ (n : ℕ). fresh_of terms.limit n default_length) (sym rule)
    ∙ ap (fresh_of terms.limit terms.rule) (sym default))

-- every line that says an event reads back as it
pub reads_back : (e : Event) (l : List ℕ) → Written e → WrittenAs e l → read_line l ≡ Some e
unfolding Written
reads_back (Fresh terms) l h is = fresh_back terms l h is
reads_back (Join queue weight length) l h is = rw is (written_back (Join queue weight length) h)
reads_back (Leave queue) l h is = rw is (written_back (Leave queue) h)
reads_back (Reweight queue weight length) l h is = rw is (written_back (Reweight queue weight length) h)
reads_back (Length queue length) l h is = rw is (written_back (Length queue length) h)
reads_back Grant l h is = rw is (written_back Grant h)
reads_back (Return queue used early) l h is = rw is (written_back (Return queue used early) h)

-- fields put together again make the line
abbrev joined : List (List ℕ) → List ℕ
joined [] = []
joined (f ∷ fs) = space ∷ (f ++ joined fs)

abbrev whole : List (List ℕ) → List ℕ
whole [] = []
whole (f ∷ fs) = f ++ joined fs

whole_cut : (l : List ℕ) → whole (fields_of l) ≡ l
unfolding cut_at
whole_cut [] = refl
whole_cut (b ∷ l) = let p = cut_first space l in rw p.1 (by (eqb b space) refl (rw p.1 at (whole_cut l)))
  where
    by : (t : Bool) → eqb b space ≡ t → whole (before space l ∷ (cut_first space l).0) ≡ l → whole (part t b (before space l ∷ (cut_first space l).0)) ≡ b ∷ l
    by true e ih = rw (ih, eqb-true b space e)
    by false e ih = rw ih

numbers_only : (fs : List (List ℕ)) (ns : List ℕ) → numbers fs ≡ Some ns → (joined fs ≡ spaced ns) × AllSmall ns
unfolding numbers
numbers_only [] ns h = by ns h
  where
    by : (ns : List ℕ) → Some [] ≡ Some ns → (◌≡◌ {A = List ℕ} [] (spaced ns)) × AllSmall ns
    by [] e = (refl, tt)
    by (n ∷ ns) e = cc
numbers_only (f ∷ fs) ns h = by (decimal f) refl (numbers fs) (numbers_only fs) refl ns h
  where
    by : (o : Option ℕ) → decimal f ≡ o → (q : Option (List ℕ)) → ((ms : List ℕ) → numbers fs ≡ Some ms → (joined fs ≡ spaced ms) × AllSmall ms) → numbers fs ≡ q
        → (ns : List ℕ) → both o q ≡ Some ns → (space ∷ (f ++ joined fs) ≡ spaced ns) × AllSmall ns
    by None d q ih e ns h = cc
    by (Some v) d None ih e ns h = cc
    by (Some v) d (Some ms) ih e [] h = cc
    by (Some v) d (Some ms) ih e (n ∷ ns) h =
        let same : v ≡ n = cc in
        let rest : ms ≡ ns = cc in
        let small : v < 100000 = (decimal_only f v d).1 in
        (rw (← same, ← rest, (decimal_only f v d).0, (ih ms e).0), (rw same at small, rw rest at (ih ms e).1))

-- a letter and its numbers make an event only as the grammar lists them
abbrev Is : ℕ → List ℕ → Event → Type 0
Is k ns e = WrittenAs e (k ∷ spaced ns) × Written e

marked : (c : ℕ) → c ≤ 1 → mark (eqb c 1) ≡ c
marked c h = by (eqb c 1) refl
  where
    by : (t : Bool) → eqb c 1 ≡ t → mark t ≡ c
    by true e = sym (eqb-true c 1 e)
    by false e = omega (arith, eqb-false c 1 e)

event_only : (k : ℕ) (ns : List ℕ) (e : Event) → AllSmall ns → event_of k ns ≡ Some e → Is k ns e
unfolding event_of line_of Written
event_only k [] e s h = grant (eqb k letter_g) refl h
  where
    grant : (t : Bool) → eqb k letter_g ≡ t → cond t (Some Grant) None ≡ Some e → Is k [] e
    grant true t h = let x : Grant ≡ e = cc in rw (← x, eqb-true k letter_g t) (refl, tt)
    grant false t h = absurd (none-some e h)
event_only k (a ∷ []) e s h = fresh (eqb k letter_s) refl h
  where
    leave : (t : Bool) → eqb k letter_l ≡ t → cond t (Some (Leave a)) None ≡ Some e → Is k (a ∷ []) e
    leave true t h = let x : Leave a ≡ e = cc in rw (← x, eqb-true k letter_l t) (refl, s.0)
    leave false t h = absurd (none-some e h)

    fresh : (t : Bool) → eqb k letter_s ≡ t → cond t (fresh_of a 1 default_length) (cond (eqb k letter_l) (Some (Leave a)) None) ≡ Some e → Is k (a ∷ []) e
    fresh true t h = let x : Fresh (record { limit = a; rule = 1; default = default_length }) ≡ e = cc in rw (← x, eqb-true k letter_s t) (of_limit refl refl refl, (s.0, omega arith, omega arith))
    fresh false t h = leave (eqb k letter_l) refl h
event_only k (a ∷ b ∷ []) e s h = fresh (eqb k letter_s) refl h
  where
    size : (t : Bool) → eqb k letter_r ≡ t → cond t (Some (Length a b)) None ≡ Some e → Is k (a ∷ b ∷ []) e
    size true t h = let x : Length a b ≡ e = cc in rw (← x, eqb-true k letter_r t) (refl, (s.0, s.1.0))
    size false t h = absurd (none-some e h)

    fresh : (t : Bool) → eqb k letter_s ≡ t → cond t (fresh_of a b default_length) (cond (eqb k letter_r) (Some (Length a b)) None) ≡ Some e → Is k (a ∷ b ∷ []) e
    fresh true t h = let x : Fresh (record { limit = a; rule = b; default = default_length }) ≡ e = cc in rw (← x, eqb-true k letter_s t) (of_rule refl refl, (s.0, s.1.0, omega arith))
    fresh false t h = size (eqb k letter_r) refl h
event_only k (a ∷ b ∷ c ∷ []) e s h = join (eqb k letter_j) refl h
  where
    early : (t : Bool) → leb c 1 ≡ t → k ≡ letter_u → cond t (Some (Return a b (eqb c 1))) None ≡ Some e → Is k (a ∷ b ∷ c ∷ []) e
    early true t u h = let x : Return a b (eqb c 1) ≡ e = cc in rw (← x, u, marked c (leb-true c 1 t)) (refl, (s.0, s.1.0))
    early false t u h = absurd (none-some e h)

    fresh : (t : Bool) → eqb k letter_s ≡ t → cond t (fresh_of a b c) None ≡ Some e → Is k (a ∷ b ∷ c ∷ []) e
    fresh true t h = let x : Fresh (record { limit = a; rule = b; default = c }) ≡ e = cc in rw (← x, eqb-true k letter_s t) (in_full refl, three_small s)
    fresh false t h = absurd (none-some e h)

    returning : (t : Bool) → eqb k letter_u ≡ t → cond t (return_of a b c) (cond (eqb k letter_s) (fresh_of a b c) None) ≡ Some e → Is k (a ∷ b ∷ c ∷ []) e
    returning true t h = early (leb c 1) refl (eqb-true k letter_u t) h
    returning false t h = fresh (eqb k letter_s) refl h

    reweight : (t : Bool) → eqb k letter_w ≡ t → cond t (Some (Reweight a b c)) (cond (eqb k letter_u) (return_of a b c) (cond (eqb k letter_s) (fresh_of a b c) None)) ≡ Some e → Is k (a ∷ b ∷ c ∷ []) e
    reweight true t h = let x : Reweight a b c ≡ e = cc in rw (← x, eqb-true k letter_w t) (refl, three_small s)
    reweight false t h = returning (eqb k letter_u) refl h

    join : (t : Bool) → eqb k letter_j ≡ t → cond t (Some (Join a b c)) (cond (eqb k letter_w) (Some (Reweight a b c)) (cond (eqb k letter_u) (return_of a b c) (cond (eqb k letter_s) (fresh_of a b c) None))) ≡ Some e
        → Is k (a ∷ b ∷ c ∷ []) e
    join true t h = let x : Join a b c ≡ e = cc in rw (← x, eqb-true k letter_j t) (refl, three_small s)
    join false t h = reweight (eqb k letter_w) refl h
event_only k (a ∷ b ∷ c ∷ d ∷ ns) e s h = absurd (none-some e h)

named_only : (name : List ℕ) (fs : List (List ℕ)) (e : Event) → event_named name (numbers fs) ≡ Some e → WrittenAs e (name ++ joined fs) × Written e
unfolding event_named event_if
named_only [] fs e h = absurd (none-some e h)
named_only (k ∷ []) fs e h = by (numbers fs) refl h
  where
    by : (o : Option (List ℕ)) → numbers fs ≡ o → event_if k o ≡ Some e → WrittenAs e (k ∷ joined fs) × Written e
    by None n h = absurd (none-some e h)
    by (Some ns) n h = let p = numbers_only fs ns n in rw p.0 (event_only k ns e p.1 h)
named_only (k ∷ j ∷ name) fs e h = absurd (none-some e h)

fields_only : (fs : List (List ℕ)) (e : Event) → event_in fs ≡ Some e → WrittenAs e (whole fs) × Written e
unfolding event_in
fields_only [] e h = absurd (none-some e h)
fields_only (name ∷ fs) e h = named_only name fs e h

pub only_lines : (l : List ℕ) (e : Event) → read_line l ≡ Some e → WrittenAs e l × Written e
unfolding read_line
only_lines l e h = by (leb (length l) 40) h
  where
    by : (t : Bool) → cond t (event_in (fields_of l)) None ≡ Some e → WrittenAs e l × Written e
    by true h = subst (λ (x : List ℕ). WrittenAs e x × Written e) (whole_cut l) (fields_only (fields_of l) e h)
    by false h = absurd (none-some e h)

-- no line of an event is longer than 40 bytes: the longest that reads at all has 19
pub lines_short : (e : Event) → Written e → length (line_of e) ≤ 19
unfolding line_of Written
lines_short (Fresh terms) h = omega (arith, spaced_length (terms.limit ∷ terms.rule ∷ terms.default ∷ []) (small_three h))
lines_short (Join queue weight size) h = omega (arith, spaced_length (queue ∷ weight ∷ size ∷ []) (small_three h))
lines_short (Leave queue) h = omega (arith, spaced_length (queue ∷ []) (h, tt))
lines_short (Reweight queue weight size) h = omega (arith, spaced_length (queue ∷ weight ∷ size ∷ []) (small_three h))
lines_short (Length queue size) h = omega (arith, spaced_length (queue ∷ size ∷ []) (h.0, (h.1, tt)))
lines_short Grant h = omega arith
lines_short (Return queue used false) h = omega (arith, spaced_length (queue ∷ used ∷ 0 ∷ []) (h.0, (h.1, (omega arith, tt))))
lines_short (Return queue used true) h = omega (arith, spaced_length (queue ∷ used ∷ 1 ∷ []) (h.0, (h.1, (omega arith, tt))))
