-- Where bytes are cut: up to the first mark stands the first part, and what follows the mark is cut by itself.
use mathlib.Core.Path.{◌≡◌, refl, sym, ap, ◌∙◌}
use mathlib.Core.Bool.{Bool, true, false, cond, not}
use mathlib.Core.List.{List, [], ◌∷◌, ◌++◌, append-nil}
use mathlib.Core.Logic.{⊎_elim}
use Prim.Native.Nat.{ℕ, suc, ◌+◌, ◌≤◌, ◌<◌}
use native.Mathlib.Nat.{le_of_suc-le-suc}
use native.Mathlib.Numerals.{add-one}
use native.Mathlib.Omega.{arith}
use lib.Dec.{eqb, ltb}
use lib.ListN.{length, take, drop, get_or}
use lib.Seq.{drop-cons, drop-length, take-length}
use borrow.Author.Tests.{eq-eqb, ne_eqb, ltb-true, ltb-false}
use Rattle.std.specs.Prelude.{Option, None, Some, MatchOption}
use Rattle.std.specs.List.{position_or_len}
use Rattle.laws.proofs.Tests.{either}
use Rattle.lines.specs.Cut.{part, cut_at, next_before, before}

-- no mark stands in these bytes
abbrev pub Unmarked : ℕ → List ℕ → Type 0
Unmarked m l = length (before m l) ≡ length l

-- bytes with no mark stand in front of the first part of what follows
abbrev pub prepend : List ℕ → List (List ℕ) → List (List ℕ)
prepend p [] = p ∷ []
prepend p (l ∷ ls) = (p ++ l) ∷ ls

one_more : (b : ℕ) (p : List ℕ) (ls : List (List ℕ)) → part false b (prepend p ls) ≡ prepend (b ∷ p) ls
one_more b p [] = refl
one_more b p (l ∷ ls) = refl

lone : (b : ℕ) (ls : List (List ℕ)) → part false b ls ≡ prepend (b ∷ []) ls
lone b [] = refl
lone b (l ∷ ls) = refl

module _ (m : ℕ) where
  -- no more bytes stand before the mark than there are
  pub before_length : (l : List ℕ) → length (before m l) ≤ length l
  unfolding before
  before_length [] = omega arith
  before_length (b ∷ bs) =
      ⊎_elim (λ e. rw e (omega arith)) (λ e. rw e (let h : length (before m bs) ≤ length bs = before_length bs in omega arith)) (either (eqb b m))

  -- the first mark is where a search finds it
  pub before_position : (l : List ℕ) → length (before m l) ≡ position_or_len (λ b. eqb b m) l
  unfolding before
  before_position [] = refl
  before_position (b ∷ bs) = by (eqb b m) (before_position bs)
    where
      by : (t : Bool) → length (before m bs) ≡ position_or_len (λ x. eqb x m) bs → length (next_before t b (before m bs)) ≡ cond (not t) (1 + position_or_len (λ x. eqb x m) bs) 0
      by true ih = refl
      by false ih = omega (arith, ih)

  pub found_before : (l : List ℕ) {r : Option ℕ} → r ≡ cond (ltb (position_or_len (λ b. eqb b m) l) (length l)) (Some (position_or_len (λ b. eqb b m) l)) None
      → MatchOption r (Unmarked m l) (λ n. (n ≡ length (before m l)) × (n < length l))
  found_before l e = rw (e, ← before_position) (by (ltb (length (before m l)) (length l)) refl)
    where
      by : (t : Bool) → ltb (length (before m l)) (length l) ≡ t → MatchOption (cond t (Some (length (before m l))) None) (Unmarked m l) (λ n. (n ≡ length (before m l)) × (n < length l))
      by true t = (refl, ltb-true (length (before m l)) (length l) t)
      by false t = omega (arith, before_length l, ltb-false (length (before m l)) (length l) t)

  pub unmarked_tail : (b : ℕ) (p : List ℕ) → Unmarked m (b ∷ p) → (eqb b m ≡ false) × Unmarked m p
  unfolding before
  unmarked_tail b p u = by (eqb b m) u
    where
      by : (t : Bool) → length (next_before t b (before m p)) ≡ suc (length p) → (t ≡ false) × Unmarked m p
      by true u = absurd (omega arith)
      by false u = (refl, omega arith)

  pub before_take : (l : List ℕ) → take (length (before m l)) l ≡ before m l
  unfolding before
  before_take [] = refl
  before_take (b ∷ bs) = by (eqb b m) (before_take bs)
    where
      by : (t : Bool) → take (length (before m bs)) bs ≡ before m bs → take (length (next_before t b (before m bs))) (b ∷ bs) ≡ next_before t b (before m bs)
      by true ih = refl
      by false ih = rw ih

  module _ (end : List (List ℕ)) where
    pub cut_unmarked : (b : ℕ) (p r : List ℕ) → Unmarked m (b ∷ p) → cut_at m end ((b ∷ p) ++ r) ≡ prepend (b ∷ p) (cut_at m end r)
    unfolding cut_at
    cut_unmarked b [] r u = rw (unmarked_tail b [] u).0 (lone b (cut_at m end r))
    cut_unmarked b (c ∷ p) r u =
        let v = unmarked_tail b (c ∷ p) u in
        rw (v.0, cut_unmarked c p r v.1) (one_more b (c ∷ p) (cut_at m end r))

    -- bytes with no mark are one part
    pub cut_whole : (b : ℕ) (p : List ℕ) → Unmarked m (b ∷ p) → cut_at m end (b ∷ p) ≡ prepend (b ∷ p) end
    unfolding cut_at
    cut_whole b p u = sym (ap (cut_at m end) (append-nil (b ∷ p))) ∙ cut_unmarked b p [] u

    -- the first part of what has a mark, whatever comes after it
    pub cut_more : (l r : List ℕ) → length (before m l) < length l → cut_at m end (l ++ r) ≡ before m l ∷ cut_at m end (drop (suc (length (before m l))) l ++ r)
    unfolding before cut_at
    cut_more [] r h = absurd (omega arith)
    cut_more (b ∷ bs) r h = by (eqb b m) (cut_more bs r) h
      where
        by : (t : Bool) → (length (before m bs) < length bs → cut_at m end (bs ++ r) ≡ before m bs ∷ cut_at m end (drop (suc (length (before m bs))) bs ++ r))
            → length (next_before t b (before m bs)) < length (b ∷ bs)
            → part t b (cut_at m end (bs ++ r)) ≡ next_before t b (before m bs) ∷ cut_at m end (drop (length (next_before t b (before m bs))) bs ++ r)
        by true ih h = refl
        by false ih h = rw (ih (le_of_suc-le-suc h))

  pub cut_last : (l : List ℕ) → Unmarked m l → cut_at m ([] ∷ []) l ≡ before m l ∷ []
  unfolding before cut_at
  cut_last [] u = refl
  cut_last (b ∷ p) u =
      let all : before m (b ∷ p) ≡ b ∷ p = sym (before_take (b ∷ p)) ∙ rw u (take-length (b ∷ p)) in
      cut_whole ([] ∷ []) b p u ∙ rw (all, append-nil)

  pub cut_first : (l : List ℕ) → (ps : List (List ℕ)) × (cut_at m ([] ∷ []) l ≡ before m l ∷ ps)
  unfolding before cut_at
  cut_first [] = ([], refl)
  cut_first (b ∷ bs) = by (eqb b m) (cut_first bs)
    where
      by : (t : Bool) → ((ps : List (List ℕ)) × (cut_at m ([] ∷ []) bs ≡ before m bs ∷ ps))
          → (ps : List (List ℕ)) × (part t b (cut_at m ([] ∷ []) bs) ≡ next_before t b (before m bs) ∷ ps)
      by true ih = (cut_at m ([] ∷ []) bs, refl)
      by false ih = (ih.0, rw ih.1)

  -- a search for the mark, from place to place: a mark ends the part, and any other byte belongs to it
  module _ (s : List ℕ) (i : ℕ) where
    pub found_here : i < length s → get_or s i 0 ≡ m → before m (drop i s) ≡ []
    unfolding before
    found_here h e = rw (drop-cons s i 0 h, eq-eqb (get_or s i 0) m e)

    pub found_later : i < length s → (get_or s i 0 ≡ m → ⊥) → before m (drop i s) ≡ get_or s i 0 ∷ before m (drop (i + 1) s)
    unfolding before
    found_later h e = rw (drop-cons s i 0 h, ne_eqb (get_or s i 0) m e, add-one)

    pub found_nowhere : i ≡ length s → before m (drop i s) ≡ []
    unfolding before
    found_nowhere e = rw (e, drop-length)
