-- Input worked piece by piece prints what the whole input prints: a line taken from the front, an unfinished line closed by a newline at the
-- end of input, and an overlong one cut short all leave what is printed as it is.
use mathlib.Core.Path.{◌≡◌, refl, sym, ap, ◌∙◌}
use mathlib.Core.List.{List, [], ◌∷◌, ◌++◌, append-nil}
use mathlib.Core.Logic.{⊎_elim}
use Prim.Native.Nat.{ℕ, zero, suc, ◌≤◌, ◌<◌}
use native.Mathlib.Omega.{arith}
use lib.ListN.{length, take, drop, length-append, length-take}
use lib.Seq.{take_all}
use Rattle.laws.proofs.Tests.{le_or_lt}
use Rattle.std.specs.Prelude.{None}
use Rattle.share.specs.declared.Table.{Table}
use Rattle.lines.specs.Cut.{newline, cut_at, before, lines_of}
use Rattle.lines.specs.Grammar.{read_line}
use Rattle.lines.specs.Print.{printed, after, answers, prints_from}
use Rattle.lines.specs.Pieces.{Unfinished}
use Rattle.lines.proofs.Cutting.{prepend, unmarked_tail, cut_unmarked, cut_whole, cut_more}
use Rattle.lines.proofs.Fields.{overlong}

module _ (line : ℕ) (t : Table) where
  -- a whole line at the front is answered first
  pub first_line : (l r : List ℕ) → length (before newline l) < length l
      → prints_from line t (l ++ r)
      ≡ printed line t (read_line (before newline l)) ++ prints_from (suc line) (after t (read_line (before newline l))) (drop (suc (length (before newline l))) l ++ r)
  unfolding prints_from answers
  first_line l r h = rw (cut_more newline [] l r h)

-- "a last line without newline counts": at the end of input a newline closes it
pub closed : (line : ℕ) (t : Table) (l : List ℕ) → 0 < length l → Unfinished l → prints_from line t (l ++ (newline ∷ [])) ≡ prints_from line t l
unfolding prints_from cut_at
closed line t [] h u = absurd (omega arith)
closed line t (b ∷ p) h u =
    ap (answers line t) (cut_unmarked newline [] b p (newline ∷ []) u ∙ rw append-nil (sym (cut_whole newline [] b p u)))

pub unfinished_take : (n : ℕ) (l : List ℕ) → Unfinished l → Unfinished (take n l)
unfolding before
unfinished_take zero l u = refl
unfinished_take (suc n) [] u = refl
unfinished_take (suc n) (b ∷ l) u =
    let v = unmarked_tail newline b l u in
    rw v.0 (ap suc (unfinished_take n l v.1))

-- an overlong line is answered 15 whatever its bytes
overlong_first : (line : ℕ) (t : Table) (p q r : List ℕ) → Unfinished p → Unfinished q → 40 < length p → 40 < length q
    → prints_from line t (p ++ r) ≡ prints_from line t (q ++ r)
unfolding prints_from answers
overlong_first line t [] q r u v h k = absurd (omega arith)
overlong_first line t (b ∷ p) [] r u v h k = absurd (omega arith)
overlong_first line t (b ∷ p) (c ∷ q) r u v h k = rw (cut_unmarked newline [] b p r u, cut_unmarked newline [] c q r v) (by (lines_of r))
  where
    long : (x l : List ℕ) → 40 < length x → read_line (x ++ l) ≡ None
    long x l h = overlong (x ++ l) (omega (arith, length-append x l))

    by : (ls : List (List ℕ)) → answers line t (prepend (b ∷ p) ls) ≡ answers line t (prepend (c ∷ q) ls)
    by [] = rw (overlong (b ∷ p) h, overlong (c ∷ q) k)
    by (l ∷ ls) = rw (long (b ∷ p) l h, long (c ∷ q) l k)

-- "an overlong one too": of an unfinished line 41 bytes are enough
pub cut_short : (line : ℕ) (t : Table) (l r : List ℕ) → Unfinished l → prints_from line t (take 41 l ++ r) ≡ prints_from line t (l ++ r)
cut_short line t l r u =
    ⊎_elim (λ (h : length l ≤ 41). rw (take_all 41 l h))
    (λ (h : 41 < length l).
    let n : length (take 41 l) ≡ 41 = simp length-take (omega arith) in
    overlong_first line t (take 41 l) l r (unfinished_take 41 l u) u (omega arith) (omega arith))
    (le_or_lt (length l) 41)
