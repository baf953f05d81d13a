-- A turn of the program: lines worked, an unfinished one moved to the front, a newline put after the last. Each leaves what is still to be
-- printed, so turns one after the other print what the whole input prints.
use mathlib.Core.Path.{◌≡◌, refl, sym, ◌∙◌}
use mathlib.Core.Bool.{true, false}
use mathlib.Core.List.{List, [], ◌∷◌, ◌++◌, append_assoc, append-nil}
use mathlib.Core.Logic.{⊎_elim}
use Prim.Native.Nat.{ℕ, zero, suc, min, ◌+◌, ◌-◌, ◌≤◌, ◌<◌}
use native.Mathlib.Nat.{sub-zero}
use native.Mathlib.Omega.{arith}
use lib.ListN.{length, take, drop, set, length-take, length-drop}
use lib.Seq.{paste, drop-drop, take-suc-set, drop-set-add, take-nil, take_all, take_at}
use Rattle.std.proofs.lemmas.List.{take-take}
use Rattle.std.proofs.lemmas.List.Edits.{length-paste}
use Rattle.laws.proofs.Tests.{clash, le_or_lt}
use Rattle.lines.specs.declared.Done.{Done}
use Rattle.lines.specs.declared.State.{State}
use Rattle.lines.specs.Cut.{newline, cut_at}
use Rattle.lines.specs.Print.{header, answers, prints_from, prints}
use Rattle.lines.specs.Pieces.{Unfinished, Worked, bytes_in, MovedToFront, held_in, prints_on, begun, Turned, Closed}
use Rattle.lines.proofs.Pieces.{closed, cut_short, unfinished_take}

drop_take : (n m : ℕ) (l : List ℕ) → drop n (take m l) ≡ take (m - n) (drop n l)
drop_take zero m l = rw sub-zero
drop_take (suc n) zero l = let e : 0 - suc n ≡ 0 = omega arith in rw e
drop_take (suc n) (suc m) [] = rw take-nil
drop_take (suc n) (suc m) (b ∷ l) = let e : suc m - suc n ≡ m - n = omega arith in rw e (drop_take n m l)

pub bytes_after : (buf : List ℕ) (from have n : ℕ) → drop n (bytes_in buf from have) ≡ bytes_in buf (from + n) have
bytes_after buf from have n = let e : have - from - n ≡ have - (from + n) = omega arith in rw (drop_take n (have - from) (drop from buf), drop-drop, e)

-- the first bytes of a line copied to the front, as many as are kept
pub moved : (buf : List ℕ) (from have kept : ℕ) → kept ≡ min (have - from) 41 → from ≤ have → have ≤ length buf
    → MovedToFront buf from have (paste buf 0 (drop from buf) kept) kept
moved buf from have kept k h l =
    record {
      few = omega arith;
      within = omega (arith, length-paste buf 0 (drop from buf) kept (omega arith) (omega (arith, length-drop from buf)));
      front = copied ∙ ⊎_elim whole cut (le_or_lt (have - from) 41);
    }
  where
    copied : take kept (paste buf 0 (drop from buf) kept) ≡ take kept (drop from buf)
    copied = take_at (take kept (drop from buf)) (drop (0 + kept) buf) kept (simp (length-take, length-drop) (omega arith))

    whole : have - from ≤ 41 → take kept (drop from buf) ≡ take 41 (bytes_in buf from have)
    whole few =
        let e : kept ≡ have - from = omega arith in
        rw (e, take_all 41 (bytes_in buf from have) (simp length-take (omega arith)))

    cut : 41 < have - from → take kept (drop from buf) ≡ take 41 (bytes_in buf from have)
    cut many =
        let e : kept ≡ 41 = omega arith in
        rw (e, take-take 41 (have - from) (drop from buf) (omega arith))

module _ (s : State) (entry : List ℕ) {held out : List ℕ} {d : Done} (is : held ≡ held_in s entry) (w : Worked s.line s.table held out d) where
  left_over : (rest : List ℕ) → prints_on s entry rest ≡ take d.written out ++ prints_from d.line d.table (bytes_in entry (s.from + d.read) s.have ++ rest)
  left_over rest = rw (is, bytes_after) at (w.prints rest)

  pub turned_more : d.ends ≡ false → Turned s entry entry out
      (record { table = d.table; line = d.line; from = s.from + d.read; have = s.have; more = true; written = d.written })
  turned_more e =
      record {
        room = w.room;
        prints = left_over;
        waits = λ m. absurd (clash refl m);
        stopped = λ a b m. w.stopped e;
      }

  pub turned_ends : {exit : List ℕ} {k : ℕ} → d.ends ≡ true → MovedToFront entry (s.from + d.read) s.have exit k
      → Turned s entry exit out (record { table = d.table; line = d.line; from = 0; have = k; more = false; written = d.written })
  turned_ends {exit} {k} e p =
      let left : Unfinished (bytes_in entry (s.from + d.read) s.have) = rw (is, bytes_after) at (w.ended e) in
      let front : take (k - 0) exit ≡ take 41 (bytes_in entry (s.from + d.read) s.have) = rw sub-zero p.front in
      record {
        room = w.room;
        prints = λ rest. left_over rest ∙ rw (front, cut_short);
        waits = λ _. record { unfinished = rw front (unfinished_take 41 (bytes_in entry (s.from + d.read) s.have) left); first = refl; few = p.few };
        stopped = λ a b m. absurd (clash m refl);
      }

-- one byte more at the end of what is held
bytes_more : (buf : List ℕ) (from have b : ℕ) → from ≤ have → have < length buf → bytes_in (set buf have b) from (have + 1) ≡ bytes_in buf from have ++ (b ∷ [])
bytes_more buf from have b h k =
    let n : have + 1 - from ≡ suc (have - from) = omega arith in
    let at : from + (have - from) ≡ have = omega arith in
    let inside : have - from < length (drop from buf) = omega (arith, length-drop from buf) in
    let moved : drop from (set buf have b) ≡ set (drop from buf) (have - from) b = rw at at (drop-set-add from buf (have - from) b) in
    rw (n, moved) (take-suc-set (drop from buf) (have - from) b inside)

pub closed_newline : (s : State) (buf : List ℕ) → s.from < s.have → s.have < length buf
    → Closed s buf (set buf s.have newline) (record { table = s.table; line = s.line; from = s.from; have = s.have + 1; more = true; written = 0 })
closed_newline s buf h k =
    let some_held : 0 < length (held_in s buf) = simp (length-take, length-drop) (omega arith) in
    let more : bytes_in (set buf s.have newline) s.from (s.have + 1) ≡ held_in s buf ++ (newline ∷ []) = bytes_more buf s.from s.have newline (omega arith) k in
    record {
      ends = λ a b. more;
      same = (refl, refl);
      prints =
          λ u. rw (more, append-nil (held_in s buf ++ (newline ∷ [])), append-nil (held_in s buf)) (closed s.line s.table (held_in s buf) some_held u);
    }

-- A run of the program: turns, and input read in between, until there is none and nothing is held. `p` is all that it writes.
pub data Run : State → List ℕ → List ℕ → List ℕ → Type 0 where
  -- a turn was taken, and what it wrote was written
  turned : {s r : State} {buf next out rest p : List ℕ} → Turned s buf next out r → Run r next rest p → Run s buf rest (take r.written out ++ p)
  -- a piece was read into the buffer after what is held
  filled : {s r : State} {buf next rest p : List ℕ} (piece : List ℕ) → r.line ≡ s.line → r.table ≡ s.table → held_in r next ≡ held_in s buf ++ piece → Run r next rest p
      → Run s buf (piece ++ rest) p
  -- the input ended, and a newline was put after an unfinished line
  ended : {s r : State} {buf next p : List ℕ} → Unfinished (held_in s buf) → Closed s buf next r → Run r next [] p → Run s buf [] p
  done : {s : State} {buf : List ℕ} → held_in s buf ≡ [] → Run s buf [] []

pub run_prints : {s : State} {buf rest p : List ℕ} → Run s buf rest p → p ≡ prints_on s buf rest
unfolding prints_from answers cut_at
run_prints {rest = rest} (turned t r) = rw (run_prints r) (sym (t.prints rest))
run_prints {s} {buf} (filled {rest = rest} piece l t h r) = run_prints r ∙ rw (l, t, h, append_assoc)
run_prints (ended u c r) = run_prints r ∙ c.prints u
run_prints (done h) = rw h

-- whatever pieces the input comes in, the program prints what document 01 says of the whole of it
pub whole_run : (buf input p : List ℕ) → Run begun buf input p → header ++ p ≡ prints input
unfolding prints
whole_run buf input p r = rw (run_prints r)
