-- What holds of the loop over the lines of a piece: whatever comes after it, the piece prints what is written and then what is left of it.
use mathlib.Core.Path.{◌≡◌, refl, ◌∙◌}
use mathlib.Core.Bool.{true, false}
use mathlib.Core.List.{List, ◌++◌, append_assoc}
use mathlib.Core.Logic.{◌⊎◌}
use Prim.Native.Nat.{ℕ, suc, ◌+◌, ◌-◌, ◌^◌, ◌≤◌, ◌<◌}
use native.Mathlib.Numerals.{add-one}
use native.Mathlib.Omega.{arith}
use lib.ListN.{length, take, drop, length-drop}
use lib.Seq.{drop-drop}
use Rattle.std.proofs.lemmas.List.{take_rest}
use Rattle.laws.proofs.Tests.{clash}
use Rattle.head.specs.declared.Refusal.{Refusal}
use Rattle.head.specs.declared.Answer.{Answer}
use Rattle.head.specs.declared.Answer.TheVariants.{Accepted, Granted, Reported, Stands}
use Rattle.head.specs.declared.Event.{Event}
use Rattle.std.specs.Prelude.{Option, None, Some, Result, Ok, Err}
use Rattle.head.specs.declared.Shown.{Shown}
use Rattle.head.specs.Answers.{number, plainly, shown_as, broken}
use Rattle.share.specs.declared.Table.{Table}
use Rattle.share.specs.declared.Reply.{Reply}
use Rattle.share.specs.Calls.{step}
use Rattle.lines.specs.declared.Done.{Done}
use Rattle.lines.specs.Cut.{newline, before}
use Rattle.lines.specs.Grammar.{read_line}
use Rattle.lines.specs.Places.{Wrote}
use Rattle.lines.specs.Print.{answer_line, shown_line, who_in, slice_in, printed, after, prints_from}
use Rattle.lines.specs.Pieces.{Unfinished, Worked, bytes_in}
use Rattle.lines.proofs.Cutting.{before_take}
use Rattle.lines.proofs.Digits.{wrote_length, wrote_take, shown_most}
use Rattle.lines.proofs.Pieces.{first_line}

-- what the writer is handed for a line is what the line prints
shown_reply : (line : ℕ) (a : Result Answer Refusal) (sum total : ℕ) → shown_line line (shown_as a) sum total ≡ answer_line line (number a) (who_in a) (slice_in a) sum total
unfolding shown_line
shown_reply line (Ok Accepted) sum total = refl
shown_reply line (Ok (Granted queue slice)) sum total = refl
shown_reply line (Ok (Reported denominator)) sum total = refl
shown_reply line (Ok (Stands standing)) sum total = refl
shown_reply line (Err why) sum total = refl

known_line : (line : ℕ) (t : Table) (event : Event) → shown_line line (shown_as (step t event).answer) (step t event).table.head.sum (step t event).table.head.total ≡ printed line t (Some event)
unfolding printed
known_line line t event = shown_reply line (step t event).answer (step t event).table.head.sum (step t event).table.head.total

broken_line : (line : ℕ) (t : Table) → shown_line line (plainly broken) t.head.sum t.head.total ≡ printed line t None
unfolding printed shown_line
broken_line line t = refl

printed_most : (line : ℕ) (t : Table) (l : Option Event) → length (printed line t l) ≤ 126
printed_most line t (Some event) = rw (← known_line line t event) (shown_most line (shown_as (step t event).answer) (step t event).table.head.sum (step t event).table.head.total)
printed_most line t None = rw (← broken_line line t) (shown_most line (plainly broken) t.head.sum t.head.total)

pub record Working (line : ℕ) (t : Table) (input out₀ out : List ℕ) (d : Done) : Type 0 where
  pub within : d.read ≤ length input
  pub room : d.written ≤ length out
  pub same : length out ≡ length out₀
  pub numbered : d.line < 2 ^ 64
  pub ends : d.ends ≡ true
  pub prints : (rest : List ℕ) → prints_from line t (input ++ rest) ≡ take d.written out ++ prints_from d.line d.table (drop d.read input ++ rest)

pub working_first : (line : ℕ) (t : Table) (input out : List ℕ) → line < 2 ^ 64
    → Working line t input out out (record { read = 0; written = 0; ends = true; line = line; table = t })
working_first line t input out h = record { within = omega arith; room = omega arith; same = refl; numbered = h; ends = refl; prints = λ rest. refl }

module _ {line : ℕ} {t : Table} {input out₀ out : List ℕ} {d : Done} (w : Working line t input out₀ out d) where
  abbrev left : List ℕ
  left = drop d.read input

  -- what is left has no newline, or there is no room or number for its line
  pub working_ended : Unfinished left → Worked line t input out d
  working_ended s = record { within = w.within; room = w.room; prints = w.prints; ended = λ e. s; stopped = λ e. absurd (clash w.ends e) }

  pub working_stopped : (length out < d.written + 126) ⊎ (d.line + 1 ≡ 2 ^ 64)
      → Worked line t input out (record { read = d.read; written = d.written; ends = false; line = d.line; table = d.table })
  working_stopped s = record { within = w.within; room = w.room; prints = w.prints; ended = λ e. absurd (clash e refl); stopped = λ e. s }

  -- the next line is whole: it has n bytes, its answer has room, and there is a number for the line after it
  module _ {n : ℕ} (at : n ≡ length (before newline left)) (inside : n < length left) (has_room : d.written + 126 ≤ length out) (has_number : d.line + 1 < 2 ^ 64) where
    the_line : bytes_in input d.read (d.read + n) ≡ before newline left
    the_line = let k : d.read + n - d.read ≡ length (before newline left) = omega arith in rw k (before_take newline left)

    -- it is answered: what it prints stands in the buffer, and the table is the one after it
    module _ {l : Option Event} (read : l ≡ read_line (bytes_in input d.read (d.read + n))) {v : Table} (moved : v ≡ after d.table l) {o : List ℕ} {p : ℕ}
        (x : Wrote out d.written (printed d.line d.table l) o p) where
      fits : p ≤ length out
      fits = omega (arith, x.place, printed_most d.line d.table l)

      prints_next : (rest : List ℕ) → take d.written out ++ prints_from d.line d.table (left ++ rest) ≡ take p o ++ prints_from (d.line + 1) v (drop (d.read + n + 1) input ++ rest)
      prints_next rest =
          let whole : length (before newline left) < length left = omega arith in
          let past : d.read + suc (length (before newline left)) ≡ d.read + n + 1 = omega arith in
          rw (first_line d.line d.table left rest whole, drop-drop, past, wrote_take x fits, moved, rw the_line at read, append_assoc, add-one d.line)

      next_turn : Working line t input out₀ o (record { read = d.read + n + 1; written = p; ends = d.ends; line = d.line + 1; table = v })
      next_turn =
          record {
            within = omega (arith, length-drop d.read input, w.within);
            room = omega (arith, wrote_length x, fits);
            same = wrote_length x ∙ w.same;
            numbered = has_number;
            ends = w.ends;
            prints = λ rest. w.prints rest ∙ prints_next rest;
          }

    pub working_known : {event : Event} → Some event ≡ read_line (bytes_in input d.read (d.read + n)) → {reply : Reply} → reply ≡ step d.table event
        → {a : Shown} → a ≡ shown_as reply.answer → {o : List ℕ} {p : ℕ} → Wrote out d.written (shown_line d.line a reply.table.head.sum reply.table.head.total) o p
        → Working line t input out₀ o (record { read = d.read + n + 1; written = p; ends = d.ends; line = d.line + 1; table = reply.table })
    unfolding after
    working_known known is shows x = next_turn known (rw is) (rw (shows, is, known_line) at x)

    pub working_broken : None ≡ read_line (bytes_in input d.read (d.read + n)) → {a : Shown} → a ≡ plainly broken
        → {o : List ℕ} {p : ℕ} → Wrote out d.written (shown_line d.line a d.table.head.sum d.table.head.total) o p
        → Working line t input out₀ o (record { read = d.read + n + 1; written = p; ends = d.ends; line = d.line + 1; table = d.table })
    unfolding after
    working_broken told shows x = next_turn told refl (rw (shows, broken_line) at x)

pub ruleset working = (take_rest, working_first, working_ended, working_stopped)
