-- `work` goes from line to line. The invariant is `Working`: whatever comes after the piece, it prints what is written and then what is left
-- of it. The measure is what is left of the piece.
use Prim.Native.Nat.{◌+◌, ◌^◌, ◌≤◌, ◌<◌}
use native.Mathlib.Omega.{arith}
use lib.ListN.{length}
use Rattle.std.proofs.lemmas.List.{take_rest}
use Rattle.lines.proofs.Working.{working_known, working_broken}
use Rattle.lines.proofs.work.Goals.{in-Some-read_line, in-None}
use Rattle.lines.proofs.work.Goals as goal

pub loop-length-preserved : goal.loop-length-preserved
loop-length-preserved c =
    let line = rw take_rest at c.in-Some.ensures in
    let room : c.loop-length.done.written + 126 ≤ length c.loop-length.out = omega (arith, c.loop-length.invariant, c.if-out-done-lt-ROOM.false) in
    let number : c.loop-length.done.line + 1 < 2 ^ 64 = omega (arith, c.loop-length.invariant, c.if-done.false) in
    elim c.match-read_line.branch [
      | in-Some-read_line b ↦
          rw b.done-is
          (working_known c.loop-length.invariant line.0 line.1 room number b.in-Some-read_line.ensures b.apply-reply.ensures b.into-shown.ensures
          (rw (b.done-is, b.shown-is) at c.write_answer.ensures))
      | in-None b ↦
          rw b.done-is
          (working_broken c.loop-length.invariant line.0 line.1 room number b.in-None.ensures b.plain-shown.ensures
          (rw (b.done-is, b.shown-is) at c.write_answer.ensures))
    ]
