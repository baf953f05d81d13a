-- `turn` works the bytes that are held; if no whole line is left, it moves the unfinished one to the front.
use Rattle.lines.proofs.Turning.{turned_ends, turned_more}
use Rattle.lines.proofs.turn.Goals.{then-done, else-done}
use Rattle.lines.proofs.turn.Goals as goal

pub returns : goal.returns
returns c =
    elim c.if-done.branch [
      | then-done b ↦
          rw (b.from-is, b.buf-is, b.if-done.true)
          (turned_ends c.args.state c.args.buf.now c.in-Some.ensures.lookup.0.2 c.work-done.ensures b.if-done.true b.keep.ensures)
      | else-done b ↦
          rw (b.from-is, b.buf-is, b.if-done.false)
          (turned_more c.args.state c.args.buf.now c.in-Some.ensures.lookup.0.2 c.work-done.ensures b.if-done.false)
    ]
