use Rattle.lines.proofs.Decimals.{Reached}
use Rattle.lines.proofs.reading.decimal_at.Given as goal

abbrev pub invariant-loop-i : goal.invariant-loop-i
invariant-loop-i l = Reached l.s l.at l.value l.i
