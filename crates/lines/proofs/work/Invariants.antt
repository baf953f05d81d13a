use Prim.Native.Nat.{◌-◌}
use lib.ListN.{length}
use Rattle.lines.proofs.Working.{Working}
use Rattle.lines.proofs.work.Given as goal

abbrev pub invariant-loop-length : goal.invariant-loop-length
invariant-loop-length l = Working l.line l.fn.table l.input l.initial.out l.out l.done

abbrev pub decreases-loop-length : goal.decreases-loop-length
decreases-loop-length l = length l.input - l.done.read
