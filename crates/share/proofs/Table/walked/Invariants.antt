use Rattle.share.proofs.Table.walked.Given as goal
use Rattle.share.specs.Walks.{SoFar}

-- the rows before `at` are walked over
abbrev pub invariant-loop-at : goal.invariant-loop-at
invariant-loop-at l = SoFar l.self l.at l.seen
