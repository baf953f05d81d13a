use Rattle.share.proofs.Passes.{Passing}
use Rattle.share.proofs.Table.pass.Given as goal

-- the rows from `at` on are passed
abbrev pub invariant-loop-at : goal.invariant-loop-at
invariant-loop-at l = Passing l.initial.self l.self l.at
