use Rattle.share.proofs.Written.{Writing}
use Rattle.share.proofs.Table.write_lags.Given as goal

-- the entries before `at` are written
abbrev pub invariant-loop-at : goal.invariant-loop-at
invariant-loop-at l = Writing l.self l.initial.list l.at l.list
