-- `put_grant` puts two numbers, one after the other, or dashes.
use Rattle.std.proofs.Common.{rules}
use Rattle.lines.proofs.Digits.{wrote_grant, wrote_dashes}
use Rattle.lines.proofs.writing.Writer.put_grant.Goals as goal

pub returns-in-Some-clause-wrote : goal.returns-in-Some-clause-wrote
returns-in-Some-clause-wrote c = search (rules, wrote_grant)

pub returns-in-None-clause-wrote : goal.returns-in-None-clause-wrote
returns-in-None-clause-wrote c = search (rules, wrote_dashes)
