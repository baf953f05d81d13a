-- `put` prints the number and ends it with its byte.
use native.Mathlib.Omega.{arith}
use Rattle.lines.proofs.Digits.{wrote_number}
use Rattle.lines.proofs.writing.Writer.put.Goals as goal

pub returns-clause-wrote : goal.returns-clause-wrote
returns-clause-wrote c = wrote_number c.put_bytes.ensures.wrote c.put_bytes-2.ensures.wrote (cc) (omega arith)
