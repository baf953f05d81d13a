-- One digit further: `reached_next`.
use native.Mathlib.Omega.{arith}
use Rattle.lines.proofs.Decimals.{reached_next}
use Rattle.lines.proofs.reading.decimal_at.Goals as goal

pub loop-i-preserved : goal.loop-i-preserved
loop-i-preserved c =
    reached_next c.loop-i.invariant c.loop-i-test.true c.if-byte-eq32.false (grind arith) (grind arith) c.if-i-at-eq-MOST_DIGITS.false c.else-at-i.either c.from.ensures
